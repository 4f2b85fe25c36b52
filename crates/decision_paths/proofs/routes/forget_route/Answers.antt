use Rattle.std.proofs.Common.{◌≡◌, ◌-◌, List, length, subst}
use Rattle.std.specs.Global.{Vec}
use Rattle.disp_model.specs.declared.decision.Decision.{Decision}
use Rattle.decision_paths.specs.Kept.{list_of}
use Rattle.decision_paths.proofs.Listing.{routes_forgot}
use Rattle.decision_paths.proofs.routes.forget_route.Goals as goal

pub returns : goal.returns
returns c decisions decision are about =
    let place_is = subst (λ (l : List (Vec Decision)). c.list_of-place.result ≡ list_of (length l - 1) c.args.train) c.deref.ensures.value c.list_of-place.ensures in
    routes_forgot decisions decision c.args.lists.now.items c.args.train c.list_of-place.result c.index_mut.result.now c.pop.new.self about c.requires place_is c.index_mut.ensures.value c.pop.ensures.rest are
