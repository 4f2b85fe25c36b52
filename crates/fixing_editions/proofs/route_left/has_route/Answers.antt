use Rattle.disp_model.specs.Node.{Node, root_of}
use Rattle.fixing_editions.specs.Own.{fixings_with}
use Rattle.fixing_editions.proofs.Owning.{some_left}
use Rattle.fixing_editions.proofs.route_left.has_route.Goals as goal

pub returns : goal.returns
returns c =
    let node : Node = root_of c.args.problem.now (fixings_with c.args.kept.now c.args.fixing.now) in
    some_left node c.args.at_train c.none_left.result c.requires.there (c.none_left.ensures node c.args.at_train (rw (c.deref.ensures.value, c.in_ok-fixings.ensures) at c.in_ok-routes.ensures))
