use Rattle.std.proofs.Common.{◌∙◌, sym, ap}
use Rattle.std.specs.Option.{is_some}
use Rattle.route_sets.proofs.routes.Routes.may_have.Goals as goal

pub returns : goal.returns
returns c node t are =
    let known = c.is_some.ensures ∙ ap is_some c.sum.ensures in
    (λ some. (are.sums c.args.op).0 (sym known ∙ some), λ on. known ∙ (are.sums c.args.op).1 on)
