use Rattle.std.proofs.Common.{◌∙◌, sym}
use Rattle.std.proofs.lemmas.Result.{IfOk-weaker}
use Rattle.dispatch_core.proofs.Fallen.{holds_says}
use Rattle.dispatch_core.proofs.settling.holds.Goals as goal

pub returns : goal.returns
returns c = IfOk-weaker c.check_leaf.result _ _ (λ holds h place there.
    holds_says c.args.problem.now c.args.fixings.now c.args.nodes.now c.args.number place there c.in-Some-Some.leaf c.in-Some-Some.bound c.as_slice.result.now holds
    (sym c.in_ok-leaf.ensures ∙ c.in-Some-Some.is-0) c.in-Some-Some.ensures (c.as_slice.ensures ∙ c.in_ok-decisions.ensures) h) c.check_leaf.ensures
