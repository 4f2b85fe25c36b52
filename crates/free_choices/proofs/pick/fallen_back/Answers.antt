use Rattle.std.proofs.lemmas.Result.{IfOk-weaker}
use Rattle.free_choices.proofs.Openness.{fixed_serves}
use Rattle.free_choices.proofs.pick.fallen_back.Goals as goal

pub returns : goal.returns
returns c = IfOk-weaker c.pick_fixed.result _ _ (λ pick is. fixed_serves c.args.graph.now pick is) c.pick_fixed.ensures
