use Rattle.std.proofs.lemmas.Result.{IfOk-weaker}
use Rattle.dispatch_core.specs.States.{Core}
use Rattle.dispatch_core.proofs.Answering.{failing_fallen}
use Rattle.dispatch_core.proofs.machine.Core.fallen_by.Goals as goal

pub returns-in-Withdraw : goal.returns-in-Withdraw
returns-in-Withdraw c =
    let s = c.self.inside in
    let core : Core =
    record { problem = s.editions.problem; settings = s.settings; history = s.history.items; nodes = s.nodes; ended = s.ended.items; left = s.left.items } in
    IfOk-weaker c.failing.result _ _ (λ fallen h.
    failing_fallen core c.args.self.now c.problem.result.now c.args.fixings.now c.args.change c.in-Withdraw.number fallen.items c.self.view_is c.problem.ensures c.in-Withdraw.is h) c.failing.ensures
