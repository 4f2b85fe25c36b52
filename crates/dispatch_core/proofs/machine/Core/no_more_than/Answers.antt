use Rattle.std.proofs.Common.{Some, subst}
use Rattle.disp_model.specs.Replay.{IsBelowBest}
use Rattle.disp_model.specs.History.{IsBestCost}
use Rattle.dispatch_core.specs.States.{Core}
use Rattle.dispatch_core.proofs.machine.Core.no_more_than.Goals as goal

pub returns-else-best-cost : goal.returns-else-best-cost
returns-else-best-cost c =
    let inside = c.self.inside in
    let best_is = subst (IsBestCost inside.editions.problem inside.history.items) c.in_ok-best.was c.self.invariant.0.best_is in
    subst (λ (s : Core). IsBelowBest s.problem s.history c.args.cost) c.self.view_is (Some c.in_ok-best.best, best_is, c.if-best-cost.false)
