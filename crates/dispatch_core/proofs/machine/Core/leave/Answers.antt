use Rattle.std.proofs.Common.{set, true}
use Rattle.dispatch_core.specs.States.{Core}
use Rattle.dispatch_core.proofs.Keeping.{flagged_whole}
use Rattle.dispatch_core.proofs.machine.Core.leave.Goals as goal

pub invariant_of-self : goal.invariant_of-self
invariant_of-self c =
    let s = c.self.inside in
    let core : Core =
    record { problem = s.editions.problem; settings = s.settings; history = s.history.items; nodes = s.nodes; ended = s.ended.items; left = s.left.items } in
    flagged_whole core s.editions s.best s.mark s.spent s.last c.self.invariant s.ended.items (set s.left.items c.args.searcher true)
