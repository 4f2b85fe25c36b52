use Rattle.std.proofs.Common.{ℕ, ◌+◌, List, sym, subst}
use Rattle.dispatch_core.proofs.Fallen.{AreListed, one_listed}
use Rattle.dispatch_core.proofs.settling.failing.Goals as goal

pub loop-number-preserved : goal.loop-number-preserved
loop-number-preserved c =
    let n = c.loop-number.number in
    subst (λ (l : List ℕ). AreListed c.args.problem.now c.args.fixings.now c.args.nodes.now (n + 1) l) (sym c.in_ok-note_failing.ensures)
    (one_listed c.args.problem.now c.args.fixings.now c.args.nodes.now n c.loop-number.failing.items c.in_ok-holds.holds c.loop-number.invariant c.in_ok-holds.ensures)
