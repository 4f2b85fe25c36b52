use Rattle.std.proofs.Common.{◌≡◌}
use Rattle.tree_dives.proofs.prefer.open_one.Given as goal

abbrev pub invariant-loop-other : goal.invariant-loop-other
invariant-loop-other l = record { same : l.graph ≡ l.initial.graph }
