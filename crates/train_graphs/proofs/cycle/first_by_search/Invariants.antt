-- no operation so far lies on a cycle
use Rattle.std.proofs.Common.{◌<◌, ℕ}
use Rattle.train_graphs.specs.Graphs.{IsOnCycle}
use Rattle.train_graphs.proofs.cycle.first_by_search.Given as goal

abbrev pub invariant-loop-o : goal.invariant-loop-o
invariant-loop-o l = (p : ℕ) → p < l.o → IsOnCycle l.train p → ⊥
