-- the successors of the operations so far have no lower ranks
use Rattle.std.proofs.Common.{◌≡◌, ℕ, ◌<◌, Some}
use Rattle.std.specs.Prelude.{slice_get, slice_index, All}
use Rattle.disp_model.specs.declared.train.Operation.{Operation}
use Rattle.train_graphs.specs.Ranks.{IsNotBelow}
use Rattle.train_graphs.proofs.cycle.never_falls.Given as goal

abbrev pub invariant-loop-o : goal.invariant-loop-o
invariant-loop-o l = (k : ℕ) (p : Operation) → k < l.o → slice_get l.train k ≡ Some p → All (IsNotBelow l.ranks (slice_index l.ranks k)) p.next
