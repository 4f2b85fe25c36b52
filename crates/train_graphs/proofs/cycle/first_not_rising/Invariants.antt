-- the successors of the operations so far have higher ranks
use Rattle.std.proofs.Common.{◌≡◌, ℕ, ◌<◌, Some}
use Rattle.std.specs.Prelude.{slice_get, slice_index, All}
use Rattle.disp_model.specs.declared.train.Operation.{Operation}
use Rattle.train_graphs.specs.Ranks.{HasRankAbove}
use Rattle.train_graphs.proofs.cycle.first_not_rising.Given as goal

abbrev pub invariant-loop-o : goal.invariant-loop-o
invariant-loop-o l = (k : ℕ) (p : Operation) → k < l.o → slice_get l.train k ≡ Some p → All (HasRankAbove l.ranks (slice_index l.ranks k)) p.next
