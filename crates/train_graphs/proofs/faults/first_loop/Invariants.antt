-- no train so far has a cycle
use Rattle.std.proofs.Common.{◌≡◌, ◌<◌, ℕ, List, Some}
use Rattle.std.specs.Prelude.{slice_get}
use Rattle.disp_model.specs.declared.train.Operation.{Operation}
use Rattle.train_graphs.specs.Graphs.{HasNoCycle}
use Rattle.train_graphs.proofs.faults.first_loop.Given as goal

abbrev pub invariant-loop-t : goal.invariant-loop-t
invariant-loop-t l = (k : ℕ) (other : List Operation) → k < l.t → slice_get l.trains k ≡ Some other → HasNoCycle other
