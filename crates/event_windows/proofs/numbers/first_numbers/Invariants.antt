-- the first numbers of the trains before
use Rattle.std.proofs.Common.{◌≡◌, ℕ, ◌<◌, length, Some}
use Rattle.std.specs.Prelude.{slice_get}
use Rattle.event_windows.specs.Operations.{operations_before}
use Rattle.event_windows.proofs.numbers.first_numbers.Given as goal

abbrev pub invariant-loop-train : goal.invariant-loop-train
invariant-loop-train l = record { long : length l.firsts.items ≡ l.train-index; count : l.count ≡ operations_before l.problem l.train-index; first : (t : ℕ) → t < l.train-index → slice_get l.firsts.items t ≡ Some (operations_before l.problem t) }
