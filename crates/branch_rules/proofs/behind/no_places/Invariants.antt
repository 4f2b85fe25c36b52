-- for none of the resources so far
use Rattle.std.proofs.Common.{◌≡◌, ℕ, length, [], Some}
use Rattle.std.specs.Prelude.{slice_get}
use Rattle.std.specs.Global.{Vec}
use Rattle.branch_rules.proofs.behind.no_places.Given as goal

abbrev pub invariant-loop : goal.invariant-loop
invariant-loop l = record {
  count : length l.listed.items ≡ l.counter;
  none : (r : ℕ) (places : Vec ℕ) → slice_get l.listed.items r ≡ Some places → places.items ≡ [];
}
