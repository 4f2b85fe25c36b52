-- none of the resources so far has a holder
use Rattle.std.proofs.Common.{◌≡◌, ℕ, length, [], Some}
use Rattle.std.specs.Prelude.{slice_get}
use Rattle.std.specs.Global.{Vec}
use Rattle.first_overlaps.specs.declared.holder.Holder.{Holder}
use Rattle.first_overlaps.proofs.holder.none_yet.Given as goal

abbrev pub invariant-loop : goal.invariant-loop
invariant-loop l = record {
  count : length l.each.items ≡ l.counter;
  none : (r : ℕ) (list : Vec Holder) → slice_get l.each.items r ≡ Some list → list.items ≡ [];
}
