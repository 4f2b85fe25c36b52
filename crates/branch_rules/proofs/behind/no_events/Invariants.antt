-- of none of the trains so far
use Rattle.std.proofs.Common.{◌≡◌, ℕ, length, None}
use Rattle.std.specs.Prelude.{slice_index_or}
use Rattle.branch_rules.proofs.behind.no_events.Given as goal

abbrev pub invariant-loop : goal.invariant-loop
invariant-loop l = record {
  count : length l.next.items ≡ l.counter;
  none : (t : ℕ) → slice_index_or l.next.items t None ≡ None;
}
