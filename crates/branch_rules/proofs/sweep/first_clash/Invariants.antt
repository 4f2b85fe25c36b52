-- the events from the place on are looked at
use Rattle.std.proofs.Common.{◌≤◌, length}
use Rattle.branch_rules.specs.Behind.{IsKnownBehind, IsFirstFrom}
use Rattle.branch_rules.proofs.sweep.first_clash.Given as goal

abbrev pub invariant-loop-place : goal.invariant-loop-place
invariant-loop-place l = record {
  within : l.place ≤ length l.events;
  behind : IsKnownBehind l.problem l.events l.place l.behind;
  first : IsFirstFrom l.problem l.events l.place l.first;
}
