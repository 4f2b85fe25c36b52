-- the places from the one on are looked at
use Rattle.std.proofs.Common.{◌≤◌, length}
use Rattle.branch_rules.specs.Pairs.{ending_of}
use Rattle.branch_rules.proofs.Looking.{TriedFrom}
use Rattle.branch_rules.proofs.behind.first_on.Given as goal

abbrev pub invariant-loop-at : goal.invariant-loop-at
invariant-loop-at l = record {
  within : l.at ≤ length l.places;
  tried : TriedFrom l.events l.places l.at l.holder l.listing (ending_of l.end) l.fn.known l.first;
}
