-- the listings so far are looked at
use Rattle.std.proofs.Common.{take}
use Rattle.branch_rules.specs.Behind.{IsFirstWith}
use Rattle.branch_rules.proofs.behind.Behind.first_with.Given as goal

abbrev pub invariant-loop-listing : goal.invariant-loop-listing
invariant-loop-listing l = IsFirstWith l.problem l.events l.place l.event (take l.listing-index l.listing-items) l.first
