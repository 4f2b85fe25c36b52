-- the place is behind those of the listings so far
use Rattle.std.proofs.Common.{take}
use Rattle.branch_rules.specs.Behind.{ArePutBehind}
use Rattle.branch_rules.proofs.behind.put_all.Given as goal

abbrev pub invariant-loop-listing : goal.invariant-loop-listing
invariant-loop-listing l = ArePutBehind l.place (take l.listing-index l.listings) l.initial.listed.items l.listed.items
