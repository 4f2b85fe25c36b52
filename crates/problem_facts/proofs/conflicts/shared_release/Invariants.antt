-- the greatest of the listings so far
use Rattle.std.proofs.Common.{take}
use Rattle.disp_model.specs.Arcs.{shared_listings}
use Rattle.problem_facts.specs.Conflicts.{IsShared}
use Rattle.problem_facts.proofs.conflicts.shared_release.Given as goal

abbrev pub invariant-loop-listing : goal.invariant-loop-listing
invariant-loop-listing l = IsShared (shared_listings (take l.listing-index l.listings) l.others) l.greatest
