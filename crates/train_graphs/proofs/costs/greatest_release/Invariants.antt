-- the greatest of those so far and of those that are left
use Rattle.std.proofs.Common.{◌≡◌, max, drop}
use Rattle.disp_model.specs.WellFormed.{greatest_release}
use Rattle.train_graphs.proofs.costs.greatest_release.Given as goal

abbrev pub invariant-loop-listing : goal.invariant-loop-listing
invariant-loop-listing l = max l.greatest (greatest_release (drop l.listing-index l.listings)) ≡ greatest_release l.listings
