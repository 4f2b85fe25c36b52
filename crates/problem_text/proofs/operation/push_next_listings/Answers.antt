use Rattle.problem_text.specs.Texts.{written_listing}
use Rattle.problem_text.proofs.Listing.{more_elements}
use Rattle.problem_text.proofs.operation.push_next_listings.Goals as goal

pub loop-listing-preserved : goal.loop-listing-preserved
loop-listing-preserved c = more_elements (written_listing c.args.names.now) c.args.listings.now
    c.loop-listing.listing-index _ c.loop-listing-test.true c.loop-listing.invariant
    c.in_ok-push_text.ensures.ok c.in_ok-push_listing.ensures
