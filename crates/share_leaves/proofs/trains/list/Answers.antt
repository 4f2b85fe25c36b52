use Rattle.share_leaves.proofs.Listing.{low_listing}
use Rattle.share_leaves.proofs.trains.list.Goals as goal

pub list_part-requires-clause-holds : goal.list_part-requires-clause-holds
list_part-requires-clause-holds c = λ listing is.
    low_listing c.args.graph.now c.args.train c.args.known.now c.in-Some.part listing
    c.requires.bases c.requires.holds c.in-Some.is is
