use Rattle.std.proofs.Common.{List, take, sym, subst}
use Rattle.disp_model.specs.declared.train.Listing.{Listing}
use Rattle.disp_model.specs.Arcs.{shared_listings}
use Rattle.problem_facts.specs.Conflicts.{IsShared}
use Rattle.problem_facts.proofs.Releasing.{shared_more}
use Rattle.problem_facts.proofs.conflicts.shared_release.Goals as goal

pub loop-listing-preserved : goal.loop-listing-preserved
loop-listing-preserved c =
    let listings = c.args.listings.now in
    let i = c.loop-listing.listing-index in
    subst (λ (shared : List Listing). IsShared shared c.raised-greatest.result) (sym (shared_more listings c.args.others.now i (record { resource = 0; release = 0 }) c.loop-listing-test.true))
    (c.raised-greatest.ensures (shared_listings (take i listings) c.args.others.now) c.loop-listing.invariant)
