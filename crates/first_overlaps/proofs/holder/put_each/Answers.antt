use Rattle.std.proofs.Common.{◌∙◌, List, take, sym, subst, arith}
use Rattle.std.proofs.lemmas.List.{take_more, take_all}
use Rattle.disp_model.specs.declared.train.Listing.{Listing}
use Rattle.first_overlaps.specs.Holders.{AreHeldWith}
use Rattle.first_overlaps.proofs.Holding.{with_none, with_all, resource_within, listed_at}
use Rattle.first_overlaps.proofs.holder.put_each.Goals as goal

abbrev no_listing : Listing
no_listing = record { resource = 0; release = 0 }

pub loop-listing-init : goal.loop-listing-init
loop-listing-init c = with_none c.args.problem.now c.args.op c.args.number c.args.each.now.items c.requires.at.number c.requires.held

pub put-requires-clause-there : goal.put-requires-clause-there
put-requires-clause-there c =
    omega (arith, resource_within c.args.problem.now c.args.op c.listings_of-listing-items.result.now c.loop-listing.listing-index no_listing c.listings_of-listing-items.ensures c.requires.at.there.train c.loop-listing-test.true, c.loop-listing.invariant.sound.count)

pub loop-listing-preserved : goal.loop-listing-preserved
loop-listing-preserved c =
    let ls = c.listings_of-listing-items.result.now in
    let i = c.loop-listing.listing-index in
    subst (λ (xs : List Listing). AreHeldWith c.args.problem.now c.args.op xs c.put.new.each.items) (sym (take_more ls i no_listing c.loop-listing-test.true))
    (c.in_ok-put.ensures.held c.args.problem.now (take i ls) c.requires.at.there c.requires.at.number
    (listed_at c.args.problem.now c.args.op ls i no_listing c.listings_of-listing-items.ensures c.loop-listing-test.true) c.loop-listing.invariant)

pub returns : goal.returns
returns c =
    let ls = c.listings_of-listing-items.result.now in
    with_all c.args.problem.now c.args.op c.args.number c.loop-listing.each.items c.requires.at.there c.requires.at.number
    (subst (λ (xs : List Listing). AreHeldWith c.args.problem.now c.args.op xs c.loop-listing.each.items) (take_all c.loop-listing.listing-index ls (omega (arith, c.loop-listing-test.false)) ∙ c.listings_of-listing-items.ensures) c.loop-listing.invariant)
