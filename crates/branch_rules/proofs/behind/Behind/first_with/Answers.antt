use Rattle.std.proofs.Common.{◌≡◌, ◌+◌, ◌<◌, List, length, get_or, take, Some, refl, sym, subst, arith}
use Rattle.std.specs.Prelude.{All, Contains, slice_get}
use Rattle.std.proofs.lemmas.Option.{slice_get-get_or}
use Rattle.std.proofs.lemmas.List.{take_more, take_all, get_or_default}
use Rattle.disp_model.specs.declared.train.Listing.{Listing}
use Rattle.disp_model.specs.declared.plan.Event.{Event}
use Rattle.disp_model.specs.Earliest.{op_of}
use Rattle.branch_rules.specs.Pairs.{ending_of}
use Rattle.branch_rules.specs.Behind.{ArePlacesOf, IsFirstWith}
use Rattle.first_overlaps.proofs.Holding.{listings_within}
use Rattle.branch_rules.proofs.Placing.{places_are, places_within}
use Rattle.branch_rules.proofs.Looking.{with_none, with_more, with_all}
use Rattle.branch_rules.proofs.behind.Behind.first_with.Goals as goal
use Rattle.branch_rules.proofs.behind.Behind.first_with.Goals.{After-index-places}

abbrev no_event : Event
no_event = record { time = 0; train = 0; operation = 0 }

abbrev no_listing : Listing
no_listing = record { resource = 0; release = 0 }

pub loop-listing-init : goal.loop-listing-init
loop-listing-init c = with_none c.args.problem.now c.args.events.now c.args.place _ c.args.known c.requires.known

pub index-places-requires : goal.index-places-requires
index-places-requires c =
    let e = get_or c.args.events.now c.args.place no_event in
    let at : slice_get c.args.events.now c.args.place ≡ Some e = slice_get-get_or c.args.events.now c.args.place no_event c.requires.place in
    let all = subst (λ (ls : List Listing). All (λ l. l.resource < length c.args.problem.now.names) ls) (sym c.listings_of-listing-items.ensures) (listings_within c.args.problem.now (op_of e) (c.requires.trains c.args.place e at)) in
    omega (arith, all c.loop-listing.listing-index no_listing c.loop-listing-test.true, c.requires.behind.resources, c.args.self.now.listed.ok.0)

are_places : (c : After-index-places) → ArePlacesOf c.args.problem.now c.args.events.now (c.args.place + 1) (get_or c.listings_of-listing-items.result.now c.loop-listing.listing-index no_listing).resource c.index-places.result.now.items
are_places c =
    let e = get_or c.args.events.now c.args.place no_event in
    let at : slice_get c.args.events.now c.args.place ≡ Some e = slice_get-get_or c.args.events.now c.args.place no_event c.requires.place in
    let all = subst (λ (ls : List Listing). All (λ l. l.resource < length c.args.problem.now.names) ls) (sym c.listings_of-listing-items.ensures) (listings_within c.args.problem.now (op_of e) (c.requires.trains c.args.place e at)) in
    places_are c.args.problem.now c.args.events.now (c.args.place + 1) (get_or c.listings_of-listing-items.result.now c.loop-listing.listing-index no_listing).resource c.args.self.now c.index-places.result.now c.index-places.result.now.items
    (omega (arith, all c.loop-listing.listing-index no_listing c.loop-listing-test.true, c.requires.behind.resources)) c.index-places.ensures refl c.requires.behind

pub first_on-first-requires-clause-there : goal.first_on-first-requires-clause-there
first_on-first-requires-clause-there c = rw c.deref.ensures.value (places_within c.args.problem.now c.args.events.now (c.args.place + 1) _ _ (are_places ((goal.at.first_on-first-requires-clause-there c).After-index-places)))

pub first_on-first-requires-clause-falling : goal.first_on-first-requires-clause-falling
first_on-first-requires-clause-falling c = rw c.deref.ensures.value ((are_places ((goal.at.first_on-first-requires-clause-falling c).After-index-places)).falling)

pub loop-listing-preserved : goal.loop-listing-preserved
loop-listing-preserved c =
    let events = c.args.events.now in
    let e = get_or events c.args.place no_event in
    let at : slice_get events c.args.place ≡ Some e = slice_get-get_or events c.args.place no_event c.requires.place in
    let ls = c.listings_of-listing-items.result.now in
    let n = c.loop-listing.listing-index in
    let l = get_or ls n no_listing in
    let own : Contains ls l = (n, c.loop-listing-test.true, get_or_default ls n l no_listing c.loop-listing-test.true) in
    let are : ArePlacesOf c.args.problem.now events (c.args.place + 1) l.resource c.deref.result.now = rw c.deref.ensures.value (are_places ((goal.at.loop-listing-preserved c).After-index-places)) in
    subst (λ (xs : List Listing). IsFirstWith c.args.problem.now events c.args.place e xs c.first_on-first.result) (sym (take_more ls n no_listing c.loop-listing-test.true))
    (with_more c.args.problem.now events c.args.place e (take n ls) l c.deref.result.now (ending_of c.end_of-end.result) c.loop-listing.first c.first_on-first.result at (subst (λ (xs : List Listing). Contains xs l) c.listings_of-listing-items.ensures own) (c.end_of-end.ensures events c.requires.behind) are c.first_on-first.ensures c.loop-listing.invariant)

pub returns : goal.returns
returns c =
    let events = c.args.events.now in
    let e = get_or events c.args.place no_event in
    let at : slice_get events c.args.place ≡ Some e = slice_get-get_or events c.args.place no_event c.requires.place in
    let ls = c.listings_of-listing-items.result.now in
    let all : take c.loop-listing.listing-index ls ≡ ls = take_all c.loop-listing.listing-index ls (omega (arith, c.loop-listing-test.false)) in
    with_all c.args.problem.now events c.args.place e c.loop-listing.first at
    (subst (λ (xs : List Listing). IsFirstWith c.args.problem.now events c.args.place e xs c.loop-listing.first) c.listings_of-listing-items.ensures
    (subst (λ (xs : List Listing). IsFirstWith c.args.problem.now events c.args.place e xs c.loop-listing.first) all c.loop-listing.invariant))
