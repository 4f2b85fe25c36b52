use Rattle.std.proofs.Common.{◌≡◌, ◌∙◌, ◌<◌, List, Option, Some, length, take, get_or, refl, sym, ap, subst, arith}
use Rattle.std.specs.Prelude.{All, Contains, IfSome, slice_get}
use Rattle.std.proofs.lemmas.List.{take_more, take_all}
use Rattle.disp_model.specs.declared.train.Listing.{Listing}
use Rattle.disp_model.specs.declared.problem.Problem.{Problem}
use Rattle.disp_model.specs.Arcs.{listings_of}
use Rattle.first_overlaps.specs.declared.span.Span.{Span}
use Rattle.first_overlaps.specs.declared.hold.Hold.{Hold}
use Rattle.first_overlaps.specs.declared.holder.Holder.{Holder}
use Rattle.first_overlaps.specs.Holders.{AreHoldersOf}
use Rattle.first_overlaps.specs.Holds.{hold_by, hold_on, IsHold, IsMeetingOf, HoldsMeet, IsSeenBy}
use Rattle.first_overlaps.proofs.Holding.{resource_within, listed_at, numbers_within, list_at}
use Rattle.first_overlaps.proofs.Seeing.{hold_is, by_none, by_more}
use Rattle.first_overlaps.proofs.known.KnownSpans.seen.Goals as goal
use Rattle.first_overlaps.proofs.known.KnownSpans.seen.Goals.{After-index-holders}

abbrev no_listing : Listing
no_listing = record { resource = 0; release = 0 }

pub index-holders-requires : goal.index-holders-requires
index-holders-requires c =
    let train : c.args.op.train < length c.args.problem.now.trains = omega (arith, c.requires.span.forced.train, ap (λ (p : Problem). length p.trains) c.requires.problem) in
    let within = resource_within c.args.problem.now c.args.op c.listings_of-listing-items.result.now c.loop-listing.listing-index no_listing c.listings_of-listing-items.ensures train c.loop-listing-test.true in
    omega (arith, within, c.requires.known.holders.sound.count, c.args.self.now.holders.ok.0)

-- the holders of the listing's resource
at_place : (c : After-index-holders) → slice_get c.args.self.now.holders.items (get_or c.listings_of-listing-items.result.now c.loop-listing.listing-index no_listing).resource ≡ Some c.index-holders.result.now
at_place c =
    let r = (get_or c.listings_of-listing-items.result.now c.loop-listing.listing-index no_listing).resource in
    let train : c.args.op.train < length c.args.problem.now.trains = omega (arith, c.requires.span.forced.train, ap (λ (p : Problem). length p.trains) c.requires.problem) in
    let within = resource_within c.args.problem.now c.args.op c.listings_of-listing-items.result.now c.loop-listing.listing-index no_listing c.listings_of-listing-items.ensures train c.loop-listing-test.true in
    list_at c.args.self.now.holders.items r c.index-holders.result.now (omega (arith, within, c.requires.known.holders.sound.count)) c.index-holders.ensures

pub seen_on-seen-requires-clause-numbers : goal.seen_on-seen-requires-clause-numbers
seen_on-seen-requires-clause-numbers c k d lt =
    let r = (get_or c.listings_of-listing-items.result.now c.loop-listing.listing-index no_listing).resource in
    let long : length c.deref.result.now ≡ _ = ap (λ (xs : List (Option Span)). length xs) c.deref.ensures.value ∙ c.requires.known.spans in
    let all = numbers_within c.args.problem.now c.args.self.now.holders.items r (length c.deref.result.now) c.index-holders.result.now c.requires.known.holders.sound (at_place ((goal.at.seen_on-seen-requires-clause-numbers c).After-index-holders)) long in
    subst (λ (hs : List Holder). All (λ (x : Holder). x.number < length c.deref.result.now) hs) (sym c.deref-in-loop-listing.ensures.value) all k d lt

pub seen_on-seen-requires-clause-hold : goal.seen_on-seen-requires-clause-hold
seen_on-seen-requires-clause-hold c =
    let node = c.args.graph.now in
    let ls = c.listings_of-listing-items.result.now in
    let i = c.loop-listing.listing-index in
    let l = get_or ls i no_listing in
    let there = listed_at c.args.problem.now c.args.op ls i no_listing c.listings_of-listing-items.ensures c.loop-listing-test.true in
    let holders = subst (λ (p : Problem). AreHoldersOf p c.args.self.now.holders.items) (sym c.requires.problem) c.requires.known.holders in
    let at = at_place ((goal.at.seen_on-seen-requires-clause-hold c).After-index-holders) in (
      l.resource,
      subst (IsHold node l.resource) (sym c.hold_on-hold.ensures)
          (record { span = c.requires.span; lists = (l, subst (λ (p : Problem). Contains (listings_of p c.args.op) l) (sym c.requires.problem) there, refl, refl) }),
      λ y other among holds. hold_is node c.args.self.now.holders.items c.args.self.now.spans.items l.resource c.index-holders.result.now y other holders.sound c.requires.spans at
          (subst (λ (hs : List Holder). Contains hs y) c.deref-in-loop-listing.ensures.value among) (subst (λ (ss : List (Option Span)). hold_by ss y ≡ Some other) c.deref.ensures.value holds),
    )

pub loop-listing-init : goal.loop-listing-init
loop-listing-init c = by_none c.args.graph.now c.args.self.now.holders.items c.args.self.now.spans.items c.args.op c.args.span _

pub loop-listing-preserved : goal.loop-listing-preserved
loop-listing-preserved c =
    let node = c.args.graph.now in
    let ls = c.listings_of-listing-items.result.now in
    let i = c.loop-listing.listing-index in
    let l = get_or ls i no_listing in
    let holders = c.args.self.now.holders.items in
    let spans = c.args.self.now.spans.items in
    let seen = c.seen_on-seen.result in
    let hold : Hold = hold_on c.args.op c.args.span l in
    let met = subst (λ (h : Hold). HoldsMeet node h c.deref.result.now c.deref-in-loop-listing.result.now seen) c.hold_on-hold.ensures c.seen_on-seen.ensures.met in
    let own : HoldsMeet node hold spans c.index-holders.result.now.items seen =
    subst (λ (hs : List Holder). HoldsMeet node hold spans hs seen) c.deref-in-loop-listing.ensures.value
    (subst (λ (ss : List (Option Span)). HoldsMeet node hold ss c.deref-in-loop-listing.result.now seen) c.deref.ensures.value met) in
    let found = subst (λ (h : Hold). IfSome c.loop-listing.seen.first (IsMeetingOf node h.op) → IfSome seen.first (IsMeetingOf node h.op)) c.hold_on-hold.ensures c.seen_on-seen.ensures.found in
    subst (λ (xs : List Listing). IsSeenBy node holders spans c.args.op c.args.span xs seen) (sym (take_more ls i no_listing c.loop-listing-test.true))
    (by_more node holders spans c.args.op c.args.span (take i ls) l c.index-holders.result.now c.loop-listing.seen seen c.seen_on-seen.ensures.later (found c.loop-listing.invariant.found)
    (at_place ((goal.at.loop-listing-preserved c).After-index-holders)) own c.loop-listing.invariant)

pub returns : goal.returns
returns c =
    subst (λ (ls : List Listing). IsSeenBy c.args.graph.now c.args.self.now.holders.items c.args.self.now.spans.items c.args.op c.args.span ls c.loop-listing.seen)
    (take_all c.loop-listing.listing-index c.listings_of-listing-items.result.now (omega (arith, c.loop-listing-test.false)) ∙ c.listings_of-listing-items.ensures) c.loop-listing.invariant
