use Rattle.std.proofs.Common.{◌≡◌, ◌∙◌, ◌<◌, List, Option, Some, length, take, get_or, refl, sym, ap, subst, arith}
use Rattle.std.specs.Prelude.{All, slice_get, IfSome}
use Rattle.std.specs.Global.{Vec}
use Rattle.std.proofs.lemmas.List.{take_more, take_all}
use Rattle.disp_model.specs.declared.train.Listing.{Listing}
use Rattle.disp_model.specs.WellFormed.{operation_count}
use Rattle.disp_model.specs.Arcs.{listings_of}
use Rattle.first_overlaps.specs.declared.span.Span.{Span}
use Rattle.first_overlaps.specs.declared.hold.Hold.{Hold}
use Rattle.first_overlaps.specs.declared.holder.Holder.{Holder}
use Rattle.first_overlaps.specs.Holds.{hold_on, AreParted, AreAllParted}
use Rattle.first_overlaps.proofs.Holding.{resource_within, numbers_within, list_at}
use Rattle.first_overlaps.proofs.Knowing.{none_more, fewer_then, all_none, all_more}
use Rattle.first_overlaps.proofs.known.KnownSpans.part.Goals as goal
use Rattle.first_overlaps.proofs.known.KnownSpans.part.Goals.{After-index-holders}

abbrev no_listing : Listing
no_listing = record { resource = 0; release = 0 }

pub returns-in_default-clause-fewer : goal.returns-in_default-clause-fewer
returns-in_default-clause-fewer c = none_more c.args.self.now.apart.items

pub loop-listing-init : goal.loop-listing-init
loop-listing-init c = record {
  holders = refl;
  spans = refl;
  words = refl;
  fewer = none_more c.args.self.now.apart.items;
  parted = all_none c.args.self.now.holders.items c.args.self.now.spans.items c.args.op c.in-Some.span c.args.self.now.apart.items;
}

pub index-holders-requires : goal.index-holders-requires
index-holders-requires c =
    let within = resource_within c.args.problem.now c.args.op c.listings_of-listing-items.result.now c.loop-listing.listing-index no_listing c.listings_of-listing-items.ensures c.requires.there c.loop-listing-test.true in
    omega (arith, within, c.requires.known.holders.sound.count, ap (λ (v : Vec (Vec Holder)). length v.items) c.loop-listing.invariant.holders, c.loop-listing.self.holders.ok.0)

-- the holders of the listing's resource
at_place : (c : After-index-holders) → slice_get c.args.self.now.holders.items (get_or c.listings_of-listing-items.result.now c.loop-listing.listing-index no_listing).resource ≡ Some c.index-holders.result.now
at_place c =
    let r = (get_or c.listings_of-listing-items.result.now c.loop-listing.listing-index no_listing).resource in
    let within = resource_within c.args.problem.now c.args.op c.listings_of-listing-items.result.now c.loop-listing.listing-index no_listing c.listings_of-listing-items.ensures c.requires.there c.loop-listing-test.true in
    list_at c.args.self.now.holders.items r c.index-holders.result.now (omega (arith, within, c.requires.known.holders.sound.count))
    (subst (λ (v : Vec (Vec Holder)). c.index-holders.result.now ≡ get_or v.items r c.index-holders.result.now) c.loop-listing.invariant.holders c.index-holders.ensures)

pub part_on-requires-clause-spans : goal.part_on-requires-clause-spans
part_on-requires-clause-spans c k d lt =
    let r = (get_or c.listings_of-listing-items.result.now c.loop-listing.listing-index no_listing).resource in
    let same : c.loop-listing.self.spans.items ≡ c.args.self.now.spans.items = ap (λ (v : Vec (Option Span)). v.items) c.loop-listing.invariant.spans in
    let long : length c.deref.result.now ≡ operation_count c.args.problem.now.trains = ap (λ (xs : List (Option Span)). length xs) (c.deref.ensures.value ∙ same) ∙ c.requires.known.spans in
    let all = numbers_within c.args.problem.now c.args.self.now.holders.items r (length c.deref.result.now) c.index-holders.result.now c.requires.known.holders.sound (at_place ((goal.at.part_on-requires-clause-spans c).After-index-holders)) long in
    subst (λ (hs : List Holder). All (λ (x : Holder). x.number < length c.deref.result.now) hs) (sym c.deref-in-loop-listing.ensures.value) all k d lt

pub loop-listing-preserved : goal.loop-listing-preserved
loop-listing-preserved c =
    let ls = c.listings_of-listing-items.result.now in
    let i = c.loop-listing.listing-index in
    let l = get_or ls i no_listing in
    let spans = c.args.self.now.spans.items in
    let same : c.deref.result.now ≡ spans = c.deref.ensures.value ∙ ap (λ (v : Vec (Option Span)). v.items) c.loop-listing.invariant.spans in
    let hold : Hold = hold_on c.args.op c.in-Some.span l in
    let parted = subst (λ (h : Hold). AreParted c.deref-in-loop-listing.result.now c.deref.result.now h c.part_on.new.apart.items) c.hold_on-hold.ensures c.part_on.ensures.parted in
    let own : AreParted c.index-holders.result.now.items spans hold c.part_on.new.apart.items =
    subst (λ (hs : List Holder). AreParted hs spans hold c.part_on.new.apart.items) c.deref-in-loop-listing.ensures.value
    (subst (λ (ss : List (Option Span)). AreParted c.deref-in-loop-listing.result.now ss hold c.part_on.new.apart.items) same parted) in
    record {
      holders = c.loop-listing.invariant.holders;
      spans = c.loop-listing.invariant.spans;
      words = c.part_on.ensures.words ∙ c.loop-listing.invariant.words;
      fewer = fewer_then c.args.self.now.apart.items c.loop-listing.self.apart.items c.part_on.new.apart.items c.loop-listing.invariant.fewer c.part_on.ensures.fewer;
      parted = subst (λ (xs : List Listing). AreAllParted c.args.self.now.holders.items spans c.args.op c.in-Some.span xs c.part_on.new.apart.items) (sym (take_more ls i no_listing c.loop-listing-test.true))
          (all_more c.args.self.now.holders.items spans c.args.op c.in-Some.span (take i ls) l c.index-holders.result.now c.loop-listing.self.apart.items c.part_on.new.apart.items c.part_on.ensures.fewer
          (at_place ((goal.at.loop-listing-preserved c).After-index-holders)) own c.loop-listing.invariant.parted);
    }

pub returns-clause-parted : goal.returns-clause-parted
returns-clause-parted c = subst (λ (found : Option Span). IfSome found (λ s. AreAllParted c.args.self.now.holders.items c.args.self.now.spans.items c.args.op s (listings_of c.args.problem.now c.args.op) c.loop-listing.self.apart.items)) (sym c.in-Some.is)
    (subst (λ (ls : List Listing). AreAllParted c.args.self.now.holders.items c.args.self.now.spans.items c.args.op c.in-Some.span ls c.loop-listing.self.apart.items)
    (take_all c.loop-listing.listing-index c.listings_of-listing-items.result.now (omega (arith, c.loop-listing-test.false)) ∙ c.listings_of-listing-items.ensures) c.loop-listing.invariant.parted)
