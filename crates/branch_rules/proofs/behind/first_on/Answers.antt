use Rattle.std.proofs.Common.{◌≡◌, ◌+◌, ◌-◌, ◌<◌, ℕ, get_or, length, Some, subst, arith}
use Rattle.std.specs.Prelude.{slice_get}
use Rattle.std.proofs.lemmas.Bool.{both_ways}
use Rattle.std.proofs.lemmas.Option.{slice_get-get_or}
use Rattle.disp_model.specs.declared.plan.Event.{Event}
use Rattle.branch_rules.specs.Pairs.{ending_of}
use Rattle.branch_rules.proofs.Looking.{TriedFrom, tried_begun, tried_same, tried_more, tried_released}
use Rattle.branch_rules.proofs.behind.first_on.Goals as goal

abbrev no_event : Event
no_event = record { time = 0; train = 0; operation = 0 }

pub loop-at-init : goal.loop-at-init
loop-at-init c = record {
  within = omega arith;
  tried = tried_begun c.args.events.now c.args.places.now (length c.args.places.now) c.args.holder.now c.args.listing (ending_of c.args.end) c.args.known (omega arith);
}

pub returns-then-is_released : goal.returns-then-is_released
returns-then-is_released c =
    let events = c.args.events.now in
    let places = c.args.places.now in
    let n = c.loop-at.at - 1 in
    let above : c.loop-at.at ≡ n + 1 = omega (arith, c.loop-at-test.true) in
    let lt : n < length places = omega (arith, above, c.loop-at.invariant.within) in
    let inside : get_or places n 0 < length events = c.requires.there n 0 lt in
    let at : slice_get events (get_or places n 0) ≡ Some (get_or events (get_or places n 0) no_event) = slice_get-get_or events (get_or places n 0) no_event inside in
    let was = subst (λ (m : ℕ). TriedFrom events places m c.args.holder.now c.args.listing (ending_of c.args.end) c.args.known c.loop-at.first) above c.loop-at.invariant.tried in
    tried_released events places n c.args.holder.now _ c.args.listing (ending_of c.args.end) c.args.known c.loop-at.first c.requires.rise c.requires.falling lt at (c.is_released.ensures.0 c.if-is_released.true) was

pub loop-at-preserved-then-event-holder : goal.loop-at-preserved-then-event-holder
loop-at-preserved-then-event-holder c =
    let events = c.args.events.now in
    let places = c.args.places.now in
    let n = c.loop-at.at - 1 in
    let above : c.loop-at.at ≡ n + 1 = omega (arith, c.loop-at-test.true) in
    let lt : n < length places = omega (arith, above, c.loop-at.invariant.within) in
    let inside : get_or places n 0 < length events = c.requires.there n 0 lt in
    let at : slice_get events (get_or places n 0) ≡ Some (get_or events (get_or places n 0) no_event) = slice_get-get_or events (get_or places n 0) no_event inside in
    let was = subst (λ (m : ℕ). TriedFrom events places m c.args.holder.now c.args.listing (ending_of c.args.end) c.args.known c.loop-at.first) above c.loop-at.invariant.tried in
    record {
      within = omega (arith, lt);
      tried = tried_more events places n c.args.holder.now _ c.args.listing (ending_of c.args.end) c.pair_of.result c.args.known c.loop-at.first c.earlier-first.result lt at (λ released. both_ways c.is_released.result c.if-is_released.false (c.is_released.ensures.1 released)) c.pair_of.ensures c.earlier-first.ensures was;
    }

pub loop-at-preserved : goal.loop-at-preserved
loop-at-preserved c =
    let events = c.args.events.now in
    let places = c.args.places.now in
    let n = c.loop-at.at - 1 in
    let above : c.loop-at.at ≡ n + 1 = omega (arith, c.loop-at-test.true) in
    let lt : n < length places = omega (arith, above, c.loop-at.invariant.within) in
    let inside : get_or places n 0 < length events = c.requires.there n 0 lt in
    let at : slice_get events (get_or places n 0) ≡ Some (get_or events (get_or places n 0) no_event) = slice_get-get_or events (get_or places n 0) no_event inside in
    let was = subst (λ (m : ℕ). TriedFrom events places m c.args.holder.now c.args.listing (ending_of c.args.end) c.args.known c.loop-at.first) above c.loop-at.invariant.tried in
    record {
      within = omega (arith, lt);
      tried = tried_same events places n c.args.holder.now _ c.args.listing (ending_of c.args.end) c.args.known c.loop-at.first lt at c.if-event-holder.false was;
    }
