use Rattle.std.proofs.lemmas.Bool.{both_ways}
use Rattle.event_arcs.proofs.Numbering.{forced_is_op}
use Rattle.first_overlaps.proofs.Seeing.{found_meeting, overlapping, touches}
use Rattle.first_overlaps.proofs.seen.seen_with.Goals as goal

pub returns-then-do_overlap-clause-found : goal.returns-then-do_overlap-clause-found
returns-then-do_overlap-clause-found c found =
    found_meeting c.args.graph.now c.args.hold.now.op c.args.seen.first _ c.seen_meeting.result.first
    (overlapping c.args.graph.now c.requires.holds.0 c.args.hold.now c.args.other.now c.requires.holds.1 c.requires.holds.2 c.requires.trains (c.do_overlap.ensures.0 c.if-do_overlap.true)) c.seen_meeting.ensures.first found

pub is_decided-requires-clause-from : goal.is_decided-requires-clause-from
is_decided-requires-clause-from c = forced_is_op c.args.graph.now c.args.hold.now.op c.requires.holds.1.span.forced

pub is_decided-requires-clause-to : goal.is_decided-requires-clause-to
is_decided-requires-clause-to c = forced_is_op c.args.graph.now c.args.other.now.op c.requires.holds.2.span.forced

pub is_decided-requires-else-is_decided-clause-from : goal.is_decided-requires-else-is_decided-clause-from
is_decided-requires-else-is_decided-clause-from c = forced_is_op c.args.graph.now c.args.other.now.op c.requires.holds.2.span.forced

pub is_decided-requires-else-is_decided-clause-to : goal.is_decided-requires-else-is_decided-clause-to
is_decided-requires-else-is_decided-clause-to c = forced_is_op c.args.graph.now c.args.hold.now.op c.requires.holds.1.span.forced

pub returns-clause-found : goal.returns-clause-found
returns-clause-found c found =
    found_meeting c.args.graph.now c.args.hold.now.op c.args.seen.first _ c.seen_meeting-2.result.first
    (touches c.args.graph.now c.requires.holds.0 c.args.hold.now c.args.other.now c.requires.holds.1 c.requires.holds.2 c.requires.trains
    (λ apart. both_ways c.hold_apart.result c.if-hold_apart.false (c.hold_apart.ensures.1 apart))
    (λ overlap. both_ways c.do_overlap.result c.if-do_overlap.false (c.do_overlap.ensures.1 overlap))
    (λ there. both_ways c.is_decided.result c.if-is_decided.false (c.is_decided.ensures.1 there))
    (λ back. both_ways c.is_decided-else-is_decided.result c.if-is_decided-2.false (c.is_decided-else-is_decided.ensures.1 back))) c.seen_meeting-2.ensures.first found
