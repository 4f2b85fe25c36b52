use Rattle.std.proofs.Common.{inr}
use Rattle.std.proofs.lemmas.Bool.{not-false, not-true}
use Rattle.first_overlaps.proofs.known.KnownSpans.first_overlap.Goals as goal

pub returns-then-not-meeting-clause-found : goal.returns-then-not-meeting-clause-found
returns-then-not-meeting-clause-found c =
    let m = c.in_ok-meeting.meeting in
    let is = c.in_ok-meeting.ensures.found in
    inr (m.a, m.b, is.touch (not-true m.overlaps c.if-not-meeting.true), is.first)

pub returns-clause-found : goal.returns-clause-found
returns-clause-found c =
    let m = c.in_ok-meeting.meeting in
    let is = c.in_ok-meeting.ensures.found in
    record { overlap = is.overlap (not-false m.overlaps c.if-not-meeting.false); first = is.first }
