use Rattle.std.proofs.Common.{sym, subst, arith}
use Rattle.std.proofs.lemmas.Bool.{both_ways, not-true}
use Rattle.disp_model.specs.declared.problem.Problem.{Problem}
use Rattle.event_arcs.proofs.Numbering.{forced_is_op}
use Rattle.first_overlaps.specs.Spans.{IsListed}
use Rattle.free_choices.proofs.Openness.{touch_is_open}
use Rattle.free_choices.proofs.open_touch.is_open_touch.Goals as goal

pub is_decided-requires : goal.is_decided-requires
is_decided-requires c = record {
  from = forced_is_op c.args.graph.now c.args.a c.in-Some.ensures.0.forced;
  to = forced_is_op c.args.graph.now c.args.b c.in-Some-span_of.ensures.0.forced;
}

pub is_decided-requires-2 : goal.is_decided-requires-2
is_decided-requires-2 c = record {
  from = forced_is_op c.args.graph.now c.args.b c.in-Some-span_of.ensures.0.forced;
  to = forced_is_op c.args.graph.now c.args.a c.in-Some.ensures.0.forced;
}

pub returns : goal.returns
returns c is =
    let node = c.args.graph.now in
    let a = c.args.a in
    let b = c.args.b in
    let resource = c.args.resource in
    let first = c.in-Some.first in
    let second = c.in-Some-span_of.second in
    touch_is_open node a b first.start first.end second.start second.end resource c.in-Some-release_at.field-0 c.in-Some-release_at-2.field-0 (omega (arith, c.if-a-b.false)) c.in-Some.ensures.0 c.in-Some-span_of.ensures.0
    (subst (λ (p : Problem). IsListed p a resource c.in-Some-release_at.field-0) (sym c.requires) c.in-Some-release_at.ensures)
    (subst (λ (p : Problem). IsListed p b resource c.in-Some-release_at-2.field-0) (sym c.requires) c.in-Some-release_at-2.ensures)
    c.if-second-first.false c.if-first-second.false
    (λ there. both_ways c.is_decided.result c.if-is_decided.false (c.is_decided.ensures.1 there))
    (λ back. both_ways c.is_decided-2.result (not-true c.is_decided-2.result is) (c.is_decided-2.ensures.1 back))
