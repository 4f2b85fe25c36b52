use Rattle.std.proofs.Common.{sym, subst, arith}
use Rattle.disp_model.specs.declared.problem.Problem.{Problem}
use Rattle.first_overlaps.specs.Spans.{IsListed}
use Rattle.free_choices.proofs.Openness.{order_is_picked}
use Rattle.free_choices.proofs.open_order.is_open_order.Goals as goal

pub returns : goal.returns
returns c is =
    let a = c.args.a in
    let b = c.args.b in
    let resource = c.args.resource in
    let first = c.in-Some.first in
    let second = c.in-Some-span_of.second in
    let release = c.in-Some-release_at.release in
    let other = c.in-Some-release_at-2.other in
    order_is_picked c.args.graph.now a b first.start first.end second.start second.end resource release other c.paths-paths.ensures.no_cycle (omega (arith, c.if-a-b.false)) c.in-Some.ensures.0 c.in-Some-span_of.ensures.0
    (subst (λ (p : Problem). IsListed p a resource release) (sym c.requires) c.in-Some-release_at.ensures)
    (subst (λ (p : Problem). IsListed p b resource other) (sym c.requires) c.in-Some-release_at-2.ensures)
    (c.is_before.ensures.0 c.if-not-is_before.false) (c.is_before-2.ensures.0 is)
