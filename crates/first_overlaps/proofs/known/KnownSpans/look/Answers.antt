use Rattle.std.proofs.Common.{◌≡◌, ◌∙◌, Option, length, sym, ap, subst, arith}
use Rattle.std.specs.Global.{Vec}
use Rattle.disp_model.specs.declared.problem.Problem.{Problem}
use Rattle.disp_model.specs.WellFormed.{operation_count}
use Rattle.disp_laws.proofs.Numbered.{below_count}
use Rattle.first_overlaps.specs.declared.span.Span.{Span}
use Rattle.first_overlaps.specs.declared.holder.Holder.{Holder}
use Rattle.first_overlaps.specs.declared.meeting.Meeting.{Meeting}
use Rattle.first_overlaps.specs.Holders.{AreHoldersOf}
use Rattle.first_overlaps.specs.Holds.{IsLookAt}
use Rattle.first_overlaps.proofs.Finding.{settled_more, all_passed}
use Rattle.first_overlaps.proofs.known.KnownSpans.look.Goals as goal
use Rattle.first_overlaps.proofs.known.KnownSpans.look.Goals.{After-look_at}

found_there : (c : After-look_at) → IsLookAt c.args.graph.now c.args.self.now.holders.items c.args.self.now.spans.items c.loop-number.number c.look_at.result
found_there c =
    subst (λ (hs : Vec (Vec Holder)). IsLookAt c.args.graph.now hs.items c.args.self.now.spans.items c.loop-number.number c.look_at.result) c.loop-number.invariant.holders
    (subst (λ (ss : Vec (Option Span)). IsLookAt c.args.graph.now c.loop-number.self.holders.items ss.items c.loop-number.number c.look_at.result) c.loop-number.invariant.spans c.look_at.ensures.found)

pub returns-in-Some-clause-found : goal.returns-in-Some-clause-found
returns-in-Some-clause-found c =
    let node = c.args.graph.now in
    let is = subst (λ (found : Option Meeting). IsLookAt node c.args.self.now.holders.items c.args.self.now.spans.items c.loop-number.number found) c.in-Some.is (found_there ((goal.at.returns-in-Some-clause-found c).After-look_at)) in
    is c.loop-number.invariant.settled

pub loop-number-preserved : goal.loop-number-preserved
loop-number-preserved c = record {
  known = c.look_at.ensures.known;
  holders = c.look_at.ensures.holders ∙ c.loop-number.invariant.holders;
  spans = c.look_at.ensures.spans ∙ c.loop-number.invariant.spans;
  settled = settled_more c.args.graph.now c.args.self.now.holders.items c.args.self.now.spans.items c.loop-number.number c.look_at.result c.in_default.is (found_there ((goal.at.loop-number-preserved c).After-look_at)) c.loop-number.invariant.settled;
}

pub returns-clause-found : goal.returns-clause-found
returns-clause-found c =
    let node = c.args.graph.now in
    let holders = subst (λ (p : Problem). AreHoldersOf p c.args.self.now.holders.items) (sym c.requires.problem) c.requires.known.holders in
    let long : length c.args.self.now.spans.items ≡ operation_count node.problem.trains = c.requires.known.spans ∙ ap (λ (p : Problem). operation_count p.trains) (sym c.requires.problem) in
    all_passed node c.args.self.now.holders.items c.args.self.now.spans.items c.loop-number.number c.paths-paths.ensures.no_cycle holders c.requires.spans
    (λ o has. let below = below_count node.problem o has.train has.op in omega (arith, below, long, c.len-number-end.ensures, c.loop-number-test.false)) c.loop-number.invariant.settled
