use Rattle.std.proofs.Common.{Option, length, sym, subst}
use Rattle.std.specs.Prelude.{◌⊎◌, MatchOption}
use Rattle.disp_model.specs.declared.problem.Problem.{Problem}
use Rattle.first_overlaps.specs.declared.known.Overlap.{Overlap}
use Rattle.first_overlaps.specs.Spans.{IsFirstOverlap, FirstTouch, NoneOpen}
use Rattle.branch_rules.specs.Picks.{AreAlone}
use Rattle.branch_rules.proofs.Overlapping.{overlap_is_picked}
use Rattle.branch_rules.proofs.pick.first_order.Goals as goal

pub returns-in-Some-clause-order : goal.returns-in-Some-clause-order
returns-in-Some-clause-order c =
    let node = c.args.graph.now in
    let alone = subst (λ (p : Problem). AreAlone node (length p.trains)) (sym c.requires.problem) c.requires.alone in
    let is : IsFirstOverlap node c.in-Some.overlap.a c.in-Some.overlap.b = subst (λ (f : Option Overlap). MatchOption f (NoneOpen node ⊎ FirstTouch node) (λ (o : Overlap). IsFirstOverlap node o.a o.b)) c.in-Some.is c.first_overlap.ensures.found in
    overlap_is_picked node c.in-Some.overlap.a c.in-Some.overlap.b c.requires.alive alone is
