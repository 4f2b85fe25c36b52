use Rattle.std.proofs.Common.{◌≡◌, ℕ, ◌<◌, length, get_or, sym, ap, ◌∙◌, subst, arith}
use Rattle.incremental_paths.specs.Marked.{AreMarks}
use Rattle.incremental_paths.proofs.Marking.{marks_kept, marks_more}
use Rattle.incremental_paths.proofs.search.mark_from.Goals as goal
use Rattle.incremental_paths.proofs.search.mark_from.Goals.{then-has, else-has}

pub loop-place-preserved : goal.loop-place-preserved
loop-place-preserved g c =
    let arcs = c.args.arcs.now in
    let places = c.args.order.now in
    let node = c.node-node.result in
    let at : get_or places node 0 ≡ c.loop-place.place = c.node-node.ensures.is in
    let loop = c.loop-place.invariant in
    let marks = subst (λ z. AreMarks arcs places c.args.start z c.loop-place.marks) (sym at) loop.marks in
    let only : (v : ℕ) → v < length places → get_or places v 0 ≡ get_or places node 0 → v ≡ node = λ v lt e. c.node-node.ensures.only v lt (e ∙ at) in
    elim c.if-has.branch [
      | then-has w ↦ record {
        size = omega (arith, ap length w.marks-is, w.mark_ends.ensures.size, loop.size);
        marks = rw (w.marks-is, ← at) (marks_more arcs places c.requires.rising c.args.start node c.loop-place.marks w.mark_ends.new.marks marks only c.requires.within (sym c.has.ensures ∙ w.if-has.true) w.mark_ends.ensures.still w.mark_ends.ensures.ends w.mark_ends.ensures.only);
      }
      | else-has w ↦ record {
        size = omega (arith, ap length w.marks-is, loop.size);
        marks = rw (w.marks-is, ← at) (marks_kept arcs places c.requires.rising c.args.start node c.loop-place.marks c.loop-place.marks marks only c.requires.within (sym c.has.ensures ∙ w.if-has.false));
      }
    ]
