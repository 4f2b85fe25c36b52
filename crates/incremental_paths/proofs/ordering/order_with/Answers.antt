use Rattle.std.proofs.Common.{◌<◌, ◌≤◌, ◌∷◌, ◌++◌, [], get_or, refl, sym, ◌∙◌, subst, arith}
use Rattle.incremental_paths.specs.declared.arc.Arc.{Arc}
use Rattle.incremental_paths.specs.Marked.{AreMarks}
use Rattle.incremental_paths.specs.Ordered.{IsLifted}
use Rattle.incremental_paths.proofs.Reordering.{rising_more, rising_free, closes, closes_none, rising_lifted}
use Rattle.incremental_paths.proofs.ordering.order_with.Given.{Over}
use Rattle.incremental_paths.proofs.ordering.order_with.Goals as goal
use Rattle.incremental_paths.proofs.ordering.order_with.Goals.{After-mark_from}

marks : (g : Over) (c : After-mark_from g) → AreMarks c.args.arcs.now c.args.order.now c.args.to (get_or c.args.order.now c.args.from 0) c.mark_from.new.marks
marks g c = subst (λ z. AreMarks c.args.arcs.now c.args.order.now c.args.to z c.mark_from.new.marks) c.place-high.ensures.is c.mark_from.ensures.marks

pub returns-then-high-low-clause-closes : goal.returns-then-high-low-clause-closes
returns-then-high-low-clause-closes g c = λ by.
    let arc : Arc = record { from = c.args.from; to = c.args.to; length = by } in
    let up : get_or c.args.order.now c.args.from 0 < get_or c.args.order.now c.args.to 0 = omega (arith, c.if-high-low.true, c.place-high.ensures.is, c.place-low.ensures.is) in
    (λ e. absurd (cc), λ h. absurd (rising_free (c.args.arcs.now ++ arc ∷ []) c.args.order.now (rising_more c.args.arcs.now c.args.order.now arc c.requires.rising up) h))

pub returns-then-has-clause-closes : goal.returns-then-has-clause-closes
returns-then-has-clause-closes g c = λ by.
    let arc : Arc = record { from = c.args.from; to = c.args.to; length = by } in
    let d = (goal.at.returns-then-has-clause-closes g c).After-mark_from in
    (λ _. closes c.args.arcs.now c.args.order.now c.requires.rising arc c.mark_from.new.marks (marks g d) (sym c.has.ensures ∙ c.if-has.true), λ _. refl)

pub returns-in-Ok-clause-ok : goal.returns-in-Ok-clause-ok
returns-in-Ok-clause-ok g c = λ by.
    let arc : Arc = record { from = c.args.from; to = c.args.to; length = by } in
    let d = (goal.at.returns-in-Ok-clause-ok g c).After-mark_from in
    let places = c.args.order.now in
    let low : get_or places c.args.to 0 ≤ get_or places c.args.from 0 = omega (arith, c.if-high-low.false, c.place-high.ensures.is, c.place-low.ensures.is) in
    let lifted : IsLifted c.mark_from.new.marks (get_or places c.args.to 0) (get_or places c.args.from 0) places c.lift.new.self = rw (← c.place-high.ensures.is, ← c.place-low.ensures.is) c.in-Ok.ensures.lifted in
    rising_lifted c.args.arcs.now c.args.order.now c.requires.rising arc c.mark_from.new.marks (marks g d) c.lift.new.self c.requires.within c.requires.from c.requires.to (sym c.has.ensures ∙ c.if-has.false) low lifted

pub returns-in-Ok-clause-closes : goal.returns-in-Ok-clause-closes
returns-in-Ok-clause-closes g c = λ by.
    let arc : Arc = record { from = c.args.from; to = c.args.to; length = by } in
    let d = (goal.at.returns-in-Ok-clause-closes g c).After-mark_from in
    (λ e. absurd (cc), λ h. absurd (closes_none c.args.arcs.now c.args.order.now c.requires.rising arc c.mark_from.new.marks (marks g d) (sym c.has.ensures ∙ c.if-has.false) h))

pub returns-in-Err-clause-closes : goal.returns-in-Err-clause-closes
returns-in-Err-clause-closes g c = λ by.
    let arc : Arc = record { from = c.args.from; to = c.args.to; length = by } in
    let d = (goal.at.returns-in-Err-clause-closes g c).After-mark_from in
    (λ e. absurd (cc), λ h. absurd (closes_none c.args.arcs.now c.args.order.now c.requires.rising arc c.mark_from.new.marks (marks g d) (sym c.has.ensures ∙ c.if-has.false) h))
