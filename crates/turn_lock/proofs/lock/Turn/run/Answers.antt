use Rattle.std.proofs.Common.{refl, sym, ap, subst, ◌≡◌, ◌∷◌, Some}
use Rattle.atomic_table.specs.Table.{rest}
use Rattle.turn_lock.proofs.Tells.{agrees_then, carried_alone, found_in_hand, grew_cases, grown_carries, left_of, lent_state}
use Rattle.turn_lock.proofs.lock.Turn.run.Goals as goal

pub slot_mut-slot-requires : goal.slot_mut-slot-requires
slot_mut-slot-requires g c =
    let carried = c.requires.carries in
    (c.requires.table, (Some carried.0, subst (λ l. l ≡ (0, Some carried.0) ∷ rest l) (sym carried.1) refl))

pub run_on-answer-requires : goal.run_on-answer-requires
run_on-answer-requires g c =
    let s = g.S.History in let carried = c.requires.carries in
    let found = found_in_hand s.entries s.named s.terms s.kept c.args.seat.now.me.0 carried.0 carried carried.1 c.requires.begins in
    record { takes = (carried.0, lent_state c.args.seat.now.me.1 c.slot_mut-slot.result.now carried.0 carried.1 c.slot_mut-slot.ensures.value, c.requires.section.takes carried.0 found.1) }

pub give_back-requires-clause-carries : goal.give_back-requires-clause-carries
give_back-requires-clause-carries g c =
    let s = g.S.History in let v = c.args.seat.now.me.0 in let carried = c.requires.carries in
    let (before, after, was, is, ran, grew, few) = c.run_on-answer.ensures.ran in
    let there = carried_alone c.args.seat.now.me.1 c.slot_mut-slot.result.now carried.0 carried.1 c.slot_mut-slot.ensures.value before was in
    let found = found_in_hand s.entries s.named s.terms s.kept v before carried there c.requires.begins in
    let left = c.requires.section.leaves before c.run_on-answer.result.0 after found.1 ran in (
      after,
      (λ i. (0, is i) ∷ ap rest carried.1 i),
      few,
      agrees_then s.entries s.named s.terms s.kept v v before after refl found.1 left,
      grown_carries s.named v v (s.entries before) (s.entries after) _ refl found.0
          (grew_cases s.named v.caller (s.entries before) (s.entries after) left.adds _ grew),
    )

pub returns-clause-ran : goal.returns-clause-ran
returns-clause-ran g c =
    let s = g.S.History in let v = c.args.seat.now.me.0 in let carried = c.requires.carries in
    let (before, after, was, is, ran, grew, few) = c.run_on-answer.ensures.ran in
    let there = carried_alone c.args.seat.now.me.1 c.slot_mut-slot.result.now carried.0 carried.1 c.slot_mut-slot.ensures.value before was in
    let found = found_in_hand s.entries s.named s.terms s.kept v before carried there c.requires.begins in
    let left = c.requires.section.leaves before c.run_on-answer.result.0 after found.1 ran in (
      before,
      after,
      ran,
      found.1,
      left,
      left_of s.named v v c.give_back.new.seat.me.0 (s.entries before) (s.entries after) _ refl found.0 found.1.begins left.adds
          grew (c.give_back.ensures.left after (λ i. (0, is i) ∷ ap rest carried.1 i)),
    )
