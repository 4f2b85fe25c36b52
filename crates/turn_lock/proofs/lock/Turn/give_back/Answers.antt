use Rattle.std.proofs.Common.{rules, ap, sym, ◌∙◌}
use Rattle.turn_lock.proofs.Keeps.{releases}
use Rattle.turn_lock.proofs.lock.Turn.give_back.Goals as goal

pub store-requires : goal.store-requires
store-requires g c = let carried = c.requires.carries in let k = (c.count_entry.ensures.counted carried.0 carried.1).knows in (
  search rules,
  search rules,
  releases _ _ _ _ _ _ _ carried.0 (ap (λ v. v.holding) k ∙ c.requires.turn.0) (ap (λ v. v.spent) k ∙ c.requires.turn.1) (sym (ap (λ v. v.held) k)) (ap (λ v. v.terms) k ∙ carried.3.0, carried.3.1) _ (c.count_entry.ensures.table.1 ∙ carried.1),
)
