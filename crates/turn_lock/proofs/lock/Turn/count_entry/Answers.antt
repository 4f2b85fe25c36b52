use Rattle.std.proofs.Common.{rules}
use Rattle.std.proofs.lemmas.Bool.{MatchBool-at_true}
use Rattle.turn_lock.proofs.Keeps.{counts, enters}
use Rattle.turn_lock.proofs.lock.Turn.count_entry.Goals as goal

pub fetch_add-requires : goal.fetch_add-requires
fetch_add-requires g c = let carried = c.requires.carries in let entry = MatchBool-at_true _ _ c.if-grew.true carried.3 in (
  search rules,
  search rules,
  enters _ _ _ _ _ _ _ carried.0 c.requires.turn.0 c.requires.turn.1 entry.0 entry.1 entry.2 carried.2 _ carried.1,
)

pub load-requires : goal.load-requires
load-requires g c = (search rules, search rules, counts _ _ _ _ _ _ _ c.requires.turn.1)
