use Rattle.std.proofs.Common.{rules}
use Rattle.turn_lock.proofs.Keeps.{takes_turn}
use Rattle.turn_lock.proofs.lock.Turn.take.Goals as goal

pub compare_exchange-requires : goal.compare_exchange-requires
compare_exchange-requires g c = (search rules, search rules, takes_turn _ _ _ _ _ _ _ c.requires.idle.1)
