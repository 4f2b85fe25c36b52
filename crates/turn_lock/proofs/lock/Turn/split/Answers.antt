use Rattle.std.proofs.Common.{rules, ap}
use Rattle.turn_lock.proofs.Keeps.{settles}
use Rattle.turn_lock.proofs.lock.Turn.split.Goals as goal

pub load-requires : goal.load-requires
load-requires g c = (search rules, search rules, settles _ _ _ _ _ _ _ (ap (λ m. m.0.spent) c.give-seat.ensures.right))
