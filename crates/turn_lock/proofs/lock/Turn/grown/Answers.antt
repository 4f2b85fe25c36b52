use Rattle.std.proofs.Common.{rules}
use Rattle.turn_lock.proofs.Keeps.{counts}
use Rattle.turn_lock.proofs.lock.Turn.grown.Goals as goal

pub load-requires : goal.load-requires
load-requires g c = (search rules, search rules, counts _ _ _ _ _ _ _ c.args.pass.now.live)
