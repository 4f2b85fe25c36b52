use Rattle.search_workers.proofs.Handing.{may_give_examined}
use Rattle.search_workers.proofs.hand_in.give_back_examined.Goals as goal

pub tell-requires-clause-may : goal.tell-requires-clause-may
tell-requires-clause-may c = λ yes. may_give_examined c.args.core.now c.args.work c.requires.newest c.requires.examined
