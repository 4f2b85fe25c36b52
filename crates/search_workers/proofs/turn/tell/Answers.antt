use Rattle.search_workers.proofs.GoingOn.{steps_on}
use Rattle.search_workers.proofs.turn.tell.Goals as goal

pub returns-in-Ok-clause-on : goal.returns-in-Ok-clause-on
returns-in-Ok-clause-on c = steps_on c.args.core.now c.step.new.self c.args.event c.in-Ok.told c.requires.search c.in-Ok.ensures.ok
