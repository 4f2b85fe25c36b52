use Rattle.search_tests.proofs.Running.{run_on}
use Rattle.search_tests.proofs.tests.script.step.Goals as goal

pub returns-clause-run : goal.returns-clause-run
returns-clause-run g c = run_on c.args.core.now c.step.new.self c.requires.run c.args.event c.in-Ok.told c.in-Ok.ensures.ok
