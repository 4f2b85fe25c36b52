use Rattle.definition_examples.proofs.ForkedRoutes.{forced, least_5}
use Rattle.definition_examples.proofs.routes.a_decision_forces_its_branch.Goals as goal

pub returns-clause-forced : goal.returns-clause-forced
returns-clause-forced c = forced

pub returns-clause-least : goal.returns-clause-least
returns-clause-least c = least_5
