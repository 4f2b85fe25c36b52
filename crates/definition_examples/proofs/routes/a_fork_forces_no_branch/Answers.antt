use Rattle.definition_examples.proofs.ForkedRoutes.{not_forced, least_3}
use Rattle.definition_examples.proofs.routes.a_fork_forces_no_branch.Goals as goal

pub returns-clause-not_forced : goal.returns-clause-not_forced
returns-clause-not_forced c = not_forced

pub returns-clause-least : goal.returns-clause-least
returns-clause-least c = least_3
