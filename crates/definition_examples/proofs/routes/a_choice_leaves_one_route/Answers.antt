use Rattle.definition_examples.proofs.ForkedRoutes.{one_route, no_route}
use Rattle.definition_examples.proofs.routes.a_choice_leaves_one_route.Goals as goal

pub returns-clause-one : goal.returns-clause-one
returns-clause-one c = one_route

pub returns-clause-refused : goal.returns-clause-refused
returns-clause-refused c = no_route
