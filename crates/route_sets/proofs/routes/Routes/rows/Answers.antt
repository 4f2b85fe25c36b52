use Rattle.route_sets.proofs.routes.Routes.rows.Goals as goal

pub returns-clause-allowed : goal.returns-clause-allowed
returns-clause-allowed c node t are has = are.allowed (are.left.1 has)
