use Rattle.event_graph.proofs.decide_train.routes_with.Goals as goal

pub returns-in-Some-clause-known : goal.returns-in-Some-clause-known
returns-in-Some-clause-known c = c.in-Some.ensures.known c.args.problem.now c.requires.known
