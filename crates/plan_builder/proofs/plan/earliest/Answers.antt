use Rattle.disp_model.specs.Node.{node_at}
use Rattle.plan_builder.proofs.Showing.{stops_once, shown}
use Rattle.plan_builder.proofs.plan.earliest.Goals as goal

pub arrange-requires-clause-once : goal.arrange-requires-clause-once
arrange-requires-clause-once c = stops_once c.args.problem.now c.args.paths.now c.args.routes.now c.requires.routes c.in_ok-stops.stops.items c.in_ok-stops.ensures.ops c.in_ok-stops.ensures.each

pub returns : goal.returns
returns c = λ fixings decisions only shows.
    rw (c.from_vec.ensures, c.in_ok-events.ensures, c.deref.ensures.value)
    (shown (node_at c.args.problem.now fixings decisions) c.args.paths.now c.args.routes.now c.requires.routes c.in_ok-stops.stops.items c.in_ok-stops.ensures.ops c.in_ok-stops.ensures.each c.in_ok-plan.plan.items c.in_ok-plan.ensures.same c.in_ok-plan.ensures.arranged only shows)
