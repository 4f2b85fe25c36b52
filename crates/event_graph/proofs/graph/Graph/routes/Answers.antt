use Rattle.std.proofs.Common.{ap, subst, length, arith}
use Rattle.disp_model.specs.Node.{Node, node_at}
use Rattle.disp_model.specs.Routes.{HasRoute}
use Rattle.route_sets.specs.Sets.{AreRoutesOf}
use Rattle.event_arcs.proofs.Offsets.{placed_at}
use Rattle.event_graph.proofs.graph.Graph.routes.Goals as goal

pub returns-clause-routes : goal.returns-clause-routes
returns-clause-routes c =
    let g = c.self.inside in
    let node : Node = node_at g.problem.now g.fixings.items g.decisions.items in
    let placed = c.self.invariant.may.state.placed in
    subst (λ (n : Node). AreRoutesOf n c.args.train c.index.result.now.routes) c.self.view_is
    (placed_at node g.parts.each.items c.args.train c.index.result.now placed (omega (arith, c.requires, placed.long, ap (λ (n : Node). length n.problem.trains) c.self.view_is)) c.index.ensures).are_routes

pub returns-clause-one : goal.returns-clause-one
returns-clause-one c =
    let g = c.self.inside in
    let node : Node = node_at g.problem.now g.fixings.items g.decisions.items in
    let placed = c.self.invariant.may.state.placed in
    subst (λ (n : Node). HasRoute n c.args.train) c.self.view_is
    (placed_at node g.parts.each.items c.args.train c.index.result.now placed (omega (arith, c.requires, placed.long, ap (λ (n : Node). length n.problem.trains) c.self.view_is)) c.index.ensures).has_route
