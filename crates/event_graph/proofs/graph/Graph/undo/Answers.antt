use Rattle.std.proofs.Common.{◌∙◌, ℕ, take, ap, arith}
use Rattle.disp_model.specs.Node.{node_at}
use Rattle.event_graph.specs.Kept.{state_of}
use Rattle.event_graph.proofs.Knowing.{routes_by_own_alone}
use Rattle.event_graph.proofs.Past.{may_undo, graph_undone}
use Rattle.event_graph.proofs.graph.Graph.undo.Goals as goal

pub restore-requires : goal.restore-requires
restore-requires c =
    let g = c.self.inside in
    may_undo g.problem.now g.fixings.items g.ops.items g.closed.items g.decisions.items g.parts g.trail.items c.pop.new.self.items c.in-Some.change c.self.invariant (rw c.in-Some.is at c.pop.ensures.items)

pub invariant_of-self : goal.invariant_of-self
invariant_of-self c =
    let g = c.self.inside in
    graph_undone g.problem.now g.fixings.items g.ops.items g.closed.items g.decisions.items c.pop-in-Some.new.self.items g.parts c.restore.new.parts g.trail.items c.pop.new.self.items c.in-Some.change c.self.invariant (rw c.in-Some.is at c.pop.ensures.items)
    (c.pop-in-Some.ensures.rest ∙ ap (λ (n : ℕ). take n g.decisions.items) (omega (arith, g.decisions.ok))) c.restore.ensures.state c.restore.ensures.lowers c.restore.ensures.uppers c.restore.ensures.size
    (c.restore.ensures.known g.problem.now c.self.invariant.known (routes_by_own_alone (node_at g.problem.now g.fixings.items g.decisions.items) (state_of g.parts) c.self.invariant.may.state))
