use Rattle.std.proofs.Common.{◌∙◌, ap, subst, sym, arith}
use Rattle.disp_model.specs.Numbers.{number_of}
use Rattle.disp_model.specs.Node.{Node, node_at}
use Rattle.event_windows.specs.Operations.{HasOperation}
use Rattle.event_graph.proofs.Staying.{numbered, numbered_within}
use Rattle.event_graph.proofs.graph.Graph.number.Goals as goal

pub overflow_add-result : goal.overflow_add-result
overflow_add-result c =
    let g = c.self.inside in
    let node : Node = node_at g.problem.now g.fixings.items g.decisions.items in
    let op = subst (λ (n : Node). HasOperation n.problem c.args.op) (sym c.self.view_is) c.requires in
    omega (arith, numbered_within node g.parts.each.items c.args.op.train c.args.op.op _ c.self.invariant.may.state.placed op.train op.op c.index.ensures, g.problem.now.well_formed.operations_fit)

pub returns : goal.returns
returns c =
    let g = c.self.inside in
    let node : Node = node_at g.problem.now g.fixings.items g.decisions.items in
    let op = subst (λ (n : Node). HasOperation n.problem c.args.op) (sym c.self.view_is) c.requires in
    numbered node g.parts.each.items c.args.op.train c.args.op.op _ c.self.invariant.may.state.placed op.train c.index.ensures ∙ ap (λ (n : Node). number_of n.problem c.args.op) c.self.view_is
