use Rattle.std.proofs.Common.{◌≡◌, ◌<◌, subst, sym}
use Rattle.disp_model.specs.Numbers.{number_of}
use Rattle.disp_model.specs.WellFormed.{operation_count}
use Rattle.disp_model.specs.Node.{Node}
use Rattle.event_windows.specs.Operations.{HasOperation}
use Rattle.event_graph.proofs.Naming.{op_at_number}
use Rattle.event_graph.proofs.graph.Graph.operation.Goals as goal

pub returns-clause-there : goal.returns-clause-there
returns-clause-there c =
    let g = c.self.inside in
    let lt = subst (λ (n : Node). c.args.number < operation_count n.problem.trains) (sym c.self.view_is) c.requires in
    subst (λ (n : Node). HasOperation n.problem c.index.result.now) c.self.view_is (op_at_number g.problem.now g.ops.items c.args.number c.index.result.now c.self.invariant.may.ops_are lt c.index.ensures).there

pub returns-clause-number : goal.returns-clause-number
returns-clause-number c =
    let g = c.self.inside in
    let lt = subst (λ (n : Node). c.args.number < operation_count n.problem.trains) (sym c.self.view_is) c.requires in
    subst (λ (n : Node). number_of n.problem c.index.result.now ≡ c.args.number) c.self.view_is (op_at_number g.problem.now g.ops.items c.args.number c.index.result.now c.self.invariant.may.ops_are lt c.index.ensures).number
