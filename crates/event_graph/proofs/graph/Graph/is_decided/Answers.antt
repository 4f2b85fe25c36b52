use Rattle.std.proofs.Common.{◌∙◌, sym, ap, subst, arith}
use Rattle.std.specs.Prelude.{◌↔◌, IsTrue, Contains}
use Rattle.disp_model.specs.declared.decision.Decision.TheVariants.{First}
use Rattle.disp_model.specs.Numbers.{number_of}
use Rattle.disp_model.specs.Node.{Node, node_at}
use Rattle.event_windows.specs.Operations.{HasOperation}
use Rattle.event_windows.proofs.Numbering.{below}
use Rattle.event_graph.proofs.Deciding.{has_decided}
use Rattle.event_graph.proofs.graph.Graph.is_decided.Goals as goal

pub has-requires : goal.has-requires
has-requires c =
    let g = c.self.inside in
    let node : Node = node_at g.problem.now g.fixings.items g.decisions.items in
    let op = subst (λ (n : Node). HasOperation n.problem c.args.a) (sym c.self.view_is) c.requires.from in
    omega (arith, c.number.ensures, ap (λ (n : Node). number_of n.problem c.args.a) c.self.view_is, below node.problem c.args.a op, c.self.invariant.may.size)

pub returns : goal.returns
returns c =
    let g = c.self.inside in
    let node : Node = node_at g.problem.now g.fixings.items g.decisions.items in
    let one = subst (λ (n : Node). HasOperation n.problem c.args.a) (sym c.self.view_is) c.requires.from in
    let other = subst (λ (n : Node). HasOperation n.problem c.args.b) (sym c.self.view_is) c.requires.to in
    let number = c.number.ensures ∙ sym (ap (λ (n : Node). number_of n.problem c.args.a) c.self.view_is) in
    subst (λ (n : Node). IsTrue c.has.result ↔ Contains n.decisions (First c.args.a c.args.b)) c.self.view_is
    (has_decided node g.parts.orders.pairs c.number.result c.args.a c.args.b c.has.result c.self.invariant.may.state.orders one other number c.has.ensures)
