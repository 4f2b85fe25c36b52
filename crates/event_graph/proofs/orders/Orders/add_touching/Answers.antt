use Rattle.std.proofs.lemmas.Result.{on_ok_weaker}
use Rattle.disp_model.specs.Node.{node_at}
use Rattle.event_graph.proofs.Touching.{added_both}
use Rattle.event_graph.proofs.orders.Orders.add_touching.Goals as goal

pub returns : goal.returns
returns c fixings decisions placed =
    on_ok_weaker c.add_before.result
    (λ second. added_both c.args.number (node_at c.args.problem.now fixings decisions) c.args.self.now.pairs c.args.arcs.now.items c.add_behind.new.arcs.items c.add_before.new.arcs.items (c.in_ok-add_behind.ensures fixings decisions placed) second)
    (c.add_before.ensures fixings decisions placed)
