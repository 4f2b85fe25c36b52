use Rattle.std.proofs.Common.{sym, subst}
use Rattle.disp_model.specs.Node.{Node}
use Rattle.event_graph.specs.Graphs.{without_last_decision}
use Rattle.share_bound.specs.Known.{HoldFor}
use Rattle.tree_dives.proofs.rewinding.go_up.Goals as goal

pub returns-clause-known : goal.returns-clause-known
returns-clause-known c =
    let before = subst (λ (n : Node). HoldFor n c.args.known.now) c.last_of-decision.ensures c.requires.known in
    subst (λ (n : Node). HoldFor n c.put_back.new.self) (sym c.undo.ensures)
    (c.put_back.ensures (without_last_decision c.args.graph.now) before (λ t about. tt))
