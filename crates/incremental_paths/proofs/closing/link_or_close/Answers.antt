use Rattle.incremental_paths.proofs.CyclesClosed.{cycle_from_way}
use Rattle.incremental_paths.proofs.closing.link_or_close.Goals as goal

pub returns-in_ok-nodes-in-Err-Closes-clause-cycle : goal.returns-in_ok-nodes-in-Err-Closes-clause-cycle
returns-in_ok-nodes-in-Err-Closes-clause-cycle g c =
    cycle_from_way c.args.arcs.now.items c.args.arc c.in_ok-nodes-in-Err-Closes.nodes.items (rw c.deref-in-Err-Closes.ensures.value at c.in_ok-nodes-in-Err-Closes.ensures)
