use Rattle.std.proofs.Common.{List, length, subst}
use Rattle.disp_model.specs.Node.{node_at}
use Rattle.incremental_paths.specs.declared.arc.Arc.{Arc}
use Rattle.event_arcs.specs.Chained.{AddsChains}
use Rattle.event_arcs.proofs.Deciding.{whole_list}
use Rattle.event_arcs.proofs.list.listed.Goals as goal

pub returns : goal.returns
returns c = λ fixings are.
    let node = node_at c.args.problem.now fixings c.args.decisions.now in
    let h = c.in_ok-add_chains.ensures fixings c.args.decisions.now are in
    let chains = subst (λ (l : List Arc). AddsChains node (length c.args.each.now) l c.add_chains.new.arcs.items) c.new-arcs.ensures.items h in
    whole_list node (length c.args.each.now) c.add_chains.new.arcs.items c.add_orders.new.arcs.items are.long chains (c.in_ok-add_orders.ensures fixings are)
