use Rattle.std.proofs.Common.{◌∙◌, ◌++◌, List, ap, arith}
use Rattle.disp_model.specs.Node.{Node, node_at, with_decision}
use Rattle.incremental_paths.specs.declared.arc.Arc.{Arc}
use Rattle.event_graph.proofs.Deciding.{added}
use Rattle.event_graph.proofs.Training.{train_joins}
use Rattle.event_graph.proofs.decide_train.join_train.Goals as goal

pub join-requires : goal.join-requires
join-requires c =
    let node : Node = node_at c.args.problem.now c.requires.0 c.requires.1 in
    let d = c.requires.2 in
    let may = c.requires.3 in (
      with_decision node d,
      rw c.deref.ensures.value (train_joins node d c.args.ops.now c.args.each.now c.args.orders.now c.args.paths.now c.args.before.now c.args.train c.in-Ok.arcs.items may
          (c.in-Ok.ensures c.requires.0 c.requires.1 d c.args.paths.now.arcs may.about may.was may.placed may.orders_are may.arcs_are)),
    )

pub returns-in-Ok-join-clause-added : goal.returns-in-Ok-join-clause-added
returns-in-Ok-join-clause-added c fixings decisions d may =
    let node : Node = node_at c.args.problem.now fixings decisions in
    let next : Node = with_decision node d in
    let joins = train_joins node d c.args.ops.now c.args.each.now c.args.orders.now c.args.paths.now c.args.before.now c.args.train c.in-Ok.arcs.items may (c.in-Ok.ensures fixings decisions d c.args.paths.now.arcs may.about may.was may.placed may.orders_are may.arcs_are) in
    added next c.args.paths.now.arcs c.in-Ok.arcs.items c.join.new.paths.arcs c.len.result (c.in-Ok-join.ensures.ok ∙ ap (λ (l : List Arc). c.args.paths.now.arcs ++ l) c.deref.ensures.value)
    (omega (arith, c.len.ensures, c.in-Ok.arcs.ok)) joins.arcs_are (c.in-Ok-join.ensures.joined next (rw c.deref.ensures.value joins))

pub returns-clause-added : goal.returns-clause-added
returns-clause-added c fixings decisions d may =
    let node : Node = node_at c.args.problem.now fixings decisions in
    let next : Node = with_decision node d in
    c.in-Err.ensures.joined next (rw c.deref.ensures.value (train_joins node d c.args.ops.now c.args.each.now c.args.orders.now c.args.paths.now c.args.before.now c.args.train c.in-Ok.arcs.items may
    (c.in-Ok.ensures fixings decisions d c.args.paths.now.arcs may.about may.was may.placed may.orders_are may.arcs_are)))
