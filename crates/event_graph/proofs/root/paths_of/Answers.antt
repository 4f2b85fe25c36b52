use Rattle.std.proofs.Common.{[], sym, subst}
use Rattle.std.proofs.lemmas.Result.{err_from_is_err_and}
use Rattle.disp_model.specs.Node.{Node, node_at}
use Rattle.event_arcs.specs.Listed.{AreArcsOf}
use Rattle.event_graph.specs.Joined.{MayJoin}
use Rattle.event_graph.proofs.Rooting.{may_join_first, paths_are}
use Rattle.event_graph.proofs.root.paths_of.Goals as goal
use Rattle.event_graph.proofs.root.paths_of.Goals.{After-deref}

root : (c : After-deref) → Node
root c = node_at c.args.problem.now c.args.fixings.now []

joins : (c : After-deref) → MayJoin (root c) c.args.ops.now c.in_ok-paths.paths c.deref.result.now
unfolding root
joins c =
    may_join_first (root c) c.args.ops.now c.in_ok-paths.paths c.deref.result.now c.in_ok-paths.ensures.arcs c.requires.ops_are c.requires.edition c.in_ok-paths.ensures.lowers
    (subst (AreArcsOf (root c)) (sym c.deref.ensures.value) (c.in_ok-arcs.ensures c.args.fixings.now c.requires.placed))

pub returns-in_err-arcs-clause-err : goal.returns-in_err-arcs-clause-err
returns-in_err-arcs-clause-err c =
    let p = err_from_is_err_and c.from_residual.result c.from_residual.ensures.1 in
    rw (p.1, p.2) tt

pub returns-in_err-paths-clause-err : goal.returns-in_err-paths-clause-err
returns-in_err-paths-clause-err c =
    let p = err_from_is_err_and c.from_residual-in_err-paths.result c.from_residual-in_err-paths.ensures.1 in
    rw (p.1, p.2) tt

pub join-requires : goal.join-requires
unfolding root
join-requires c = (root c, joins c)

pub returns-in_err-join-clause-err : goal.returns-in_err-join-clause-err
unfolding root
returns-in_err-join-clause-err c =
    let d = (goal.at.returns-in_err-join-clause-err c).After-deref in
    let p = err_from_is_err_and c.from_residual-in_err-join.result c.from_residual-in_err-join.ensures.1 in
    rw (p.1, p.2) (c.in_err-join.ensures.joined (root d) (joins d))

pub returns-clause-ok : goal.returns-clause-ok
unfolding root
returns-clause-ok c =
    let d = (goal.at.returns-clause-ok c).After-deref in
    paths_are (root d) c.in_ok-paths.paths c.join.new.paths c.deref.result.now c.in_ok-paths.ensures.arcs c.in_ok-join.ensures.lowers c.in_ok-join.ensures.ok c.in_ok-paths.ensures.lowers
    (subst (AreArcsOf (root d)) (sym c.deref.ensures.value) (c.in_ok-arcs.ensures c.args.fixings.now c.requires.placed))
    (c.in_ok-join.ensures.joined (root d) (joins d))
