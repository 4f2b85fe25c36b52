use Rattle.std.proofs.Common.{[], sym, subst}
use Rattle.std.proofs.lemmas.Result.{err_from_is_err_and}
use Rattle.disp_model.specs.Node.{node_at}
use Rattle.event_arcs.specs.Owned.{AreByTrain}
use Rattle.event_arcs.specs.Placed.{IsPlacing}
use Rattle.event_arcs.proofs.Offsets.{all_have_routes}
use Rattle.event_graph.proofs.Deciding.{refused_at}
use Rattle.event_graph.proofs.root.parts_of.Goals as goal

pub returns-in_err-owns-clause-err : goal.returns-in_err-owns-clause-err
returns-in_err-owns-clause-err c =
    let p = err_from_is_err_and c.from_residual.result c.from_residual.ensures.1 in
    rw (p.1, p.2) tt

pub returns-in_err-each-clause-err : goal.returns-in_err-each-clause-err
returns-in_err-each-clause-err c =
    let p = err_from_is_err_and c.from_residual-in_err-each.result c.from_residual-in_err-each.ensures.1 in
    rw (p.1, p.2) tt

pub returns-in_err-paths-in-Each-clause-err : goal.returns-in_err-paths-in-Each-clause-err
returns-in_err-paths-in-Each-clause-err c =
    let p = err_from_is_err_and c.from_residual-in_err-paths-in-Each.result c.from_residual-in_err-paths-in-Each.ensures.1 in
    let root = node_at c.args.problem.now c.args.fixings.now [] in
    let own = subst (AreByTrain c.args.fixings.now []) (sym c.deref.ensures.value) c.in_ok-owns.ensures.own in
    let placed = subst (IsPlacing root) c.in-Each.is (c.in_ok-each.ensures c.args.fixings.now [] own) in
    rw (p.1, p.2) (refused_at root c.in_err-paths-in-Each.field-0.0 (all_have_routes root c.in-Each.each.items placed) c.in_err-paths-in-Each.ensures.err)

pub returns-in_err-orders-in-Each-clause-err : goal.returns-in_err-orders-in-Each-clause-err
returns-in_err-orders-in-Each-clause-err c =
    let p = err_from_is_err_and c.from_residual-in_err-orders-in-Each.result c.from_residual-in_err-orders-in-Each.ensures.1 in
    rw (p.1, p.2) tt

pub returns-in_err-known-in-Each-clause-err : goal.returns-in_err-known-in-Each-clause-err
returns-in_err-known-in-Each-clause-err c =
    let p = err_from_is_err_and c.from_residual-in_err-known-in-Each.result c.from_residual-in_err-known-in-Each.ensures.1 in
    rw (p.1, p.2) tt
