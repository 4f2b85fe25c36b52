use Rattle.std.proofs.Common.{sym, subst}
use Rattle.disp_model.specs.Node.{node_at}
use Rattle.event_arcs.specs.Owned.{AreByTrain}
use Rattle.event_arcs.specs.Placed.{ArePlaced, IsPlacing}
use Rattle.event_arcs.proofs.Offsets.{all_have_routes}
use Rattle.event_arcs.proofs.list.arcs.Goals as goal

pub returns-in-Each : goal.returns-in-Each
returns-in-Each c =
    let fixings = c.args.fixings.now in
    let decisions = c.args.decisions.now in
    let node = node_at c.args.problem.now fixings decisions in
    let own = subst (AreByTrain fixings decisions) (sym c.deref.ensures.value) c.in_ok-owns.ensures.own in
    let placed = subst (IsPlacing node) c.in-Each.is (c.in_ok-each.ensures fixings decisions own) in
    let read = subst (ArePlaced node) (sym c.deref-in-Each.ensures.value) placed in
    (c.in_ok-arcs-in-Each.ensures fixings read, all_have_routes node c.in-Each.each.items placed)
