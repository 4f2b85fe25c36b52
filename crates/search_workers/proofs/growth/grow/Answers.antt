use Rattle.std.proofs.Common.{List, subst}
use Rattle.std.proofs.lemmas.Result.{IfOk-weaker}
use Rattle.disp_model.specs.declared.decision.Decision.{Decision}
use Rattle.disp_model.specs.Node.{node_at}
use Rattle.node_leaves.specs.Shown.{IsDeadLeaf}
use Rattle.search_workers.specs.Walks.{Arrives}
use Rattle.search_workers.proofs.Growths.{alone_grows}
use Rattle.search_workers.proofs.growth.grow.Goals as goal

pub returns-in-Some-clause-grown : goal.returns-in-Some-clause-grown
returns-in-Some-clause-grown c =
    let before = c.args.graph.now in
    let work = c.args.work.now in
    let dead : IsDeadLeaf (node_at before.problem before.fixings c.as_slice.result.now) c.in-Some.leaf =
    subst (Arrives (node_at before.problem before.fixings c.as_slice.result.now) c.go_to.new.graph) c.in-Some.is c.in_ok-leaf.ensures.at in
    let here : IsDeadLeaf (node_at before.problem before.fixings work.decisions) c.in-Some.leaf =
    subst (λ (ds : List Decision). IsDeadLeaf (node_at before.problem before.fixings ds) c.in-Some.leaf) c.as_slice.ensures dead in
    IfOk-weaker c.leaf_alone.result _ _ (λ grown same. alone_grows c.args.reckoning.now.rule (node_at before.problem before.fixings work.decisions) c.args.best work.allowance work.bound c.in-Some.leaf here grown same) c.leaf_alone.ensures
