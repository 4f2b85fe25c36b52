use Rattle.std.proofs.Common.{◌∙◌, []}
use Rattle.std.proofs.lemmas.Result.{IfOk-at_ok}
use Rattle.disp_model.specs.Node.{node_at}
use Rattle.node_leaves.specs.Shown.{IsDeadLeaf}
use Rattle.search_workers.proofs.Rooted.{root_edition, graph_newest, dead_root}
use Rattle.search_workers.proofs.search.search_alone.Goals as goal

pub new-requires : goal.new-requires
new-requires c = record {
  edition = root_edition c.args.core.now c.edition-edition.ensures.sound c.args.problem.now c.requires.problem c.as_slice-fixings.result.now (c.as_slice-fixings.ensures.value ∙ c.in_ok-fixings.ensures);
}

pub search_from-requires-clause-newest : goal.search_from-requires-clause-newest
search_from-requires-clause-newest c =
    graph_newest c.args.core.now c.edition-edition.ensures.sound c.args.problem.now c.requires.problem c.as_slice-fixings.result.now (c.as_slice-fixings.ensures.value ∙ c.in_ok-fixings.ensures) c.in-Ok.graph c.in-Ok.ensures.ok

pub rounds_of_dead-requires : goal.rounds_of_dead-requires
rounds_of_dead-requires c =
    let root = node_at c.args.problem.now c.as_slice-fixings.result.now [] in
    let leaf = c.in_ok-refused_leaf-in-Err.field-0 in
    let dead : IsDeadLeaf root leaf = IfOk-at_ok (IsDeadLeaf root) c.in_ok-refused_leaf-in-Err.was (c.refused_leaf.ensures root c.in-Err.ensures.refused) in
    record { dead = dead_root c.args.core.now c.edition-edition.ensures.sound c.args.problem.now c.requires.problem c.as_slice-fixings.result.now (c.as_slice-fixings.ensures.value ∙ c.in_ok-fixings.ensures) leaf dead }
