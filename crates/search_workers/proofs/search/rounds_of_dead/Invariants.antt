use Rattle.std.proofs.Common.{[]}
use Rattle.disp_model.specs.History.{edition_of}
use Rattle.disp_model.specs.Node.{node_at}
use Rattle.node_leaves.specs.Shown.{IsDeadLeaf}
use Rattle.search_workers.specs.Searched.{CoreGoesOn}
use Rattle.search_workers.proofs.search.rounds_of_dead.Given as goal

abbrev pub invariant-loop : goal.invariant-loop
invariant-loop l = record {
  on : CoreGoesOn l.initial.core l.core;
  dead : IsDeadLeaf (node_at l.core.problem (edition_of l.core.history) []) l.leaf;
}
