use Rattle.std.proofs.Common.{◌≡◌}
use Rattle.search_workers.specs.Explorers.{IsExplorerOf}
use Rattle.search_workers.specs.Searched.{CoreGoesOn, IsOfNewest}
use Rattle.search_workers.proofs.search.rounds.Given as goal

abbrev pub invariant-loop : goal.invariant-loop
invariant-loop l = record {
  on : CoreGoesOn l.initial.core l.core;
  newest : IsOfNewest l.core l.explorer.graph;
  problem : l.core.problem ≡ l.problem;
  rule : l.core.settings.rule ≡ l.reckoning.rule;
  ready : IsExplorerOf l.problem l.explorer;
}
