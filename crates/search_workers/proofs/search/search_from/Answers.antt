use Rattle.std.proofs.Common.{sym, subst}
use Rattle.search_workers.specs.Searched.{IsOfNewest}
use Rattle.search_workers.proofs.search.search_from.Goals as goal

pub rounds-requires-clause-newest : goal.rounds-requires-clause-newest
rounds-requires-clause-newest c = subst (IsOfNewest c.args.core.now) (sym c.in_ok-explorer.ensures.graph) c.requires.newest
