use Rattle.near_plans.specs.Plans.{IsBeside}
use Rattle.search_workers.specs.Explorers.{IsExplorerOf}
use Rattle.search_workers.proofs.explorer.Explorer.rehearse_root.Given as goal

abbrev pub invariant-loop : goal.invariant-loop
invariant-loop l = IsBeside l.initial.self.graph l.self.graph × IsExplorerOf l.problem l.self
