-- How the bounds of a problem's nodes are reckoned.
use Rattle.disp_model.specs.declared.problem.Problem.{Problem}
use Rattle.problem_facts.specs.Components.{AreOwnOf}
use Rattle.node_leaves.specs.declared.reckoning.Reckoning.{Reckoning}

-- the components by their trains are those of the problem
abbrev pub ReckonsFor : Problem → Reckoning → Type 0
ReckonsFor problem reckoning = AreOwnOf problem reckoning.components
