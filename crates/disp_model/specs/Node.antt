-- A node of the search: what is decided, on top of a problem and the fixings that stand.
use Rattle.std.specs.Prelude.{List, [], ◌∷◌, ◌++◌}
use Rattle.disp_model.specs.declared.fixing.Fixing.{Fixing}
use Rattle.disp_model.specs.declared.decision.Decision.{Decision}
use Rattle.disp_model.specs.declared.problem.Problem.{Problem}

pub record Node : Type 0 where
  pub problem : Problem
  pub fixings : List Fixing
  pub decisions : List Decision

abbrev pub node_at : Problem → List Fixing → List Decision → Node
node_at problem fixings decisions = record {
  problem = problem;
  fixings = fixings;
  decisions = decisions;
}

-- the node at which nothing is decided
abbrev pub root_of : Problem → List Fixing → Node
root_of problem fixings = node_at problem fixings []

-- the node with one more decision
abbrev pub with_decision : Node → Decision → Node
with_decision node decision = record {
  problem = node.problem;
  fixings = node.fixings;
  decisions = node.decisions ++ decision ∷ [];
}

-- the node with more fixings
abbrev pub with_fixings : Node → List Fixing → Node
with_fixings node more = record {
  problem = node.problem;
  fixings = node.fixings ++ more;
  decisions = node.decisions;
}
