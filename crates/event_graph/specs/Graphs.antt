-- What a graph keeps: the parts of its node, and how to go back to each node before it.
use Rattle.std.specs.Prelude.{◌≡◌, ℕ, zero, suc, ◌-◌, List, Some, length, take, slice_get}
use Rattle.disp_model.specs.declared.train.Op.{Op}
use Rattle.disp_model.specs.declared.fixing.Fixing.{Fixing}
use Rattle.disp_model.specs.declared.decision.Decision.{Decision}
use Rattle.disp_model.specs.declared.problem.Problem.{Problem}
use Rattle.disp_model.specs.Node.{Node, node_at}
use Rattle.event_graph.specs.declared.changes.Change.{Change}
use Rattle.event_graph.specs.declared.parts.Parts.{Parts}
use Rattle.event_graph.specs.States.{GraphState, IsStateAt, restored_state, MayRestore}
use Rattle.event_graph.specs.Late.{AreUppersOf, AreClosedOf}
use Rattle.event_graph.specs.Kept.{state_of, MayDecide}
use Rattle.event_graph.specs.Known.{KeepsOwnRoutes}

-- without its last decision
abbrev pub without_last_decision : Node → Node
without_last_decision node = node_at node.problem node.fixings
    (take (length node.decisions - 1) node.decisions)

-- the last of these changes leads back to what was kept before its decision, and so on to the first
pub record LeadsBack (Before : GraphState → Type 0) (problem : Problem) (fixings : List Fixing)
    (decisions : List Decision) (trail : List Change) (k : ℕ) (state : GraphState) : Type 0 where
  pub change : Change
  pub there : slice_get trail k ≡ Some change
  pub may : MayRestore change state
  pub at : IsStateAt (node_at problem fixings (take k decisions)) (restored_state change state)
  pub before : Before (restored_state change state)

abbrev pub ArePast : Problem → List Fixing → List Decision → List Change → ℕ → GraphState → Type 0
ArePast problem fixings decisions trail zero state = Unit {0}
ArePast problem fixings decisions trail (suc k) state =
    LeadsBack (λ before. ArePast problem fixings decisions trail k before) problem fixings decisions
    trail k state

pub record IsGraph (problem : Problem) (fixings : List Fixing) (ops closed : List Op)
    (decisions : List Decision) (parts : Parts) (trail : List Change) : Type 0 where
  pub uppers_are : AreUppersOf problem fixings parts.paths.uppers
  pub closed_are : AreClosedOf problem fixings closed
  pub may : MayDecide (node_at problem fixings decisions) ops parts
  pub long : length trail ≡ length decisions
  pub past : ArePast problem fixings decisions trail (length decisions) (state_of parts)
  pub known : KeepsOwnRoutes problem parts.known
