-- What the parts keep of a node, and what a decision makes of it.
use Rattle.std.specs.Prelude.{◌≡◌, ℕ, ◌<◌, ◌≤◌, List, Result, Ok, Err, Some, length}
use Rattle.disp_model.specs.declared.train.Op.{Op}
use Rattle.disp_model.specs.WellFormed.{operation_count}
use Rattle.disp_model.specs.Node.{Node, with_decision}
use Rattle.disp_model.specs.Routes.{HasRoute}
use Rattle.disp_model.specs.Walks.{IsCycle, HasCycle}
use Rattle.disp_model.specs.declared.decision.Decision.{Decision}
use Rattle.disp_model.specs.declared.decision.Decision.TheVariants.{First}
use Rattle.incremental_paths.specs.declared.arc.Arc.{Arc}
use Rattle.timed_paths.specs.Timed.{Timed}
use Rattle.event_arcs.specs.declared.placed.Placed.{Placed}
use Rattle.event_arcs.specs.Listed.{AreArcsOf, AreLowersOf}
use Rattle.event_arcs.specs.Placed.{IsFirstWithout, IsPlaced, ArePlaced}
use Rattle.event_arcs.specs.Owned.{train_of_decision}
use Rattle.event_graph.specs.Pairs.{Ordered}
use Rattle.event_graph.specs.declared.parts.Parts.{Parts}
use Rattle.event_graph.specs.declared.changes.Change.{Change}
use Rattle.event_graph.specs.declared.faults.ExtendNo.{ExtendNo}
use Rattle.event_graph.specs.declared.faults.ExtendNo.TheVariants.{NoRoute, Cycle, Memory}
use Rattle.event_graph.specs.States.{AreOrdersOf, GraphState, IsStateAt, without_last_of, restored_state, MayRestore}
use Rattle.event_graph.specs.Joined.{IsOfEdition, IsCycleOr}
use Rattle.event_windows.specs.Operations.{AreOperationsOf}

abbrev pub state_of : Parts → GraphState
state_of parts = record {
  owns = parts.owns.items;
  each = parts.each.items;
  pairs = parts.orders.pairs;
  arcs = parts.paths.arcs;
}

-- a decision may be added to what is kept
pub record MayDecide (node : Node) (ops : List Op) (parts : Parts) : Type 0 where
  pub state : IsStateAt node (state_of parts)
  pub ops_are : AreOperationsOf node.problem ops
  pub lowers_are : AreLowersOf node parts.paths.lowers
  pub edition : IsOfEdition node
  pub size : parts.orders.size ≡ operation_count node.problem.trains

-- why the node is none to go on from: the first train without_last_of a route; else a cycle; or
-- memory ran out
abbrev pub IsRefusedAt : Node → ExtendNo → Type 0
IsRefusedAt node (NoRoute t) = IsFirstWithout node t
IsRefusedAt node (Cycle ops) = ((t : ℕ) → t < length node.problem.trains → HasRoute node t)
    × IsCycle node ops
IsRefusedAt node Memory = Unit {0}

-- what is kept stands for the node then, and the change puts back what was kept before
pub record Decides (node : Node) (change : Change) (old new : GraphState) : Type 0 where
  pub at : IsStateAt node new
  pub may : MayRestore change new
  pub back : restored_state change new ≡ old

-- arcs of the node are added behind the others, or none
abbrev pub AddsArcs : Node → List Arc → List Arc → Result ℕ ExtendNo → Type 0
AddsArcs node old new (Ok count) = AreArcsOf node new × (HasCycle node → ⊥) × (count ≤ length new)
    × (without_last_of count new ≡ old)
AddsArcs node old new (Err why) = IsCycleOr node why

-- the arcs of an order may be added
pub record MayAddOrder (node : Node) (ops : List Op) (each : List Placed) (paths : Timed)
    (decision : Decision) : Type 0 where
  pub is_order : (a : Op) × (b : Op) × (decision ≡ First a b)
  pub ops_are : AreOperationsOf node.problem ops
  pub lowers_are : AreLowersOf node paths.lowers
  pub edition : IsOfEdition node
  pub placed : ArePlaced node each
  pub arcs_are : AreArcsOf node paths.arcs

-- the arcs of a train whose routes a decision has changed may be added
pub record MayAddTrain (node : Node) (decision : Decision) (ops : List Op) (each : List Placed)
    (orders : Ordered) (paths : Timed) (before : Placed) (t : ℕ) : Type 0 where
  pub about : train_of_decision decision ≡ Some t
  pub there : t < length node.problem.trains
  pub ops_are : AreOperationsOf node.problem ops
  pub lowers_are : AreLowersOf node paths.lowers
  pub edition : IsOfEdition node
  pub placed : ArePlaced (with_decision node decision) each
  pub was : IsPlaced node t before
  pub orders_are : AreOrdersOf node orders.pairs
  pub size : orders.size ≡ operation_count node.problem.trains
  pub arcs_are : AreArcsOf node paths.arcs

abbrev pub AnswersAt : Node → GraphState → GraphState → Result Change ExtendNo → Type 0
AnswersAt node old new (Ok change) = Decides node change old new
AnswersAt node old new (Err why) = IsRefusedAt node why × (new ≡ old)
