-- Arcs that are added to those of a node, or close a cycle.
use Rattle.std.specs.Prelude.{◌≡◌, List, ◌++◌, Result, Ok, Err}
use Rattle.disp_model.specs.declared.train.Op.{Op}
use Rattle.disp_model.specs.declared.fixing.Change.{Change}
use Rattle.disp_model.specs.Changes.{standing_of}
use Rattle.disp_model.specs.Node.{Node}
use Rattle.disp_model.specs.Walks.{IsCycle, HasCycle}
use Rattle.disp_model.specs.Replies.{IsEdition}
use Rattle.incremental_paths.specs.declared.arc.Arc.{Arc}
use Rattle.timed_paths.specs.Timed.{Timed}
use Rattle.event_arcs.specs.Listed.{AreArcsOf, AreLowersOf}
use Rattle.event_windows.specs.Operations.{AreOperationsOf}
use Rattle.event_graph.specs.declared.faults.ExtendNo.{ExtendNo}
use Rattle.event_graph.specs.declared.faults.ExtendNo.TheVariants.{NoRoute, Cycle, Memory}

-- the node's fixings are those that stand in an edition
abbrev pub IsOfEdition : Node → Type 0
IsOfEdition node = (changes : List Change) × IsEdition node.problem changes
    × (node.fixings ≡ standing_of changes)

-- with these arcs behind the kept ones they stand for the node
pub record MayJoin (node : Node) (ops : List Op) (paths : Timed) (arcs : List Arc) : Type 0 where
  pub ops_are : AreOperationsOf node.problem ops
  pub lowers_are : AreLowersOf node paths.lowers
  pub edition : IsOfEdition node
  pub arcs_are : AreArcsOf node (paths.arcs ++ arcs)

-- a refusal names a cycle of these operations, or memory ran out
abbrev pub IsNamedOr : (List Op → Type 0) → ExtendNo → Type 0
IsNamedOr Names (NoRoute t) = ⊥
IsNamedOr Names (Cycle ops) = Names ops
IsNamedOr Names Memory = Unit {0}

-- why they are not added: a cycle of the node, or want of memory
abbrev pub IsCycleOr : Node → ExtendNo → Type 0
IsCycleOr node why = IsNamedOr (IsCycle node) why

-- they are added where the node has no cycle
abbrev pub IsJoined : Node → Result (Unit {0}) ExtendNo → Type 0
IsJoined node (Ok done) = HasCycle node → ⊥
IsJoined node (Err why) = IsCycleOr node why
