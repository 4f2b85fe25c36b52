-- The state of the core.
use Rattle.std.specs.Prelude.{◌≡◌, ◌⊎◌, ℕ, ◌+◌, ◌-◌, ◌≤◌, Bool, List, [], ◌∷◌, ◌++◌, All, length, sum_by, take, IsSome, Option, Some, slice_get}
use Rattle.disp_model.specs.declared.decision.Choice.{Choice}
use Rattle.disp_model.specs.declared.entry.Entry.{Entry}
use Rattle.disp_model.specs.declared.fixing.Fixing.{Fixing}
use Rattle.disp_model.specs.declared.limits.TheConstants.{GREATEST_COST}
use Rattle.disp_model.specs.declared.plan.Event.{Event}
use Rattle.disp_model.specs.declared.problem.Problem.{Problem}
use Rattle.disp_model.specs.declared.settings.Rule.{Rule}
use Rattle.disp_model.specs.declared.settings.Settings.{Settings}
use Rattle.disp_model.specs.declared.tree.TreeNode.TheVariants.{Leaf}
use Rattle.disp_model.specs.declared.tree.Leaf.{Leaf as TreeLeaf}
use Rattle.disp_model.specs.declared.tree.Verdict.TheVariants.{Optimal}
use Rattle.disp_model.specs.Node.{Node, node_at}
use Rattle.disp_model.specs.Nodes.{IsDead}
use Rattle.disp_model.specs.Shares.{IsBound}
use Rattle.disp_model.specs.Earliest.{IsPicked}
use Rattle.disp_model.specs.Trees.{LeafHolds, FitsNode}
use Rattle.disp_model.specs.History.{edition_of, newest, last_plan, IsBestCost}
use Rattle.disp_model.specs.Legal.{IsLegal}
use Rattle.disp_model.specs.Replay.{grown_by, above_leaf, spent_on}
use Rattle.open_nodes.specs.declared.place.Place.{Place}
use Rattle.open_nodes.specs.declared.place.Errand.{Errand}
use Rattle.open_nodes.specs.States.{State, decisions_of, allowance_for, allowed_of}
use Rattle.open_nodes.specs.Shown.{fallen}
use Rattle.open_nodes.specs.Filled.{IsTree}
use Rattle.tree_growth.specs.Keeping.{AllKeep}
use Rattle.tree_replay.specs.Replayed.{IsReplayed}

-- a problem and what the run was given, the history so far, the tree, which feeds have ended and
-- which searchers have left
pub record Core : Type 0 where
  pub problem : Problem
  pub settings : Settings
  pub history : List Entry
  pub nodes : State
  pub ended : List Bool
  pub left : List Bool

-- with one more entry
abbrev pub entered : Core → Entry → Core
entered core entry = record {
  problem = core.problem;
  settings = core.settings;
  history = core.history ++ entry ∷ [];
  nodes = core.nodes;
  ended = core.ended;
  left = core.left;
}

-- with another tree
abbrev pub with_nodes : Core → State → Core
with_nodes core nodes = record {
  problem = core.problem;
  settings = core.settings;
  history = core.history;
  nodes = nodes;
  ended = core.ended;
  left = core.left;
}

-- how many branchings may still be allowed for the newest edition
abbrev pub free_of : Core → ℕ
free_of core = core.settings.budget - (spent_on (newest core.history) core.history + allowed_of
    core.nodes)

-- ---- what is true of every state

-- what a leaf went out with: the place seen, the edition and the best cost there, where the leaf
-- was a leaf already, and the kept bound, which it has while no newer edition comes
pub record IsErrand (core : Core) (n : ℕ) (place : Place) (errand : Errand) : Type 0 where
  pub seen : errand.seen ≤ length core.history
  pub edition : newest (take errand.seen core.history) ≡ errand.edition
  pub best : IsBestCost core.problem (take errand.seen core.history) errand.best
  pub leaf : IsSome (above_leaf n (grown_by core.problem (take errand.seen core.history)).places)
  pub bound : errand.edition ≡ newest core.history → place.bound ≡ errand.bound

abbrev pub AreErrands : Core → Type 0
AreErrands core = (n : ℕ) (place : Place) (errand : Errand)
    → slice_get core.nodes.places n ≡ Some place → place.out ≡ Some errand
    → IsErrand core n place errand

-- the node is not dead, this is its bound, and some choice is picked there
pub record IsExamined (rule : Rule) (node : Node) (bound : ℕ) : Type 0 where
  pub alive : IsDead node → ⊥
  pub bound_is : IsBound node rule bound
  pub choice : Choice
  pub picked : IsPicked node rule (Some choice)

-- leaves are marked as examined for the newest edition at most, and those are
pub record IsPlaceMarked (core : Core) (n : ℕ) (place : Place) (edition : ℕ) : Type 0 where
  pub within : edition ≤ newest core.history
  pub examined : edition ≡ newest core.history
      → IsExamined core.settings.rule (node_at core.problem (edition_of core.history)
      (decisions_of core.nodes.places n)) place.bound

abbrev pub AreMarked : Core → Type 0
AreMarked core = (n : ℕ) (place : Place) (edition : ℕ) → slice_get core.nodes.places n ≡ Some place
    → place.examined ≡ Some edition → IsPlaceMarked core n place edition

-- the last published plan's cost can be written
abbrev pub HasFittingCost : List Entry → Type 0
HasFittingCost history = (plan : List Event) (cost : ℕ) → last_plan history ≡ Some (plan, cost)
    → cost ≤ GREATEST_COST

-- the history is legal, and the tree is the one that it grew; each leaf keeps its bound, and each
-- node can be written; the budget covers what is spent on each edition and allowed for it
pub record IsSound (core : Core) : Type 0 where
  pub legal : IsLegal core.problem core.settings core.history
  pub tree : IsTree core.problem core.nodes
  pub replayed : IsReplayed (grown_by core.problem core.history) core.nodes
  pub keep : AllKeep core.settings.rule core.problem (edition_of core.history) core.nodes
  pub fits : All FitsNode core.nodes.kept
  pub edition : core.nodes.edition ≡ newest core.history
  pub covered : (edition : ℕ) → spent_on edition core.history + sum_by
      (λ p. allowance_for edition p.out) core.nodes.places ≤ core.settings.budget
  pub cost : HasFittingCost core.history
  pub errands : AreErrands core
  pub marks : AreMarked core

-- ---- leaves that no longer hold

-- a leaf that does not hold for its kept bound
abbrev pub DoesNotHold : Problem → List Fixing → State → ℕ → Place → Type 0
DoesNotHold problem fixings state n place =
    (leaf : TreeLeaf) × (slice_get state.kept place.shows ≡ Some (Leaf leaf))
    × (LeafHolds (node_at problem fixings (decisions_of state.places n)) (Optimal place.bound) leaf
    → ⊥)

-- a place stays where its leaf holds, and falls back where it does not
abbrev pub IsSettledAt : Problem → List Fixing → State → ℕ → Place → Option Place → Type 0
IsSettledAt problem fixings before n place found =
    (DoesNotHold problem fixings before n place × (found ≡ Some (fallen place)))
    ⊎ ((DoesNotHold problem fixings before n place → ⊥) × (found ≡ Some place))

-- each leaf that does not hold for its kept bound has fallen back, and nothing else has changed
pub record Settles (problem : Problem) (fixings : List Fixing) (before after : State) : Type 0 where
  pub count : length after.places ≡ length before.places
  pub each : (n : ℕ) (place : Place) → slice_get before.places n ≡ Some place
      → IsSettledAt problem fixings before n place (slice_get after.places n)
  pub kept : after.kept ≡ before.kept
  pub edition : after.edition ≡ before.edition
