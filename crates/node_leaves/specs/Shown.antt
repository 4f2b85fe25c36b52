-- What a node of the search shows as a leaf of the tree.
use Rattle.std.specs.Prelude.{ℕ, ◌≤◌}
use Rattle.disp_model.specs.declared.settings.Rule.{Rule}
use Rattle.disp_model.specs.declared.settings.Rule.TheVariants.{Fixed}
use Rattle.disp_model.specs.declared.tree.Leaf.{Leaf as TreeLeaf}
use Rattle.disp_model.specs.declared.tree.Leaf.TheVariants.{NoRoute, Cycle, Late, Costs, Shares}
use Rattle.disp_model.specs.declared.tree.Verdict.{Verdict}
use Rattle.disp_model.specs.declared.tree.Verdict.TheVariants.{Optimal}
use Rattle.disp_model.specs.Node.{Node}
use Rattle.disp_model.specs.Nodes.{IsDead}
use Rattle.disp_model.specs.Shares.{IsBound}
use Rattle.disp_model.specs.Trees.{LeafHolds, FitsLeaf}
use Rattle.node_leaves.specs.declared.leaf.NodeLeaf.{NodeLeaf}
use Rattle.node_leaves.specs.declared.leaf.NodeLeaf.TheVariants.{Dead, Open}

-- a leaf that says of its node that it is dead
abbrev pub SaysDead : TreeLeaf → Type 0
SaysDead NoRoute = Unit {0}
SaysDead (Cycle ops) = Unit {0}
SaysDead (Late walk) = Unit {0}
SaysDead (Costs walks) = ⊥
SaysDead (Shares walks trains) = ⊥

-- a leaf that shows, under any verdict, that the node is dead, and says so
pub record IsDeadLeaf (node : Node) (leaf : TreeLeaf) : Type 0 where
  pub dead : IsDead node
  pub says : SaysDead leaf
  pub holds : (verdict : Verdict) → LeafHolds node verdict leaf
  pub fits : FitsLeaf leaf

-- the fixed rule lists no shares
abbrev pub ListsBy : Rule → TreeLeaf → Type 0
ListsBy Fixed (Shares walks trains) = ⊥
ListsBy _ _ = Unit {0}

-- the bound of a node that is not dead, and a leaf that shows it
pub record IsOpenLeaf (rule : Rule) (node : Node) (leaf : TreeLeaf) (bound : ℕ) : Type 0 where
  pub alive : IsDead node → ⊥
  pub is_bound : IsBound node rule bound
  pub holds : (least : ℕ) → least ≤ bound → LeafHolds node (Optimal least) leaf
  pub lists : ListsBy rule leaf
  pub fits : FitsLeaf leaf

-- the node shows this by the rule
abbrev pub IsLeafOf : Rule → Node → NodeLeaf → Type 0
IsLeafOf rule node (Dead leaf) = IsDeadLeaf node leaf
IsLeafOf rule node (Open leaf bound) = IsOpenLeaf rule node leaf bound
