-- A subtree of which one place is still to be filled.
use Rattle.std.specs.Prelude.{◌≡◌, ℕ, ◌≤◌, List, [], ◌∷◌, ◌++◌, reverse, take, length, Option}
use Rattle.disp_model.specs.declared.tree.Leaf.{Leaf as TreeLeaf}
use Rattle.disp_model.specs.declared.tree.TreeNode.{TreeNode}
use Rattle.disp_model.specs.declared.tree.TreeNode.TheVariants.{Leaf}
use Rattle.disp_model.specs.Node.{Node}
use Rattle.disp_model.specs.declared.settings.Rule.{Rule}
use Rattle.tree_growth.specs.Grown.{IsGrownLeaf, GrowsBelow}

-- nodes of a subtree before a place and behind it, these last first, with the bounds of their
-- leaves
pub record Sides : Type 0 where
  pub before : List TreeNode
  pub before_bounds : List ℕ
  pub behind : List TreeNode
  pub behind_bounds : List ℕ

-- what fills the place of the one node makes with the sides what fills that of the other
abbrev pub Completes : Rule → Option ℕ → Node → Node → Sides → Type 0
Completes rule best root here sides =
    (tree : List TreeNode) (bounds : List ℕ) → GrowsBelow rule best (here ∷ []) tree bounds
    → GrowsBelow rule best (root ∷ []) (sides.before ++ tree ++ reverse sides.behind)
    (sides.before_bounds ++ bounds ++ reverse sides.behind_bounds)

-- of what fills the place of the one node a leaf stands at that of the other, with its bound: what
-- grows in its stead makes with the sides what fills the place too
pub record IsLeafAt (rule : Rule) (best : Option ℕ) (root here : Node) (nodes : List TreeNode)
    (bounds : List ℕ) : Type 0 where
  pub sides : Sides
  pub completes : Completes rule best root here sides
  pub leaf : TreeLeaf
  pub bound : ℕ
  pub grown : IsGrownLeaf rule here leaf bound
  pub nodes_are : nodes ≡ sides.before ++ Leaf leaf ∷ reverse sides.behind
  pub bounds_are : bounds ≡ sides.before_bounds ++ bound ∷ reverse sides.behind_bounds

-- a node with the same decisions first
pub record IsBelowNode (root here : Node) : Type 0 where
  pub problem : here.problem ≡ root.problem
  pub fixings : here.fixings ≡ root.fixings
  pub deeper : length root.decisions ≤ length here.decisions
  pub first : take (length root.decisions) here.decisions ≡ root.decisions
