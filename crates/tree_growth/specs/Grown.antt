-- What grows at places of the tree: nodes in preorder, branches that help, and leaves that keep
-- their bounds.
use Rattle.std.specs.Prelude.{◌≡◌, ℕ, suc, List, [], ◌∷◌, ◌++◌, length, map, Option, Some}
use Rattle.disp_model.specs.declared.decision.Choice.{Choice}
use Rattle.disp_model.specs.declared.settings.Rule.{Rule}
use Rattle.disp_model.specs.declared.settings.Rule.TheVariants.{Fixed}
use Rattle.disp_model.specs.declared.tree.Leaf.{Leaf as TreeLeaf}
use Rattle.disp_model.specs.declared.tree.Leaf.TheVariants.{Shares}
use Rattle.disp_model.specs.declared.tree.TreeNode.{TreeNode}
use Rattle.disp_model.specs.declared.tree.TreeNode.TheVariants.{Branch, Leaf}
use Rattle.disp_model.specs.declared.tree.Verdict.{Verdict}
use Rattle.disp_model.specs.declared.tree.Verdict.TheVariants.{Optimal}
use Rattle.disp_model.specs.Node.{Node, with_decision}
use Rattle.disp_model.specs.Nodes.{IsDead}
use Rattle.disp_model.specs.Shares.{IsBound}
use Rattle.disp_model.specs.Earliest.{IsPicked}
use Rattle.disp_model.specs.Trees.{LeafHolds, FitsLeaf, IsChoice, children_of}
use Rattle.open_nodes.specs.declared.place.Kind.TheVariants.{Dead}
use Rattle.open_nodes.specs.States.{IsBoundBelow}
use Rattle.open_nodes.specs.Grafts.{kind_of}

-- a branch that helps: its node is not dead, its choice is one that is picked there, and its bound
-- is below the best
pub record Helps (rule : Rule) (best : Option ℕ) (node : Node) (choice : Choice) : Type 0 where
  pub alive : IsDead node → ⊥
  pub picked : IsPicked node rule (Some choice)
  pub bound : ℕ
  pub bound_is : IsBound node rule bound
  pub below : IsBoundBelow bound best

-- what the leaf lists counts by the rule: shares count by the free one alone, or for nothing
abbrev pub LeafCounts : Rule → TreeLeaf → ℕ → Type 0
LeafCounts Fixed (Shares walks trains) bound = bound ≡ 0
LeafCounts _ _ bound = Unit {0}

-- a leaf that holds for a bound, by what the rule counts, and can be written
pub record KeepsBound (rule : Rule) (node : Node) (leaf : TreeLeaf) (bound : ℕ) : Type 0 where
  pub holds : LeafHolds node (Optimal bound) leaf
  pub counts : LeafCounts rule leaf bound
  pub fits : FitsLeaf leaf

-- a leaf that is grown keeps its bound, and that is the node's own where the node is not dead;
-- where it is, the leaf shows so by itself, whatever the verdict, and is kept as a dead one
pub record IsGrownLeaf (rule : Rule) (node : Node) (leaf : TreeLeaf) (bound : ℕ) : Type 0 where
  pub keeps : KeepsBound rule node leaf bound
  pub own : (IsDead node → ⊥) → IsBound node rule bound
  pub dead : IsDead node → (verdict : Verdict) → LeafHolds node verdict leaf
  pub kind : IsDead node → kind_of leaf ≡ Dead

-- the nodes fill the places, from the first on: each branch helps, each leaf has a bound
abbrev pub AreHelpful : Rule → Option ℕ → List Node → List TreeNode → List ℕ → Type 0
AreHelpful rule best [] [] [] = Unit {0}
AreHelpful rule best [] [] (bound ∷ bounds) = ⊥
AreHelpful rule best [] (top ∷ tree) bounds = ⊥
AreHelpful rule best (node ∷ places) [] bounds = ⊥
AreHelpful rule best (node ∷ places) (Leaf leaf ∷ tree) [] = ⊥
AreHelpful rule best (node ∷ places) (Leaf leaf ∷ tree) (bound ∷ bounds) =
    AreHelpful rule best places tree bounds
AreHelpful rule best (node ∷ places) (Branch choice children ∷ tree) bounds =
    Helps rule best node choice × (children ≡ length (children_of node.problem choice))
    × AreHelpful rule best (map (with_decision node) (children_of node.problem choice) ++ places)
    tree bounds

-- the nodes fill the places, from the first on: each branch has a choice of the problem, each leaf
-- keeps its bound
abbrev pub KeepBounds : Rule → List Node → List TreeNode → List ℕ → Type 0
KeepBounds rule [] [] [] = Unit {0}
KeepBounds rule [] [] (bound ∷ bounds) = ⊥
KeepBounds rule [] (top ∷ tree) bounds = ⊥
KeepBounds rule (node ∷ places) [] bounds = ⊥
KeepBounds rule (node ∷ places) (Leaf leaf ∷ tree) [] = ⊥
KeepBounds rule (node ∷ places) (Leaf leaf ∷ tree) (bound ∷ bounds) =
    KeepsBound rule node leaf bound × KeepBounds rule places tree bounds
KeepBounds rule (node ∷ places) (Branch choice children ∷ tree) bounds =
    IsChoice node.problem choice × (children ≡ length (children_of node.problem choice))
    × KeepBounds rule (map (with_decision node) (children_of node.problem choice) ++ places) tree
    bounds

-- the nodes fill the places, from the first on: each branch helps, each leaf keeps the bound of its
-- node
abbrev pub GrowsBelow : Rule → Option ℕ → List Node → List TreeNode → List ℕ → Type 0
GrowsBelow rule best [] [] [] = Unit {0}
GrowsBelow rule best [] [] (bound ∷ bounds) = ⊥
GrowsBelow rule best [] (top ∷ tree) bounds = ⊥
GrowsBelow rule best (node ∷ places) [] bounds = ⊥
GrowsBelow rule best (node ∷ places) (Leaf leaf ∷ tree) [] = ⊥
GrowsBelow rule best (node ∷ places) (Leaf leaf ∷ tree) (bound ∷ bounds) =
    IsGrownLeaf rule node leaf bound × GrowsBelow rule best places tree bounds
GrowsBelow rule best (node ∷ places) (Branch choice children ∷ tree) bounds =
    Helps rule best node choice × (children ≡ length (children_of node.problem choice))
    × GrowsBelow rule best (map (with_decision node) (children_of node.problem choice) ++ places)
    tree bounds

-- how many branches there are
abbrev pub branches : List TreeNode → ℕ
branches [] = 0
branches (Branch choice children ∷ tree) = suc (branches tree)
branches (Leaf leaf ∷ tree) = branches tree
