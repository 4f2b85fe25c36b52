-- What is left of a fragment under the fixings of another edition.
use Rattle.std.specs.Prelude.{◌≡◌, ◌⊎◌, ℕ, List, [], ◌∷◌, ◌++◌, map}
use Rattle.disp_model.specs.declared.fixing.Fixing.{Fixing}
use Rattle.disp_model.specs.declared.problem.Problem.{Problem}
use Rattle.disp_model.specs.declared.tree.Leaf.{Leaf as TreeLeaf}
use Rattle.disp_model.specs.declared.tree.Leaf.TheVariants.{Costs}
use Rattle.disp_model.specs.declared.tree.TreeNode.{TreeNode}
use Rattle.disp_model.specs.declared.tree.TreeNode.TheVariants.{Branch, Leaf}
use Rattle.disp_model.specs.declared.tree.Verdict.TheVariants.{Optimal}
use Rattle.disp_model.specs.Node.{Node, node_at, with_decision}
use Rattle.disp_model.specs.Trees.{LeafHolds, children_of}
use Rattle.open_nodes.specs.declared.work.Fragment.{Fragment}

-- a leaf for its bound; where it does not hold, the empty list of walks with the bound 0
abbrev pub IsLeafLeft : Node → TreeLeaf → ℕ → TreeLeaf → ℕ → Type 0
IsLeafLeft node leaf bound left least =
    (LeafHolds node (Optimal bound) leaf × (left ≡ leaf) × (least ≡ bound))
    ⊎ ((LeafHolds node (Optimal bound) leaf → ⊥) × (left ≡ Costs []) × (least ≡ 0))

-- what is left of nodes that fill places, with the bounds of their leaves
abbrev pub AreLeft : List Node → List TreeNode → List ℕ → List TreeNode → List ℕ → Type 0
AreLeft places [] bounds left least = (left ≡ []) × (least ≡ [])
AreLeft [] (top ∷ tree) bounds left least = ⊥
AreLeft (node ∷ places) (Leaf leaf ∷ tree) [] left least = ⊥
AreLeft (node ∷ places) (Leaf leaf ∷ tree) (bound ∷ bounds) left least =
    (one : TreeLeaf) × (less : ℕ) × (rest : List TreeNode) × (others : List ℕ)
    × IsLeafLeft node leaf bound one less
    × AreLeft places tree bounds rest others × (left ≡ Leaf one ∷ rest) × (least ≡ less ∷ others)
AreLeft (node ∷ places) (Branch choice children ∷ tree) bounds left least =
    (rest : List TreeNode) × AreLeft (map (with_decision node) (children_of node.problem choice)
    ++ places) tree bounds rest least
    × (left ≡ Branch choice children ∷ rest)

-- a fragment as its leaves hold under an edition's fixings
pub record IsLeft (problem : Problem) (fixings : List Fixing) (fragment left : Fragment)
    : Type 0 where
  pub work : left.work ≡ fragment.work
  pub nodes : AreLeft (node_at problem fixings fragment.work.decisions ∷ []) fragment.subtree
      fragment.bounds left.subtree left.bounds
