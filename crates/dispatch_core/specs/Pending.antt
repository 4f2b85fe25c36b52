-- Places of a tree that are still to be looked at, each by the decisions that lead to it: a stack,
-- whose last is the next.
use Rattle.std.specs.Prelude.{◌≡◌, ℕ, List, [], ◌∷◌, ◌++◌, length, map, reverse, Some, slice_get}
use Rattle.disp_model.specs.declared.decision.Decision.{Decision}
use Rattle.disp_model.specs.declared.fixing.Fixing.{Fixing}
use Rattle.disp_model.specs.declared.problem.Problem.{Problem}
use Rattle.disp_model.specs.declared.tree.Leaf.{Leaf as TreeLeaf}
use Rattle.disp_model.specs.declared.tree.TreeNode.{TreeNode}
use Rattle.disp_model.specs.declared.tree.TreeNode.TheVariants.{Branch, Leaf}
use Rattle.disp_model.specs.Node.{Node, node_at}
use Rattle.disp_model.specs.Trees.{children_of}
use Rattle.open_nodes.specs.Grafts.{FillPlaces}
use Rattle.tree_growth.specs.Left.{IsLeafLeft}

-- the decisions that lead to children
abbrev pub lists_below : List Decision → List Decision → List (List Decision)
lists_below above [] = []
lists_below above (child ∷ children) = (above ++ child ∷ []) ∷ lists_below above children

-- the nodes of pending places, the next one first
abbrev pub nodes_under : Problem → List Fixing → List (List Decision) → List Node
nodes_under problem fixings pending = map (λ decisions. node_at problem fixings decisions)
    (reverse pending)

-- the leaf of the next place was looked at: what is left of it and of its bound stands behind the
-- rest
pub record LeavesLeaf (problem : Problem) (fixings : List Fixing) (bounds : List ℕ)
    (above : List Decision) (leaf : TreeLeaf)
    (nodes after : List TreeNode) (least least_after : List ℕ) : Type 0 where
  pub bound : ℕ
  pub bound_is : slice_get bounds (length least) ≡ Some bound
  pub one : TreeLeaf
  pub less : ℕ
  pub left : IsLeafLeft (node_at problem fixings above) leaf bound one less
  pub nodes_are : after ≡ nodes ++ Leaf one ∷ []
  pub least_are : least_after ≡ least ++ less ∷ []

-- the node of the next place was looked at; the places of a branch's children are pending then
abbrev pub LeavesNode : Problem → List Fixing → List ℕ → List Decision → List (List Decision)
    → TreeNode → List (List Decision)
    → List TreeNode → List TreeNode → List ℕ → List ℕ → Type 0
LeavesNode problem fixings bounds above behind (Leaf leaf) pending nodes after least least_after =
    (pending ≡ behind) × LeavesLeaf problem fixings bounds above leaf nodes after least least_after
LeavesNode problem fixings bounds above behind (Branch choice children) pending nodes after least
    least_after =
    (pending ≡ behind ++ reverse (lists_below above (children_of problem choice)))
    × (after ≡ nodes ++ Branch choice children ∷ []) × (least_after ≡ least)

-- a node is the next one: it and some others fill the pending places
abbrev pub IsNextOf : Problem → List (List Decision) → TreeNode → List ℕ → Type 0
IsNextOf problem pending top bounds = (rest : List TreeNode)
    × FillPlaces problem (length pending) (top ∷ rest) bounds

-- one node more was looked at
pub record LeavesPending (problem : Problem) (fixings : List Fixing) (bounds : List ℕ)
    (top : TreeNode) (pending pending_after : List (List Decision))
    (nodes after : List TreeNode) (least least_after : List ℕ) : Type 0 where
  pub above : List Decision
  pub behind : List (List Decision)
  pub next : pending ≡ behind ++ above ∷ []
  pub leaves : LeavesNode problem fixings bounds above behind top pending_after nodes after least
      least_after
