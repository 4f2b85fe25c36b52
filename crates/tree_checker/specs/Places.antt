-- The places of a tree that are left, on a stack, by the decisions that lead to them.
use Rattle.std.specs.Prelude.{◌≡◌, length, MatchOption, ℕ, ◌≤◌, List, [], ◌∷◌, ◌++◌, map, reverse, take, Option, Some, None}
use Rattle.disp_model.specs.declared.decision.Decision.{Decision}
use Rattle.disp_model.specs.declared.fixing.Fixing.{Fixing}
use Rattle.disp_model.specs.declared.problem.Problem.{Problem}
use Rattle.disp_model.specs.Node.{Node, node_at}
use Rattle.disp_model.specs.declared.tree.TreeNode.{TreeNode}
use Rattle.disp_model.specs.declared.tree.Verdict.{Verdict}
use Rattle.tree_checker.specs.declared.places.Place.{Place}
use Rattle.tree_checker.specs.declared.why.Why.{Why}
use Rattle.tree_checker.specs.Rules.{TreeNodeHolds}
use Rattle.tree_checker.specs.Checks.{places_behind, StopsAtNode}

abbrev pub last_decision : Option Decision → List Decision
last_decision None = []
last_decision (Some decision) = decision ∷ []

-- the decisions that lead to a place, by those on the way to the node that was looked at last
abbrev pub decisions_at : List Decision → Place → List Decision
decisions_at path place = take place.depth path ++ last_decision place.decision

-- the nodes of places, the next one first
abbrev pub nodes_of : Problem → List Fixing → List Decision → List Place → List Node
nodes_of problem fixings path places = map
    (λ place. node_at problem fixings (decisions_at path place)) (reverse places)

-- the children of the node at a depth
abbrev pub places_at : ℕ → List Decision → List Place
places_at depth children = map (λ child. record { depth = depth; decision = Some child }) children

-- the next places are no less deep than those behind them, and none is deeper than the way
abbrev pub IsNested : ℕ → List Place → Type 0
IsNested bound [] = Unit {0}
IsNested bound (place ∷ behind) = (place.depth ≤ bound) × IsNested place.depth behind

-- the next place was entered, the node of the tree holds there, and the places behind it are left
pub record HasStepped (problem : Problem) (fixings : List Fixing) (verdict : Verdict)
    (top : TreeNode) (path path_after : List Decision) (places places_after : List Place)
    : Type 0 where
  pub node : Node
  pub behind : List Node
  pub entered : nodes_of problem fixings path places ≡ node ∷ behind
  pub holds : TreeNodeHolds node verdict top
  pub left : nodes_of problem fixings path_after places_after ≡ places_behind node top behind
  pub nested : IsNested (length path_after) (reverse places_after)

-- one step: on to the places that are left, or why the node of the tree is refused
abbrev pub IsStep : Problem → List Fixing → Verdict → TreeNode → List Decision → List Decision
    → List Place → List Place → Option Why → Type 0
IsStep problem fixings verdict top path path_after places places_after found =
    MatchOption found (HasStepped problem fixings verdict top path path_after places places_after)
    (λ why. (tree : List TreeNode) → StopsAtNode verdict (nodes_of problem fixings path places)
    (top ∷ tree) 0 why)
