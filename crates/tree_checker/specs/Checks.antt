-- What a checker answers of a tree.
use Rattle.std.specs.Prelude.{◌≡◌, ℕ, zero, suc, List, [], ◌∷◌, ◌++◌, map}
use Rattle.disp_model.specs.declared.decision.Decision.{Decision}
use Rattle.disp_model.specs.declared.fixing.Fixing.{Fixing}
use Rattle.disp_model.specs.declared.problem.Problem.{Problem}
use Rattle.disp_model.specs.declared.tree.TreeNode.{TreeNode}
use Rattle.disp_model.specs.declared.tree.TreeNode.TheVariants.{Branch, Leaf}
use Rattle.disp_model.specs.declared.tree.Verdict.{Verdict}
use Rattle.disp_model.specs.Node.{Node, root_of, with_decision}
use Rattle.disp_model.specs.Trees.{children_of, Accepts}
use Rattle.tree_checker.specs.declared.why.Why.{Why}
use Rattle.tree_checker.specs.declared.why.Why.TheVariants.{BadChoice}
use Rattle.tree_checker.specs.declared.why.Checked.{Checked}
use Rattle.tree_checker.specs.declared.why.Checked.TheVariants.{Accepted, Refused}
use Rattle.tree_checker.specs.Rules.{TreeNodeHolds, IsRefusedFor}

-- the decisions of a node's children
abbrev pub decisions_below : Problem → TreeNode → List Decision
decisions_below problem (Branch choice children) = children_of problem choice
decisions_below problem (Leaf leaf) = []

-- the places that are left behind a node of the tree
abbrev pub places_behind : Node → TreeNode → List Node → List Node
places_behind node top places = map (with_decision node) (decisions_below node.problem top)
    ++ places

-- of the nodes of a tree, put into these places, the one of a number is the first that does not
-- hold, for this cause: a rule that it is the first to break; that it has no place; or that the
-- tree ends where a place is left
abbrev pub StopsAtNode : Verdict → List Node → List TreeNode → ℕ → Why → Type 0
StopsAtNode verdict [] [] number why = ⊥
StopsAtNode verdict (node ∷ places) [] number why = (number ≡ 0) × (why ≡ BadChoice)
StopsAtNode verdict [] (top ∷ tree) number why = (number ≡ 0) × (why ≡ BadChoice)
StopsAtNode verdict (node ∷ places) (top ∷ tree) zero why = IsRefusedFor node verdict top why
StopsAtNode verdict (node ∷ places) (top ∷ tree) (suc number) why = TreeNodeHolds node verdict top
    × StopsAtNode verdict (places_behind node top places) tree number why

-- the answer of the checker
abbrev pub IsChecked : Problem → List Fixing → Verdict → List TreeNode → Checked → Type 0
IsChecked problem fixings verdict tree Accepted = Accepts problem fixings verdict tree
IsChecked problem fixings verdict tree (Refused number why) =
    (Accepts problem fixings verdict tree → ⊥)
    × StopsAtNode verdict (root_of problem fixings ∷ []) tree number why
