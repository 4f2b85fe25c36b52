-- What grows at places helps and keeps its bounds.
use Rattle.std.proofs.Common.{ℕ, List, [], ◌∷◌, ◌++◌, map}
use Rattle.std.specs.Prelude.{Option}
use Rattle.disp_model.specs.declared.settings.Rule.{Rule}
use Rattle.disp_model.specs.declared.tree.TreeNode.{TreeNode}
use Rattle.disp_model.specs.declared.tree.TreeNode.TheVariants.{Branch, Leaf}
use Rattle.disp_model.specs.Node.{Node, with_decision}
use Rattle.disp_model.specs.Trees.{children_of}
use Rattle.disp_laws.proofs.OpenChoices.{picked_is_choice}
use Rattle.tree_growth.specs.Grown.{AreHelpful, KeepBounds, GrowsBelow}

module _ (rule : Rule) (best : Option ℕ) where
  -- what grows helps
  pub grows_helps : (tree : List TreeNode) (places : List Node) (bounds : List ℕ) → GrowsBelow rule best places tree bounds → AreHelpful rule best places tree bounds
  grows_helps [] [] [] grows = tt
  grows_helps [] [] (bound ∷ bounds) grows = absurd grows
  grows_helps (top ∷ tree) [] bounds grows = absurd grows
  grows_helps [] (node ∷ places) bounds grows = absurd grows
  grows_helps (Leaf leaf ∷ tree) (node ∷ places) [] grows = absurd grows
  grows_helps (Leaf leaf ∷ tree) (node ∷ places) (bound ∷ bounds) grows = grows_helps tree places bounds grows.1
  grows_helps (Branch choice children ∷ tree) (node ∷ places) bounds grows =
      (grows.0, grows.1, grows_helps tree (map (with_decision node) (children_of node.problem choice) ++ places) bounds grows.2)

  -- what grows keeps its bounds
  pub grows_keeps : (tree : List TreeNode) (places : List Node) (bounds : List ℕ) → GrowsBelow rule best places tree bounds → KeepBounds rule places tree bounds
  grows_keeps [] [] [] grows = tt
  grows_keeps [] [] (bound ∷ bounds) grows = absurd grows
  grows_keeps (top ∷ tree) [] bounds grows = absurd grows
  grows_keeps [] (node ∷ places) bounds grows = absurd grows
  grows_keeps (Leaf leaf ∷ tree) (node ∷ places) [] grows = absurd grows
  grows_keeps (Leaf leaf ∷ tree) (node ∷ places) (bound ∷ bounds) grows = (grows.0.keeps, grows_keeps tree places bounds grows.1)
  grows_keeps (Branch choice children ∷ tree) (node ∷ places) bounds grows = (
    picked_is_choice node rule choice grows.0.picked,
    grows.1,
    grows_keeps tree (map (with_decision node) (children_of node.problem choice) ++ places) bounds grows.2,
  )
