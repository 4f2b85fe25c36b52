-- The leaves of the tree keep their bounds.
use Rattle.std.specs.Prelude.{◌≡◌, ℕ, List, Some, slice_get}
use Rattle.disp_model.specs.declared.fixing.Fixing.{Fixing}
use Rattle.disp_model.specs.declared.problem.Problem.{Problem}
use Rattle.disp_model.specs.declared.settings.Rule.{Rule}
use Rattle.disp_model.specs.declared.tree.Leaf.{Leaf as TreeLeaf}
use Rattle.disp_model.specs.declared.tree.TreeNode.TheVariants.{Leaf}
use Rattle.disp_model.specs.Node.{node_at}
use Rattle.open_nodes.specs.declared.place.Place.{Place}
use Rattle.open_nodes.specs.States.{State, decisions_of}
use Rattle.tree_growth.specs.Grown.{KeepsBound}

-- each leaf keeps its bound at its node
abbrev pub AllKeep : Rule → Problem → List Fixing → State → Type 0
AllKeep rule problem fixings state = (n : ℕ) (place : Place) (leaf : TreeLeaf)
    → slice_get state.places n ≡ Some place → slice_get state.kept place.shows ≡ Some (Leaf leaf)
    → KeepsBound rule (node_at problem fixings (decisions_of state.places n)) leaf place.bound
