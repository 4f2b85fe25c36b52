-- A subtree without a place that is left, as it is given.
use Rattle.std.specs.Prelude.{◌≡◌, [], ◌∷◌, ◌++◌, reverse}
use Rattle.disp_model.specs.declared.tree.TreeNode.TheVariants.{Leaf}
use Rattle.node_leaves.specs.declared.leaf.NodeLeaf.{NodeLeaf}
use Rattle.tree_dives.specs.declared.given.Dive.{Dive}
use Rattle.tree_dives.specs.declared.stage.End.{End}
use Rattle.tree_dives.specs.Leaves.{leaf_held, bound_in}
use Rattle.tree_dives.specs.Halves.{Sides}

-- both sides, one after the other
pub record IsDiveWhole (sides : Sides) (end : End) (dive : Dive) : Type 0 where
  pub nodes : dive.nodes ≡ sides.before ++ reverse sides.behind
  pub bounds : dive.bounds ≡ sides.before_bounds ++ reverse sides.behind_bounds
  pub end_is : dive.end ≡ end

-- the place filled by a leaf
abbrev pub with_leaf : Sides → NodeLeaf → Sides
with_leaf sides shown = record {
  before = sides.before ++ Leaf (leaf_held shown) ∷ [];
  before_bounds = sides.before_bounds ++ bound_in shown ∷ [];
  behind = sides.behind;
  behind_bounds = sides.behind_bounds;
}
