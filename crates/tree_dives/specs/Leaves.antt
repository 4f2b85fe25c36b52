-- A leaf of the tree, as a node shows it.
use Rattle.std.specs.Prelude.{ℕ}
use Rattle.disp_model.specs.declared.tree.Leaf.{Leaf as TreeLeaf}
use Rattle.node_leaves.specs.declared.leaf.NodeLeaf.{NodeLeaf}
use Rattle.node_leaves.specs.declared.leaf.NodeLeaf.TheVariants.{Dead, Open}

abbrev pub leaf_held : NodeLeaf → TreeLeaf
leaf_held (Dead leaf) = leaf
leaf_held (Open leaf bound) = leaf

-- the bound that is kept for it
abbrev pub bound_in : NodeLeaf → ℕ
bound_in (Dead leaf) = 0
bound_in (Open leaf bound) = bound
