-- The node that is kept.
use Rattle.std.specs.Prelude.{ℕ, List, [], Option, Some, None, box_value}
use Rattle.disp_model.specs.declared.tree.Leaf.{Leaf}
use Rattle.disp_model.specs.declared.tree.Leaf.TheVariants as leaf
use Rattle.disp_model.specs.declared.tree.TreeNode.{TreeNode}
use Rattle.disp_model.specs.declared.tree.TreeNode.TheVariants as node
use Rattle.packed_nodes.specs.declared.node.Stored.{Stored}
use Rattle.packed_nodes.specs.declared.node.Stored.TheVariants.{Branch, Plain, Dead, Open}
use Rattle.packed_nodes.specs.Packed.{packed_leaf_at}

-- the leaf that was read; where nothing was read one that shows nothing
abbrev pub found_leaf : Option (Leaf × List ℕ) → Leaf
found_leaf None = leaf.NoRoute
found_leaf (Some read) = read.0

-- a leaf that is known dead; in place of another, one that shows nothing
abbrev pub dead_leaf : Leaf → Leaf
dead_leaf leaf.NoRoute = leaf.NoRoute
dead_leaf (leaf.Cycle ops) = leaf.Cycle ops
dead_leaf (leaf.Late walk) = leaf.Late walk
dead_leaf (leaf.Costs walks) = leaf.NoRoute
dead_leaf (leaf.Shares walks trains) = leaf.NoRoute

-- a leaf that is not known dead; in place of one that is, one that shows no walks
abbrev pub open_leaf : Leaf → Leaf
open_leaf leaf.NoRoute = leaf.Costs []
open_leaf (leaf.Cycle ops) = leaf.Costs []
open_leaf (leaf.Late walk) = leaf.Costs []
open_leaf (leaf.Costs walks) = leaf.Costs walks
open_leaf (leaf.Shares walks trains) = leaf.Shares walks trains

abbrev pub node_in : Stored → TreeNode
node_in (Branch choice children) = node.Branch choice children
node_in (Plain leaf) = node.Leaf (box_value leaf)
node_in (Dead bytes) = node.Leaf (dead_leaf (found_leaf (packed_leaf_at bytes.items)))
node_in (Open bytes) = node.Leaf (open_leaf (found_leaf (packed_leaf_at bytes.items)))
