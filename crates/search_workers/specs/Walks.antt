-- Where a graph is after it was moved.
use Rattle.std.specs.Prelude.{◌≡◌, Option, Some, None}
use Rattle.disp_model.specs.declared.tree.Leaf.{Leaf as TreeLeaf}
use Rattle.disp_model.specs.Node.{Node}
use Rattle.node_leaves.specs.Shown.{IsDeadLeaf}

-- the graph is at the node, or a leaf shows that the node is dead
abbrev pub Arrives : Node → Node → Option TreeLeaf → Type 0
Arrives node graph None = graph ≡ node
Arrives node graph (Some leaf) = IsDeadLeaf node leaf
