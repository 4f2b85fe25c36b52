-- What a node is, without what it lists.
use Rattle.disp_model.specs.declared.tree.Leaf.TheVariants as leaf
use Rattle.disp_model.specs.declared.tree.TreeNode.{TreeNode}
use Rattle.disp_model.specs.declared.tree.TreeNode.TheVariants as node
use Rattle.packed_nodes.specs.declared.outline.Outline.{Outline}
use Rattle.packed_nodes.specs.declared.outline.Outline.TheVariants.{Branch, Dead, Open}

abbrev pub outline_of : TreeNode → Outline
outline_of (node.Branch choice children) = Branch choice
outline_of (node.Leaf leaf.NoRoute) = Dead
outline_of (node.Leaf (leaf.Cycle ops)) = Dead
outline_of (node.Leaf (leaf.Late walk)) = Dead
outline_of (node.Leaf (leaf.Costs walks)) = Open
outline_of (node.Leaf (leaf.Shares walks trains)) = Open
