-- The text of a tree, and which trees have one.
use Rattle.std.specs.Prelude.{ℕ, List, ◌++◌, length, codes, Bool, true, false}
use Rattle.std.specs.List.{flat_map, list_any}
use Rattle.std.specs.Fmt.{decimal}
use Rattle.disp_model.specs.declared.train.Op.{Op}
use Rattle.disp_model.specs.declared.decision.Choice.{Choice}
use Rattle.disp_model.specs.declared.decision.Choice.TheVariants.{Route, Order, Run}
use Rattle.disp_model.specs.declared.tree.ComponentWalk.{ComponentWalk}
use Rattle.disp_model.specs.declared.tree.TrainWalks.{TrainWalks}
use Rattle.disp_model.specs.declared.tree.Leaf.{Leaf as TreeLeaf}
use Rattle.disp_model.specs.declared.tree.Leaf.TheVariants.{NoRoute, Cycle, Late, Costs, Shares}
use Rattle.disp_model.specs.declared.tree.TreeNode.{TreeNode}
use Rattle.disp_model.specs.declared.tree.TreeNode.TheVariants.{Branch, Leaf}
use Rattle.disp_model.specs.declared.tree.Verdict.{Verdict}
use Rattle.disp_model.specs.declared.tree.Verdict.TheVariants.{Optimal, Infeasible}

-- an operation, with a space before each of its numbers
abbrev pub op_text : Op → List ℕ
op_text o = codes " " ++ decimal o.train ++ codes " " ++ decimal o.op

abbrev pub ops_text : List Op → List ℕ
ops_text ops = flat_map op_text ops

-- a walk to a component, and a walk of a train's
abbrev pub walk_text : ComponentWalk → List ℕ
walk_text w = codes "walk " ++ decimal w.component ++ ops_text w.walk ++ codes "\n"

abbrev pub to_text : List Op → List ℕ
to_text walk = codes "to" ++ ops_text walk ++ codes "\n"

-- a train and its walks
abbrev pub listed_text : TrainWalks → List ℕ
listed_text listed = codes "train " ++ decimal listed.train ++ codes " "
    ++ decimal (length listed.walks) ++ codes "\n" ++ flat_map to_text listed.walks

abbrev pub leaf_text : TreeLeaf → List ℕ
leaf_text NoRoute = codes "noroute\n"
leaf_text (Cycle nodes) = codes "cycle" ++ ops_text nodes ++ codes "\n"
leaf_text (Late walk) = codes "late" ++ ops_text walk ++ codes "\n"
leaf_text (Costs walks) = codes "costs " ++ decimal (length walks) ++ codes "\n"
    ++ flat_map walk_text walks
leaf_text (Shares walks trains) =
    codes "shares " ++ decimal (length walks) ++ codes " " ++ decimal (length trains) ++ codes "\n"
    ++ flat_map walk_text walks ++ flat_map listed_text trains

-- a branch; only that of a route says how many children it has
abbrev pub branch_text : Choice → ℕ → List ℕ
branch_text (Route o) children = codes "route" ++ op_text o ++ codes " " ++ decimal children
    ++ codes "\n"
branch_text (Order a b) children = codes "order" ++ op_text a ++ op_text b ++ codes "\n"
branch_text (Run o) children = codes "run" ++ op_text o ++ codes "\n"

abbrev pub node_text : TreeNode → List ℕ
node_text (Branch choice children) = branch_text choice children
node_text (Leaf leaf) = leaf_text leaf

abbrev pub verdict_line : Verdict → List ℕ
verdict_line (Optimal cost) = codes "verdict optimal " ++ decimal cost ++ codes "\n"
verdict_line Infeasible = codes "verdict infeasible\n"

-- what stands between the first lines and the last
abbrev pub body_text : Verdict → List TreeNode → List ℕ
body_text verdict tree = verdict_line verdict ++ flat_map node_text tree ++ codes "end\n"

-- only the third version has such a node
abbrev pub is_third : TreeNode → Bool
is_third (Branch (Run o) children) = true
is_third (Branch (Route o) children) = false
is_third (Branch (Order a b) children) = false
is_third (Leaf (Shares walks trains)) = true
is_third (Leaf NoRoute) = false
is_third (Leaf (Cycle nodes)) = false
is_third (Leaf (Late walk)) = false
is_third (Leaf (Costs walks)) = false

abbrev pub needs_third : List TreeNode → Bool
needs_third tree = list_any is_third tree

-- the first line of the later versions
abbrev pub first_text : Bool → List ℕ
first_text true = codes "displib-tree 3\n"
first_text false = codes "displib-tree 2\n"

-- the first two lines of the later versions
abbrev pub later_text : Bool → ℕ → List ℕ
later_text third edition = first_text third ++ codes "edition " ++ decimal edition ++ codes "\n"

-- the text that is written
abbrev pub tree_text : ℕ → Verdict → List TreeNode → List ℕ
tree_text edition verdict tree = later_text (needs_third tree) edition ++ body_text verdict tree
