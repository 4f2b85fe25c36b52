-- The decisions and the trees of the examples.
use Rattle.std.specs.Prelude.{ℕ, List, [], ◌∷◌}
use Rattle.disp_model.specs.declared.train.Op.{Op}
use Rattle.disp_model.specs.declared.fixing.Fixing.{Fixing}
use Rattle.disp_model.specs.declared.fixing.Fixing.TheVariants.{Started}
use Rattle.disp_model.specs.declared.decision.Decision.{Decision}
use Rattle.disp_model.specs.declared.decision.Decision.TheVariants.{First}
use Rattle.disp_model.specs.declared.decision.Choice.TheVariants.{Order}
use Rattle.disp_model.specs.declared.tree.ComponentWalk.{ComponentWalk}
use Rattle.disp_model.specs.declared.tree.TrainWalks.{TrainWalks}
use Rattle.disp_model.specs.declared.tree.Leaf.TheVariants.{Late, Costs}
use Rattle.disp_model.specs.declared.tree.TreeNode.{TreeNode}
use Rattle.disp_model.specs.declared.tree.TreeNode.TheVariants.{Branch, Leaf}
use Rattle.definition_examples.specs.Trains.{a0, a1, b0, b1}

-- a walk to the operation of a component
abbrev pub walk_to : ℕ → List Op → ComponentWalk
walk_to component walk = record { component = component; walk = walk }

-- the leaf of the first train first: it costs 10, and the second, which waits, 14
abbrev pub first_costs : TreeNode
first_costs = Leaf (Costs (walk_to 0 (a0 ∷ a1 ∷ []) ∷ walk_to 1 (a0 ∷ a1 ∷ b0 ∷ b1 ∷ []) ∷ []))

-- the leaf of the second train first: the first, which waits, costs 14, and the second 4
abbrev pub second_costs : TreeNode
second_costs = Leaf (Costs (walk_to 0 (b0 ∷ b1 ∷ a0 ∷ a1 ∷ []) ∷ walk_to 1 (b0 ∷ b1 ∷ []) ∷ []))

-- a branch on the order of the two trains, with the costs of each order
abbrev pub order_tree : List TreeNode
order_tree = Branch (Order a0 b0) 2 ∷ first_costs ∷ second_costs ∷ []

-- the same with two walks to one component at the second leaf
abbrev pub counted_twice : List TreeNode
counted_twice =
    Branch (Order a0 b0) 2 ∷ first_costs
    ∷ Leaf (Costs (walk_to 0 (b0 ∷ b1 ∷ a0 ∷ a1 ∷ []) ∷ walk_to 0 (b0 ∷ b1 ∷ a0 ∷ a1 ∷ []) ∷ []))
    ∷ []

-- the same with a walk that is too late at the second leaf
abbrev pub late_tree : List TreeNode
late_tree = Branch (Order a0 b0) 2 ∷ first_costs ∷ Leaf (Late (b0 ∷ b1 ∷ a0 ∷ [])) ∷ []

-- one of the two trains first
abbrev pub first_before : List Decision
first_before = First a0 b0 ∷ []

abbrev pub second_before : List Decision
second_before = First b0 a0 ∷ []

-- both trains that swap start at 0
abbrev pub both_started : List Fixing
both_started = Started 0 0 0 ∷ Started 1 0 0 ∷ []

-- each of them leaves its first resource before the other takes it
abbrev pub against : List Decision
against = First a0 b1 ∷ First b0 a1 ∷ []

-- the first train, listed without walks
abbrev pub first_listed : TrainWalks
first_listed = record { train = 0; walks = [] }

-- the second train, listed without walks, and with that across the first
abbrev pub second_alone : TrainWalks
second_alone = record { train = 1; walks = [] }

abbrev pub second_behind : TrainWalks
second_behind = record { train = 1; walks = (a0 ∷ a1 ∷ b0 ∷ []) ∷ [] }
