-- Trees: which leaves hold, and which trees are accepted.
use Rattle.std.specs.Prelude.{◌≡◌, ◌≢◌, ◌⊎◌, ℕ, ◌+◌, ◌<◌, ◌≤◌, List, [], ◌∷◌, ◌++◌, length, map, All, Some, slice_get}
use Rattle.disp_model.specs.declared.train.Op.{Op}
use Rattle.disp_model.specs.declared.train.Component.{Component}
use Rattle.disp_model.specs.declared.fixing.Fixing.{Fixing}
use Rattle.disp_model.specs.declared.decision.Decision.{Decision}
use Rattle.disp_model.specs.declared.decision.Decision.TheVariants.{Go, First, Run as RunIt, Skip}
use Rattle.disp_model.specs.declared.decision.Choice.{Choice}
use Rattle.disp_model.specs.declared.decision.Choice.TheVariants.{Route, Order, Run}
use Rattle.disp_model.specs.declared.tree.ComponentWalk.{ComponentWalk}
use Rattle.disp_model.specs.declared.tree.TrainWalks.{TrainWalks}
use Rattle.disp_model.specs.declared.tree.Leaf.{Leaf as TreeLeaf}
use Rattle.disp_model.specs.declared.tree.Leaf.TheVariants.{NoRoute, Cycle, Late, Costs, Shares}
use Rattle.disp_model.specs.declared.tree.TreeNode.{TreeNode}
use Rattle.disp_model.specs.declared.tree.TreeNode.TheVariants.{Branch, Leaf}
use Rattle.disp_model.specs.declared.tree.Verdict.{Verdict}
use Rattle.disp_model.specs.declared.tree.Verdict.TheVariants.{Optimal, Infeasible}
use Rattle.disp_model.specs.declared.problem.Problem.{Problem}
use Rattle.disp_model.specs.declared.limits.TheConstants.{GREATEST_COST, GREATEST_NUMBER, MOST_COMPONENTS}
use Rattle.disp_model.specs.Train.{next_of}
use Rattle.disp_model.specs.Valid.{train_at}
use Rattle.disp_model.specs.Cost.{cost_at}
use Rattle.disp_model.specs.Node.{Node, root_of, with_decision}
use Rattle.disp_model.specs.Routes.{HasNoRoute}
use Rattle.disp_model.specs.Arcs.{Conflicts}
use Rattle.disp_model.specs.Walks.{upper_of, IsWalk, EndsIn, IsCycle}
use Rattle.disp_model.specs.Nodes.{component_op}
use Rattle.disp_model.specs.Shares.{SharesCost, HaveDistinctTrains, AreOfOthers}

-- a walk longer than the upper of its end
pub record IsLateWalk (node : Node) (walk : List Op) : Type 0 where
  pub end : Op
  pub ends : EndsIn walk end
  pub total : ℕ
  pub is_walk : IsWalk node walk total
  pub upper : ℕ
  pub upper_is : upper_of node.problem node.fixings end ≡ Some upper
  pub late : upper < total

-- a walk to the operation of its component, and what the component costs at its length
pub record WalkCosts (node : Node) (w : ComponentWalk) (cost : ℕ) : Type 0 where
  pub component : Component
  pub there : slice_get node.problem.components w.component ≡ Some component
  pub ends : EndsIn w.walk (component_op component)
  pub total : ℕ
  pub is_walk : IsWalk node w.walk total
  pub cost_is : cost ≡ cost_at component total

-- what the walks' components cost together
abbrev pub WalksCost : Node → List ComponentWalk → ℕ → Type 0
WalksCost node [] sum = sum ≡ 0
WalksCost node (w ∷ walks) sum =
    (cost : ℕ) × (rest : ℕ) × WalkCosts node w cost × WalksCost node walks rest
    × (sum ≡ cost + rest)

-- no component has two walks
abbrev pub HaveDistinct : List ComponentWalk → Type 0
HaveDistinct walks = (i j : ℕ) (v w : ComponentWalk) → i < j → slice_get walks i ≡ Some v
    → slice_get walks j ≡ Some w → v.component ≢ w.component

-- walks to distinct components that cost as much as the verdict
pub record CostsEnough (node : Node) (walks : List ComponentWalk) (cost : ℕ) : Type 0 where
  pub distinct : HaveDistinct walks
  pub sum : ℕ
  pub sum_is : WalksCost node walks sum
  pub enough : cost ≤ sum

-- walks to distinct components and the shares of other trains, each listed once, cost together as
-- much as the verdict
pub record SharesEnough (node : Node) (walks : List ComponentWalk) (trains : List TrainWalks)
    (cost : ℕ) : Type 0 where
  pub distinct : HaveDistinct walks
  pub distinct_trains : HaveDistinctTrains trains
  pub others : AreOfOthers node.problem walks trains
  pub sum : ℕ
  pub sum_is : WalksCost node walks sum
  pub shares : ℕ
  pub shares_is : SharesCost node trains shares
  pub enough : cost ≤ sum + shares

-- under 'optimal' the costs reach the verdict's; under 'infeasible' costs show nothing
abbrev pub ReachVerdict : Node → Verdict → List ComponentWalk → Type 0
ReachVerdict node (Optimal cost) walks = CostsEnough node walks cost
ReachVerdict node Infeasible walks = ⊥

abbrev pub ShareVerdict : Node → Verdict → List ComponentWalk → List TrainWalks → Type 0
ShareVerdict node (Optimal cost) walks trains = SharesEnough node walks trains cost
ShareVerdict node Infeasible walks trains = ⊥

-- what a leaf lists shows that its place needs no branch
abbrev pub Shows : Node → Verdict → TreeLeaf → Type 0
Shows node verdict NoRoute = ⊥
Shows node verdict (Cycle nodes) = IsCycle node nodes
Shows node verdict (Late walk) = IsLateWalk node walk
Shows node verdict (Costs walks) = ReachVerdict node verdict walks
Shows node verdict (Shares walks trains) = ShareVerdict node verdict walks trains

-- a leaf holds: some train has no allowed route, whatever the leaf lists; or what it lists shows it
abbrev pub LeafHolds : Node → Verdict → TreeLeaf → Type 0
LeafHolds node verdict leaf = HasNoRoute node ⊎ Shows node verdict leaf

-- the children of a choice: one for each successor in the problem's order; the two orders; run or
-- skip
abbrev pub children_of : Problem → Choice → List Decision
children_of problem (Route o) = map (λ s. Go o s) (next_of (train_at problem o.train) o.op)
children_of problem (Order a b) = First a b ∷ First b a ∷ []
children_of problem (Run o) = RunIt o ∷ Skip o ∷ []

-- a choice that a branch may have: of an operation with two successors at least, of two that
-- conflict, or whether one that there is is run
abbrev pub IsChoice : Problem → Choice → Type 0
IsChoice problem (Route o) = 2 ≤ length (next_of (train_at problem o.train) o.op)
IsChoice problem (Order a b) = Conflicts problem a b
IsChoice problem (Run o) = o.op < length (train_at problem o.train)

-- the nodes of the tree fill the places, each a node of the search, from the first on
abbrev pub Fills : Verdict → List Node → List TreeNode → Type 0
Fills verdict [] [] = Unit {0}
Fills verdict (node ∷ places) [] = ⊥
Fills verdict [] (top ∷ tree) = ⊥
Fills verdict (node ∷ places) (Leaf leaf ∷ tree) = LeafHolds node verdict leaf
    × Fills verdict places tree
Fills verdict (node ∷ places) (Branch choice children ∷ tree) =
    IsChoice node.problem choice × (children ≡ length (children_of node.problem choice))
    × Fills verdict (map (with_decision node) (children_of node.problem choice) ++ places) tree

-- a tree is accepted for a verdict: it fills the one place where nothing is decided
abbrev pub Accepts : Problem → List Fixing → Verdict → List TreeNode → Type 0
Accepts problem fixings verdict tree = Fills verdict (root_of problem fixings ∷ []) tree

-- ---- what has a text

abbrev pub FitsOp : Op → Type 0
FitsOp o = (o.train ≤ GREATEST_NUMBER) × (o.op ≤ GREATEST_NUMBER)

abbrev pub FitsWalk : ComponentWalk → Type 0
FitsWalk w = (w.component ≤ GREATEST_NUMBER) × All FitsOp w.walk

abbrev pub FitsTrain : TrainWalks → Type 0
FitsTrain listed = (listed.train ≤ GREATEST_NUMBER) × (length listed.walks ≤ MOST_COMPONENTS)
    × All (All FitsOp) listed.walks

abbrev pub FitsLeaf : TreeLeaf → Type 0
FitsLeaf NoRoute = Unit {0}
FitsLeaf (Cycle nodes) = All FitsOp nodes
FitsLeaf (Late walk) = All FitsOp walk
FitsLeaf (Costs walks) = (length walks ≤ MOST_COMPONENTS) × All FitsWalk walks
FitsLeaf (Shares walks trains) = (length walks ≤ MOST_COMPONENTS) × All FitsWalk walks
    × (length trains ≤ MOST_COMPONENTS) × All FitsTrain trains

abbrev pub FitsChoice : Choice → Type 0
FitsChoice (Route o) = FitsOp o
FitsChoice (Order a b) = FitsOp a × FitsOp b
FitsChoice (Run o) = FitsOp o

-- how many children a branch has that can be written: at least one of a route, two of others
abbrev pub FitsChildren : Choice → ℕ → Type 0
FitsChildren (Route o) children = (1 ≤ children) × (children ≤ MOST_COMPONENTS)
FitsChildren (Order a b) children = children ≡ 2
FitsChildren (Run o) children = children ≡ 2

-- a node of a tree that can be written: numbers up to 2147483647, and counts up to 1048575
abbrev pub FitsNode : TreeNode → Type 0
FitsNode (Branch choice children) = FitsChoice choice × FitsChildren choice children
FitsNode (Leaf leaf) = FitsLeaf leaf

-- a verdict that can be written
abbrev pub FitsVerdict : Verdict → Type 0
FitsVerdict (Optimal cost) = cost ≤ GREATEST_COST
FitsVerdict Infeasible = Unit {0}
