-- Why a node of a tree is refused: the rules of a leaf, in the order in which they are asked.
use Rattle.std.specs.Prelude.{◌≡◌, ◌≢◌, ℕ, zero, suc, ◌+◌, ◌<◌, ◌≤◌, List, [], ◌∷◌, length, All, Some, slice_get}
use Rattle.disp_model.specs.declared.train.Op.{Op}
use Rattle.disp_model.specs.declared.train.Component.{Component}
use Rattle.disp_model.specs.declared.decision.Choice.{Choice}
use Rattle.disp_model.specs.declared.decision.Choice.TheVariants.{Route, Order, Run}
use Rattle.disp_model.specs.declared.problem.Problem.{Problem}
use Rattle.disp_model.specs.declared.tree.ComponentWalk.{ComponentWalk}
use Rattle.disp_model.specs.declared.tree.TrainWalks.{TrainWalks}
use Rattle.disp_model.specs.declared.tree.Leaf.{Leaf as TreeLeaf}
use Rattle.disp_model.specs.declared.tree.Leaf.TheVariants.{NoRoute, Cycle, Late, Costs, Shares}
use Rattle.disp_model.specs.declared.tree.TreeNode.{TreeNode}
use Rattle.disp_model.specs.declared.tree.TreeNode.TheVariants.{Branch, Leaf}
use Rattle.disp_model.specs.declared.tree.Verdict.{Verdict}
use Rattle.disp_model.specs.declared.tree.Verdict.TheVariants.{Optimal, Infeasible}
use Rattle.disp_model.specs.Valid.{train_at}
use Rattle.disp_model.specs.Node.{Node}
use Rattle.disp_model.specs.Routes.{HasNoRoute, IsForced}
use Rattle.disp_model.specs.Arcs.{HasArc}
use Rattle.disp_model.specs.Walks.{EndsIn}
use Rattle.disp_model.specs.Nodes.{component_op}
use Rattle.disp_model.specs.Shares.{SharesCost, HaveDistinctTrains, AreOfOthers}
use Rattle.disp_model.specs.Trees.{IsLateWalk, WalksCost, HaveDistinct, LeafHolds, children_of, IsChoice}
use Rattle.tree_checker.specs.declared.lists.ListRule.{ListRule}
use Rattle.tree_checker.specs.declared.lists.ListRule.TheVariants.{Named, NotEmpty, Forced, Joined}
use Rattle.tree_checker.specs.declared.why.Why.{Why}
use Rattle.tree_checker.specs.declared.why.Why.TheVariants.{BadName, BadChoice, HasRoute, NotCycle, EmptyWalk, NotForced, BadArc, NotLate, RepeatedComponent, RepeatedTrain, WrongTrain, WrongEnd, NoVerdict, BelowCost}

-- the place of a rule among those that are asked
abbrev pub rank_of_why : Why → ℕ
rank_of_why BadName = 0
rank_of_why BadChoice = 1
rank_of_why HasRoute = 2
rank_of_why NotCycle = 3
rank_of_why EmptyWalk = 4
rank_of_why NotForced = 5
rank_of_why BadArc = 6
rank_of_why NotLate = 7
rank_of_why RepeatedComponent = 8
rank_of_why RepeatedTrain = 9
rank_of_why WrongTrain = 10
rank_of_why WrongEnd = 11
rank_of_why NoVerdict = 12
rank_of_why (BelowCost bound cost) = 13

-- ---- what a leaf lists

abbrev pub component_walks : TreeLeaf → List ComponentWalk
component_walks NoRoute = []
component_walks (Cycle nodes) = []
component_walks (Late walk) = []
component_walks (Costs walks) = walks
component_walks (Shares walks trains) = walks

abbrev pub listed_trains : TreeLeaf → List TrainWalks
listed_trains NoRoute = []
listed_trains (Cycle nodes) = []
listed_trains (Late walk) = []
listed_trains (Costs walks) = []
listed_trains (Shares walks trains) = trains

abbrev pub own_lists : TreeLeaf → List (List Op)
own_lists NoRoute = []
own_lists (Cycle nodes) = nodes ∷ []
own_lists (Late walk) = walk ∷ []
own_lists (Costs walks) = []
own_lists (Shares walks trains) = []

abbrev pub IsNamed : Problem → Op → Type 0
IsNamed problem o = (o.train < length problem.trains) × (o.op < length (train_at problem o.train))

-- an arc leads from each operation of a list to the next
abbrev pub HasArcs : Node → List Op → Type 0
HasArcs node walk = (i : ℕ) (u v : Op) → slice_get walk i ≡ Some u → slice_get walk (i + 1) ≡ Some v
    → HasArc node u v

-- ---- what is asked of each list

-- a rule of which each list of operations is to be right
abbrev pub IsListRight : Node → ListRule → List Op → Type 0
IsListRight node Named walk = All (IsNamed node.problem) walk
IsListRight node NotEmpty walk = walk ≢ []
IsListRight node Forced walk = All (IsForced node) walk
IsListRight node Joined walk = HasArcs node walk

-- each list of operations that the leaf has is right
pub record AreRight (node : Node) (rule : ListRule) (leaf : TreeLeaf) : Type 0 where
  pub own : All (IsListRight node rule) (own_lists leaf)
  pub components : All (λ w. IsListRight node rule w.walk) (component_walks leaf)
  pub trains : All (λ listed. All (IsListRight node rule) listed.walks) (listed_trains leaf)

-- an arc leads from the last of the operations to the first
abbrev pub IsJoinedBack : Node → List Op → Type 0
IsJoinedBack node nodes = (first last : Op) → slice_get nodes 0 ≡ Some first → EndsIn nodes last
    → HasArc node last first

-- a cycle is joined back to its first operation
abbrev pub IsLeafClosed : Node → TreeLeaf → Type 0
IsLeafClosed node NoRoute = Unit {0}
IsLeafClosed node (Cycle nodes) = IsJoinedBack node nodes
IsLeafClosed node (Late walk) = Unit {0}
IsLeafClosed node (Costs walks) = Unit {0}
IsLeafClosed node (Shares walks trains) = Unit {0}

-- ---- what is asked of a kind of leaf

-- it says more than that some train has no allowed route
abbrev pub SaysMore : TreeLeaf → Type 0
SaysMore NoRoute = ⊥
SaysMore (Cycle nodes) = Unit {0}
SaysMore (Late walk) = Unit {0}
SaysMore (Costs walks) = Unit {0}
SaysMore (Shares walks trains) = Unit {0}

-- a cycle has two operations at least
abbrev pub IsLongCycle : TreeLeaf → Type 0
IsLongCycle NoRoute = Unit {0}
IsLongCycle (Cycle nodes) = 2 ≤ length nodes
IsLongCycle (Late walk) = Unit {0}
IsLongCycle (Costs walks) = Unit {0}
IsLongCycle (Shares walks trains) = Unit {0}

-- a walk that is to be late is
abbrev pub IsLateIfSaid : Node → TreeLeaf → Type 0
IsLateIfSaid node NoRoute = Unit {0}
IsLateIfSaid node (Cycle nodes) = Unit {0}
IsLateIfSaid node (Late walk) = IsLateWalk node walk
IsLateIfSaid node (Costs walks) = Unit {0}
IsLateIfSaid node (Shares walks trains) = Unit {0}

-- costs are shown where the verdict has one
abbrev pub HasCost : Verdict → Type 0
HasCost (Optimal cost) = Unit {0}
HasCost Infeasible = ⊥

abbrev pub HasVerdict : Verdict → TreeLeaf → Type 0
HasVerdict verdict NoRoute = Unit {0}
HasVerdict verdict (Cycle nodes) = Unit {0}
HasVerdict verdict (Late walk) = Unit {0}
HasVerdict verdict (Costs walks) = HasCost verdict
HasVerdict verdict (Shares walks trains) = HasCost verdict

-- each name of the leaf names something
pub record HasNames (node : Node) (leaf : TreeLeaf) : Type 0 where
  pub operations : AreRight node Named leaf
  pub components : All (λ w. w.component < length node.problem.components) (component_walks leaf)
  pub trains : All (λ listed. listed.train < length node.problem.trains) (listed_trains leaf)

-- a walk ends in the operation of its component
pub record EndsRight (problem : Problem) (w : ComponentWalk) : Type 0 where
  pub ends : (c : Component) → slice_get problem.components w.component ≡ Some c
      → EndsIn w.walk (component_op c)

-- a walk of a listed train ends in an operation of it
pub record EndsOn (t : ℕ) (walk : List Op) : Type 0 where
  pub ends : (o : Op) → EndsIn walk o → o.train ≡ t

abbrev pub EndOnTrain : List TrainWalks → Type 0
EndOnTrain trains = All (λ listed. All (EndsOn listed.train) listed.walks) trains

-- the component of a walk is of no listed train
abbrev pub IsOfOtherTrain : Problem → List TrainWalks → ComponentWalk → Type 0
IsOfOtherTrain problem trains w = (c : Component)
    → slice_get problem.components w.component ≡ Some c
    → All (λ listed. listed.train ≢ c.train) trains

-- what walks and shares cost together is so much, and below the verdict's cost
pub record CostsBelow (node : Node) (verdict : Verdict) (leaf : TreeLeaf) (bound cost : ℕ)
    : Type 0 where
  pub verdict_is : verdict ≡ Optimal cost
  pub sum : ℕ
  pub sum_is : WalksCost node (component_walks leaf) sum
  pub shares : ℕ
  pub shares_is : SharesCost node (listed_trains leaf) shares
  pub bound_is : bound ≡ sum + shares
  pub below : bound < cost

-- the leaf shows costs
abbrev pub ShowsCosts : TreeLeaf → Type 0
ShowsCosts NoRoute = ⊥
ShowsCosts (Cycle nodes) = ⊥
ShowsCosts (Late walk) = ⊥
ShowsCosts (Costs walks) = Unit {0}
ShowsCosts (Shares walks trains) = Unit {0}

-- a leaf in whose place every train has an allowed route keeps a rule; of what costs add up to
-- `BreaksRule` speaks
abbrev pub KeepsListRule : Node → Verdict → TreeLeaf → Why → Type 0
KeepsListRule node verdict leaf BadName = HasNames node leaf
KeepsListRule node verdict leaf BadChoice = Unit {0}
KeepsListRule node verdict leaf HasRoute = SaysMore leaf
KeepsListRule node verdict leaf NotCycle = IsLongCycle leaf
KeepsListRule node verdict leaf EmptyWalk = AreRight node NotEmpty leaf
KeepsListRule node verdict leaf NotForced = AreRight node Forced leaf
KeepsListRule node verdict leaf BadArc = AreRight node Joined leaf × IsLeafClosed node leaf
KeepsListRule node verdict leaf NotLate = IsLateIfSaid node leaf
KeepsListRule node verdict leaf RepeatedComponent = HaveDistinct (component_walks leaf)
KeepsListRule node verdict leaf RepeatedTrain = HaveDistinctTrains (listed_trains leaf)
KeepsListRule node verdict leaf WrongTrain =
    AreOfOthers node.problem (component_walks leaf) (listed_trains leaf)
    × EndOnTrain (listed_trains leaf)
KeepsListRule node verdict leaf WrongEnd = All (EndsRight node.problem) (component_walks leaf)
KeepsListRule node verdict leaf NoVerdict = HasVerdict verdict leaf
KeepsListRule node verdict leaf (BelowCost bound cost) = Unit {0}

-- it breaks a rule where it does not keep it, or where what it shows costs too little
abbrev pub BreaksRule : Node → Verdict → TreeLeaf → Why → Type 0
BreaksRule node verdict leaf (BelowCost bound cost) = ShowsCosts leaf
    × CostsBelow node verdict leaf bound cost
BreaksRule node verdict leaf why = KeepsListRule node verdict leaf why → ⊥

-- the rules that a leaf may break whatever it costs, in the order in which they are asked
abbrev pub rule_at : ℕ → Why
rule_at zero = BadName
rule_at (suc zero) = BadChoice
rule_at (suc (suc zero)) = HasRoute
rule_at (suc (suc (suc zero))) = NotCycle
rule_at (suc (suc (suc (suc zero)))) = EmptyWalk
rule_at (suc (suc (suc (suc (suc zero))))) = NotForced
rule_at (suc (suc (suc (suc (suc (suc zero)))))) = BadArc
rule_at (suc (suc (suc (suc (suc (suc (suc zero))))))) = NotLate
rule_at (suc (suc (suc (suc (suc (suc (suc (suc zero)))))))) = RepeatedComponent
rule_at (suc (suc (suc (suc (suc (suc (suc (suc (suc zero))))))))) = RepeatedTrain
rule_at (suc (suc (suc (suc (suc (suc (suc (suc (suc (suc zero)))))))))) = WrongTrain
rule_at (suc (suc (suc (suc (suc (suc (suc (suc (suc (suc (suc zero))))))))))) = WrongEnd
rule_at (suc (suc (suc (suc (suc (suc (suc (suc (suc (suc (suc (suc place)))))))))))) = NoVerdict

-- it keeps all of them
abbrev pub KeepsAllRules : Node → Verdict → TreeLeaf → Type 0
KeepsAllRules node verdict leaf = (why : Why) → KeepsListRule node verdict leaf why

-- the first of them that it breaks
pub record IsFirstRule (node : Node) (verdict : Verdict) (leaf : TreeLeaf) (why : Why)
    : Type 0 where
  pub broken : BreaksRule node verdict leaf why
  pub first : (other : Why) → rank_of_why other < rank_of_why why
      → BreaksRule node verdict leaf other → ⊥

abbrev pub AreNamed : Problem → Choice → Type 0
AreNamed problem (Route o) = IsNamed problem o
AreNamed problem (Order a b) = IsNamed problem a × IsNamed problem b
AreNamed problem (Run o) = IsNamed problem o

-- a branch breaks a rule: its names, or its choice and the number of its children
abbrev pub BreaksBranch : Node → Choice → ℕ → Why → Type 0
BreaksBranch node choice children BadName = AreNamed node.problem choice → ⊥
BreaksBranch node choice children BadChoice = IsChoice node.problem choice
    × (children ≡ length (children_of node.problem choice)) → ⊥
BreaksBranch node choice children why = ⊥

-- a node of a tree breaks a rule in its place
abbrev pub BreaksNode : Node → Verdict → TreeNode → Why → Type 0
BreaksNode node verdict (Branch choice children) why = BreaksBranch node choice children why
BreaksNode node verdict (Leaf leaf) why = (HasNoRoute node → ⊥) × BreaksRule node verdict leaf why

-- the first rule that a node of a tree breaks
pub record IsFirstBrokenWhy (node : Node) (verdict : Verdict) (top : TreeNode) (why : Why)
    : Type 0 where
  pub broken : BreaksNode node verdict top why
  pub first : (other : Why) → rank_of_why other < rank_of_why why
      → BreaksNode node verdict top other → ⊥

-- a node of a tree holds in its place
abbrev pub TreeNodeHolds : Node → Verdict → TreeNode → Type 0
TreeNodeHolds node verdict (Branch choice children) = IsChoice node.problem choice
    × (children ≡ length (children_of node.problem choice))
TreeNodeHolds node verdict (Leaf leaf) = LeafHolds node verdict leaf

-- a node of a tree does not hold, and this is the first rule that it breaks
pub record IsRefusedFor (node : Node) (verdict : Verdict) (top : TreeNode) (why : Why)
    : Type 0 where
  pub not : TreeNodeHolds node verdict top → ⊥
  pub is_first : IsFirstBrokenWhy node verdict top why
