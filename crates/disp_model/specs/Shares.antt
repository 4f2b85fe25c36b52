-- What the components of one train cost at least, whichever route it takes; and the bound of a
-- node.
use Rattle.std.specs.Prelude.{◌≡◌, ◌≢◌, ◌⊎◌, ℕ, zero, suc, ◌+◌, ◌≤◌, ◌<◌, ◌==◌, ◌&&◌, max, List, [], ◌∷◌, length, Contains, Option, Some, None, slice_get, sum_by, if◌then◌else◌}
use Rattle.std.specs.List.{list_any}
use Rattle.disp_model.specs.declared.train.Op.{Op}
use Rattle.disp_model.specs.declared.train.Operation.{Operation}
use Rattle.disp_model.specs.declared.train.Component.{Component}
use Rattle.disp_model.specs.declared.plan.Event.{Event}
use Rattle.disp_model.specs.declared.problem.Problem.{Problem}
use Rattle.disp_model.specs.declared.settings.Rule.{Rule}
use Rattle.disp_model.specs.declared.settings.Rule.TheVariants.{Fixed, Free}
use Rattle.disp_model.specs.declared.tree.ComponentWalk.{ComponentWalk}
use Rattle.disp_model.specs.declared.tree.TrainWalks.{TrainWalks}
use Rattle.disp_model.specs.Train.{duration_of}
use Rattle.disp_model.specs.Valid.{train_at}
use Rattle.disp_model.specs.Cost.{cost_at, cost_in}
use Rattle.disp_model.specs.Node.{Node}
use Rattle.disp_model.specs.Routes.{IsAllowed, HasRoute, IsForced}
use Rattle.disp_model.specs.Walks.{lower_of, IsWalk, EndsIn, IsLongest}
use Rattle.disp_model.specs.Nodes.{IsForcedBound}

-- when an operation is reached along a route that is entered at a time: not before its base, nor
-- before the durations of the operations in front of it have passed
abbrev pub reached_from : (ℕ → ℕ) → List Operation → ℕ → List ℕ → ℕ → Option ℕ
reached_from base train time [] o = None
reached_from base train time (p ∷ route) o =
    if p == o then Some (max time (base p))
    else reached_from base train (max time (base p) + duration_of train p) route o

-- the least time at which an operation is reached, over the allowed routes that have it (this
-- project)
pub record IsReach (node : Node) (t : ℕ) (base : ℕ → ℕ) (o total : ℕ) : Type 0 where
  pub there : (route : List ℕ) × IsAllowed node t route
      × (reached_from base (train_at node.problem t) 0 route o ≡ Some total)
  pub least : (route : List ℕ) (other : ℕ) → IsAllowed node t route
      → reached_from base (train_at node.problem t) 0 route o ≡ Some other → total ≤ other

-- what a component costs along a route of a train: nothing where its operation is not on it
abbrev pub cost_along : ℕ → (ℕ → ℕ) → List ℕ → Component → ℕ
cost_along t reach route c = if (c.train == t) && (list_any (λ p. p == c.operation) route)
    then cost_at c (reach c.operation) else 0

-- what the train's components cost along a route together
abbrev pub route_cost : Problem → ℕ → (ℕ → ℕ) → List ℕ → ℕ
route_cost problem t reach route = sum_by (cost_along t reach route) problem.components

-- over given bases: the least, over the allowed routes, of what the train's components cost at
-- their reach (this project)
pub record IsShareOver (node : Node) (t : ℕ) (base : ℕ → ℕ) (share : ℕ) : Type 0 where
  pub reach : ℕ → ℕ
  pub reach_is : (route : List ℕ) (o : ℕ) → IsAllowed node t route → Contains route o
      → IsReach node t base o (reach o)
  pub there : (route : List ℕ) × IsAllowed node t route
      × (route_cost node.problem t reach route ≡ share)
  pub least : (route : List ℕ) → IsAllowed node t route
      → share ≤ route_cost node.problem t reach route

-- what a component of a train costs in a plan, and nothing for one of another train
abbrev pub own_cost : ℕ → List Event → Component → ℕ
own_cost t plan c = if c.train == t then cost_in plan c else 0

-- the base of an operation: its longest walk where it is forced, else its lower
abbrev pub IsBase : Node → Op → ℕ → Type 0
IsBase node o base = (IsForced node o × IsLongest node o base)
    ⊎ ((IsForced node o → ⊥) × (base ≡ lower_of node.problem node.fixings o))

-- the share of a train: what its components cost at least in every valid plan that follows the
-- decisions
pub record IsShare (node : Node) (t share : ℕ) : Type 0 where
  pub base : ℕ → ℕ
  pub base_is : (o : ℕ) → IsBase node (record { train = t; op = o }) (base o)
  pub over : IsShareOver node t base share

-- what a train adds to the bound: its share, where it has an allowed route
abbrev pub AddsShare : Node → ℕ → ℕ → Type 0
AddsShare node t cost = IsShare node t cost ⊎ ((HasRoute node t → ⊥) × (cost ≡ 0))

-- what the first trains add up to
abbrev pub SharesAddUp : Node → ℕ → ℕ → Type 0
SharesAddUp node zero bound = bound ≡ 0
SharesAddUp node (suc t) bound = (cost : ℕ) × (rest : ℕ) × AddsShare node t cost
    × SharesAddUp node t rest × (bound ≡ cost + rest)

-- the bound of a node: under the fixed rule what forced components add up to, under the free one
-- the shares of all trains
abbrev pub IsBound : Node → Rule → ℕ → Type 0
IsBound node Fixed bound = IsForcedBound node bound
IsBound node Free bound = SharesAddUp node (length node.problem.trains) bound

-- ---- shares that a leaf shows

-- where a listed walk ends, and its length
pub record Arrival : Type 0 where
  pub operation : ℕ
  pub total : ℕ

-- walks that end on the train, with their ends and lengths
abbrev pub AreWalksOn : Node → ℕ → List (List Op) → List Arrival → Type 0
AreWalksOn node t [] [] = Unit {0}
AreWalksOn node t [] (arrival ∷ arrivals) = ⊥
AreWalksOn node t (walk ∷ walks) [] = ⊥
AreWalksOn node t (walk ∷ walks) (arrival ∷ arrivals) =
    EndsIn walk (record { train = t; op = arrival.operation }) × IsWalk node walk arrival.total
    × AreWalksOn node t walks arrivals

-- the greatest length of these walks that end at an operation, or 0
abbrev pub greatest_to : ℕ → List Arrival → ℕ
greatest_to o [] = 0
greatest_to o (arrival ∷ arrivals) = if arrival.operation == o
    then max arrival.total (greatest_to o arrivals) else greatest_to o arrivals

-- the base that listed walks show: the greatest of the operation's lower and the lengths of the
-- walks that end there
abbrev pub shown_base : Node → ℕ → List Arrival → ℕ → ℕ
shown_base node t arrivals o = max (lower_of node.problem node.fixings
    (record { train = t; op = o })) (greatest_to o arrivals)

-- what a listed train's components cost at least, by its walks
pub record ShowsShare (node : Node) (listed : TrainWalks) (share : ℕ) : Type 0 where
  pub arrivals : List Arrival
  pub walks : AreWalksOn node listed.train listed.walks arrivals
  pub over : IsShareOver node listed.train (shown_base node listed.train arrivals) share

-- what the listed trains cost together
abbrev pub SharesCost : Node → List TrainWalks → ℕ → Type 0
SharesCost node [] sum = sum ≡ 0
SharesCost node (listed ∷ trains) sum = (share : ℕ) × (rest : ℕ) × ShowsShare node listed share
    × SharesCost node trains rest × (sum ≡ share + rest)

-- no train is listed twice
abbrev pub HaveDistinctTrains : List TrainWalks → Type 0
HaveDistinctTrains trains = (i j : ℕ) (s u : TrainWalks) → i < j → slice_get trains i ≡ Some s
    → slice_get trains j ≡ Some u → s.train ≢ u.train

-- the walks' components are of trains that are not listed
abbrev pub AreOfOthers : Problem → List ComponentWalk → List TrainWalks → Type 0
AreOfOthers problem walks trains =
    (i j : ℕ) (w : ComponentWalk) (listed : TrainWalks) (c : Component) → slice_get walks i ≡ Some w
    → slice_get trains j ≡ Some listed
    → slice_get problem.components w.component ≡ Some c → c.train ≢ listed.train
