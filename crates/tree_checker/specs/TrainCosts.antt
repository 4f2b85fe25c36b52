-- What a listed train costs at least, pass by pass over its allowed ways.
use Rattle.std.specs.Prelude.{◌≡◌, ◌⊎◌, ◌≢◌, ℕ, Bool, true, false, ◌+◌, ◌≤◌, ◌<◌, ◌^◌, ◌==◌, max, List, [], ◌∷◌, length, Contains, Option, Some, None, slice_index, unwrap_or, MatchOption, if◌then◌else◌}
use Rattle.disp_model.specs.declared.train.Op.{Op}
use Rattle.disp_model.specs.declared.train.Operation.{Operation}
use Rattle.disp_model.specs.declared.fixing.Fixing.{Fixing}
use Rattle.disp_model.specs.declared.problem.Problem.{Problem}
use Rattle.disp_model.specs.declared.tree.TrainWalks.{TrainWalks}
use Rattle.disp_model.specs.Train.{next_of, duration_of, IsSuccessor}
use Rattle.disp_model.specs.Node.{Node}
use Rattle.disp_model.specs.Walks.{lower_of, IsWalk, EndsIn}
use Rattle.disp_model.specs.Shares.{Arrival, AreWalksOn, greatest_to, IsShareOver, ShowsShare}
use Rattle.node_facts.specs.declared.demands.Demand.{Demand}
use Rattle.node_facts.specs.Ways.{MayGo, IsWay, IsLeastSuch, GoesOnward}
use Rattle.route_marks.specs.Marks.{sum_at}
use Rattle.node_facts.specs.Costs.{capped}
use Rattle.tree_checker.specs.declared.landings.Landing.{Landing}

-- ---- when operations are reached

-- along allowed steps from p on, which is entered at a time, the way comes to o, which is reached
-- at n
abbrev pub Comes : List Operation → List ℕ → List Demand → (ℕ → ℕ) → ℕ → ℕ → List ℕ → ℕ → ℕ → Type 0
Comes train places demands base p time [] o n = (p ≡ o) × (n ≡ max time (base p))
Comes train places demands base p time (s ∷ rest) o n =
    IsSuccessor train p s × MayGo places demands p (Some s)
    × Comes train places demands base s (max time (base p) + duration_of train p) rest o n

-- steps from an operation that is left at a time enter those that come next
pub record EntersNexts (places : List ℕ) (demands : List Demand) (o : ℕ) (nexts : List ℕ) (time : ℕ)
    (old new : List (Option ℕ)) : Type 0 where
  pub long : length new ≡ length old
  -- nothing is entered later than before
  pub sooner : (s x : ℕ) → sum_at old s ≡ Some x → (y : ℕ) × (sum_at new s ≡ Some y) × (y ≤ x)
  -- each that may come next is entered by the time
  pub each : (s : ℕ) → Contains nexts s → MayGo places demands o (Some s) → (y : ℕ)
      × (sum_at new s ≡ Some y) × (y ≤ time)
  -- and nothing else is entered
  pub only : (s y : ℕ) → sum_at new s ≡ Some y → (sum_at old s ≡ Some y)
      ⊎ (Contains nexts s × MayGo places demands o (Some s) × (y ≡ time))

-- an operation is left, if it was entered
abbrev pub LeavesCosts : List Operation → List ℕ → List Demand → List ℕ → ℕ → List (Option ℕ)
    → List (Option ℕ) → Type 0
LeavesCosts train places demands bases o old new =
    MatchOption (sum_at old o) (new ≡ old) (λ x. EntersNexts places demands o (next_of train o)
    (max x (slice_index bases o) + duration_of train o) old new)

-- of each operation the least time at which a way from the entry enters it
pub record AreEntered (train : List Operation) (places : List ℕ) (demands : List Demand)
    (base : ℕ → ℕ) (e : ℕ) (entered : List (Option ℕ)) : Type 0 where
  pub there : (o x : ℕ) → sum_at entered o ≡ Some x → (rest : List ℕ)
      × Comes train places demands base e 0 rest o (max x (base o))
  pub least : (o n : ℕ) (rest : List ℕ) → Comes train places demands base e 0 rest o n → (x : ℕ)
      × (sum_at entered o ≡ Some x) × (max x (base o) ≤ n)

-- the base of an operation that is kept in a list
abbrev pub base_by : List ℕ → ℕ → ℕ
base_by bases o = slice_index bases o

-- when an operation is reached, by when it is entered
abbrev pub reach_by : List (Option ℕ) → List ℕ → ℕ → ℕ
reach_by entered bases o = max (unwrap_or (sum_at entered o) 0) (base_by bases o)

-- ---- what operations cost

-- the prices of operations together
abbrev pub price_along : (ℕ → ℕ) → List ℕ → ℕ
price_along price [] = 0
price_along price (o ∷ rest) = price o + price_along price rest

-- of each operation the price, as far as 128 bits hold it
abbrev pub ArePrices : List Operation → (ℕ → ℕ) → List ℕ → Type 0
ArePrices train price prices = (o : ℕ) → o < length train → slice_index prices o ≡ capped (price o)

-- what is left to pay from an operation on, by what is left from those that come next
abbrev pub IsCostBy : Operation → List ℕ → List Demand → List (Option ℕ) → ℕ → ℕ → Option ℕ → Type 0
IsCostBy operation places demands costs o price None =
    (operation.next ≡ [] → MayGo places demands o None → ⊥)
    × ((n : ℕ) → GoesOnward places demands costs o operation.next n → ⊥)
IsCostBy operation places demands costs o price (Some cost) =
    ((operation.next ≡ []) × MayGo places demands o None × (cost ≡ price))
    ⊎ ((behind : ℕ) × (operation.next ≢ [])
    × IsLeastSuch (GoesOnward places demands costs o operation.next) behind
    × (cost ≡ capped (price + behind)))

-- of each operation what a way from it on costs at least, as far as 128 bits hold it
pub record AreCosts (train : List Operation) (places : List ℕ) (demands : List Demand)
    (price : ℕ → ℕ) (costs : List (Option ℕ)) : Type 0 where
  pub there : (o cost : ℕ) → sum_at costs o ≡ Some cost → (rest : List ℕ)
      × IsWay train places demands o rest × (cost ≡ capped (price_along price (o ∷ rest)))
  pub least : (o : ℕ) (rest : List ℕ) → IsWay train places demands o rest → (cost : ℕ)
      × (sum_at costs o ≡ Some cost) × (cost ≤ price_along price (o ∷ rest))

-- ---- what a train costs

-- where a walk ends on a train, and how long it is; none where it is no walk that ends there
abbrev pub IsLanding : Node → ℕ → List Op → Option Landing → Type 0
IsLanding node t walk found =
    MatchOption found ((o n : ℕ) → EndsIn walk (record { train = t; op = o }) → IsWalk node walk n
    → ⊥)
    (λ landing. EndsIn walk (record { train = t; op = landing.operation })
    × IsWalk node walk landing.total × (landing.total ≤ 2 ^ 127))

-- the base of an operation, if it is there, is raised to a length
pub record Raises (operation total : ℕ) (old new : List ℕ) : Type 0 where
  pub long : length new ≡ length old
  pub raised : (o : ℕ) → o < length old → slice_index new o ≡
      (if operation == o then max total (slice_index old o) else slice_index old o)
  pub small : total ≤ 2 ^ 127 → ((o : ℕ) → slice_index old o ≤ 2 ^ 127) → (o : ℕ)
      → slice_index new o ≤ 2 ^ 127

-- bases are raised to the lengths of walks that end there
pub record AreRaised (node : Node) (t : ℕ) (walks : List (List Op)) (old new : List ℕ)
    : Type 0 where
  pub arrivals : List Arrival
  pub are : AreWalksOn node t walks arrivals
  pub long : length new ≡ length old
  pub raised : (o : ℕ) → o < length old → slice_index new o ≡ max (slice_index old o)
      (greatest_to o arrivals)
  pub small : ((o : ℕ) → slice_index old o ≤ 2 ^ 127) → (o : ℕ) → slice_index new o ≤ 2 ^ 127

-- they were, or one is no walk that ends on the train
abbrev pub WasRaised : Node → ℕ → List (List Op) → List ℕ → List ℕ → Bool → Type 0
WasRaised node t walks old new true = AreRaised node t walks old new
WasRaised node t walks old new false = (arrivals : List Arrival) → AreWalksOn node t walks arrivals
    → ⊥

-- the lower of each operation of a train
pub record AreLowers (problem : Problem) (fixings : List Fixing) (t count : ℕ) (bases : List ℕ)
    : Type 0 where
  pub long : length bases ≡ count
  pub are : (o : ℕ) → o < count → slice_index bases o ≡ lower_of problem fixings
      (record { train = t; op = o })
  pub small : (o : ℕ) → slice_index bases o ≤ 2 ^ 64

-- the share of a train over bases, capped, or none where it has no allowed route
pub record IsCappedShare (node : Node) (t : ℕ) (base : ℕ → ℕ) (found : ℕ) : Type 0 where
  pub share : ℕ
  pub share_is : IsShareOver node t base share
  pub found_is : found ≡ capped share

abbrev pub IsLeastCost : Node → ℕ → (ℕ → ℕ) → Option ℕ → Type 0
IsLeastCost node t base found = MatchOption found ((share : ℕ) → IsShareOver node t base share → ⊥)
    (IsCappedShare node t base)

-- the share that a listed train shows, capped, or none where it shows none
pub record IsCappedShown (node : Node) (shown : TrainWalks) (found : ℕ) : Type 0 where
  pub share : ℕ
  pub share_is : ShowsShare node shown share
  pub found_is : found ≡ capped share

abbrev pub IsShown : Node → TrainWalks → Option ℕ → Type 0
IsShown node shown found = MatchOption found ((share : ℕ) → ShowsShare node shown share → ⊥)
    (IsCappedShown node shown)
