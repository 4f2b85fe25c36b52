-- The ways through a train that fixings and decisions allow, and their least sums of durations.
use Rattle.std.specs.Prelude.{◌≡◌, ◌⊎◌, ℕ, ◌+◌, ◌≤◌, List, [], ◌∷◌, All, Contains, Option, Some, None, min, MatchOption}
use Rattle.disp_model.specs.declared.train.Operation.{Operation}
use Rattle.disp_model.specs.Train.{duration_of, IsSuccessor, IsExit}
use Rattle.route_marks.specs.Marks.{sum_at}
use Rattle.node_facts.specs.declared.demands.Demand.{Demand}
use Rattle.node_facts.specs.Demands.{Allows}

-- by all that is asked a route may go on from an operation to one, or end there
abbrev pub MayGo : List ℕ → List Demand → ℕ → Option ℕ → Type 0
MayGo places demands o next = All (Allows places o next) demands

-- from an operation step by step to the exit, as is asked
abbrev pub IsWay : List Operation → List ℕ → List Demand → ℕ → List ℕ → Type 0
IsWay train places demands o [] = IsExit train o × MayGo places demands o None
IsWay train places demands o (s ∷ rest) = IsSuccessor train o s × MayGo places demands o (Some s)
    × IsWay train places demands s rest

-- the durations of a way's operations but the last
abbrev pub way_sum : List Operation → ℕ → List ℕ → ℕ
way_sum train o [] = 0
way_sum train o (s ∷ rest) = duration_of train o + way_sum train s rest

-- the least number of which something holds, or none where it holds of none
pub record IsLeastSuch (P : ℕ → Type 0) (least : ℕ) : Type 0 where
  pub reached : P least
  pub at_most : (n : ℕ) → P n → least ≤ n

abbrev pub IsLeastOf : (ℕ → Type 0) → Option ℕ → Type 0
IsLeastOf P least = MatchOption least ((n : ℕ) → P n → ⊥) (IsLeastSuch P)

abbrev pub lesser : Option ℕ → Option ℕ → Option ℕ
lesser None other = other
lesser (Some n) None = Some n
lesser (Some n) (Some m) = Some (min n m)

-- a way from the operation has the sum
pub record HasSum (train : List Operation) (places : List ℕ) (demands : List Demand) (o sum : ℕ)
    : Type 0 where
  pub rest : List ℕ
  pub way : IsWay train places demands o rest
  pub sum_is : way_sum train o rest ≡ sum

-- of each operation the least sum of a way, or none where it has no way
abbrev pub AreSums : List Operation → List ℕ → List Demand → List (Option ℕ) → Type 0
AreSums train places demands sums = (o : ℕ)
    → IsLeastOf (HasSum train places demands o) (sum_at sums o)

-- the sum of the way that goes on to an operation by the least sum from there
pub record IsOnward (places : List ℕ) (demands : List Demand) (sums : List (Option ℕ)) (o s sum : ℕ)
    : Type 0 where
  pub may : MayGo places demands o (Some s)
  pub known : sum_at sums s ≡ Some sum

pub record GoesOnward (places : List ℕ) (demands : List Demand) (sums : List (Option ℕ)) (o : ℕ)
    (nexts : List ℕ) (sum : ℕ) : Type 0 where
  pub next : ℕ
  pub is_next : Contains nexts next
  pub onward : IsOnward places demands sums o next sum

-- the way ends at the operation, which goes on to none
pub record EndsRouteThere (operation : Operation) (places : List ℕ) (demands : List Demand)
    (o sum : ℕ) : Type 0 where
  pub last : operation.next ≡ []
  pub may : MayGo places demands o None
  pub sum_is : sum ≡ 0

pub record GoesOver (operation : Operation) (places : List ℕ) (demands : List Demand)
    (sums : List (Option ℕ)) (o sum : ℕ) : Type 0 where
  pub behind : ℕ
  pub onward : GoesOnward places demands sums o operation.next behind
  pub sum_is : sum ≡ operation.min + behind

-- a sum by those that are known of the operation's successors
abbrev pub IsSumBy : Operation → List ℕ → List Demand → List (Option ℕ) → ℕ → ℕ → Type 0
IsSumBy operation places demands sums o sum = EndsRouteThere operation places demands o sum
    ⊎ GoesOver operation places demands sums o sum
