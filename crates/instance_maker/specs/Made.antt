-- The problem that is made of a number, for so many trains. The trains 2k and 2k + 1 are a pair,
-- which share the resource k.
use Rattle.std.specs.Prelude.{◌≡◌, ℕ, zero, suc, ◌+◌, ◌-◌, ◌*◌, ◌/◌, ◌%◌, ◌==◌, nat_lt, List, [], ◌∷◌, ◌++◌, None, codes, if◌then◌else◌}
use Rattle.std.specs.Fmt.{decimal}
use Rattle.disp_model.specs.declared.problem.Problem.{Problem}
use Rattle.disp_model.specs.declared.train.Operation.{Operation}
use Rattle.disp_model.specs.declared.train.Listing.{Listing}
use Rattle.disp_model.specs.declared.train.Component.{Component}
use Rattle.instance_maker.specs.declared.draws.Pair.{Pair}
use Rattle.instance_maker.specs.Draws.{pair_at}

-- an operation from a time on, of a duration, with listings and successors
abbrev pub made_lasting : ℕ → ℕ → List Listing → List ℕ → Operation
made_lasting lower min listings next =
    record { lower = lower; upper = None; min = min; listings = listings; next = next }

-- a train from a time on: a way of 5 to the resource, which it holds for so long, and the exit
abbrev pub train_from : ℕ → ℕ → ℕ → List Operation
train_from lower resource min =
    made_lasting lower 5 [] (1 ∷ [])
    ∷ made_lasting 0 min (record { resource = resource; release = 0 } ∷ []) (2 ∷ [])
    ∷ made_lasting 0 0 [] [] ∷ []

-- each unit of time that the train is late at its exit costs 1
abbrev pub late_from : ℕ → ℕ → Component
late_from train threshold =
    record { train = train; operation = 2; threshold = threshold; increment = 0; coeff = 1 }

-- from when on the pair of this place runs
abbrev pub pair_start : ℕ → ℕ
pair_start k = 100 * k

-- how much later the second train of a pair may be without a cost: from the fifth pair on it waits
-- for the first for nothing
abbrev pub grace : ℕ → Pair → ℕ
grace k pair = if nat_lt k 4 then 0 else pair.first - pair.gap

abbrev pub first_train : ℕ → Pair → List Operation
first_train k pair = train_from (pair_start k) k pair.first

abbrev pub second_train : ℕ → Pair → List Operation
second_train k pair = train_from (pair_start k + pair.gap) k pair.second

abbrev pub first_late : ℕ → Pair → Component
first_late k pair = late_from (2 * k) (pair_start k + 5 + pair.first)

abbrev pub second_late : ℕ → Pair → Component
second_late k pair =
    late_from (2 * k + 1) (pair_start k + pair.gap + 5 + pair.second + grace k pair)

-- the train of this place
abbrev pub made_train : ℕ → ℕ → List Operation
made_train number t =
    if t % 2 == 0 then first_train (t / 2) (pair_at number (t / 2))
    else second_train (t / 2) (pair_at number (t / 2))

-- its component
abbrev pub made_late : ℕ → ℕ → Component
made_late number t =
    if t % 2 == 0 then first_late (t / 2) (pair_at number (t / 2))
    else second_late (t / 2) (pair_at number (t / 2))

-- the first so many trains
abbrev pub made_trains : ℕ → ℕ → List (List Operation)
made_trains number zero = []
made_trains number (suc t) = made_trains number t ++ made_train number t ∷ []

-- their components
abbrev pub made_components : ℕ → ℕ → List Component
made_components number zero = []
made_components number (suc t) = made_components number t ++ made_late number t ∷ []

-- the names of the first so many resources: p and the number
abbrev pub names_of : ℕ → List (List ℕ)
names_of zero = []
names_of (suc k) = names_of k ++ (codes "p" ++ decimal k) ∷ []

-- how many pairs so many trains are, the last one maybe with one train
abbrev pub pair_count : ℕ → ℕ
pair_count trains = (trains + 1) / 2

-- the problem is the one that is made
pub record IsMade (number trains : ℕ) (problem : Problem) : Type 0 where
  pub trains_are : problem.trains ≡ made_trains number trains
  pub components_are : problem.components ≡ made_components number trains
  pub names_are : problem.names ≡ names_of (pair_count trains)
