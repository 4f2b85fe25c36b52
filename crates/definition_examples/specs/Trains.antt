-- The trains of the examples, and the problems that have them.
use Rattle.std.specs.Prelude.{◌≡◌, ℕ, List, [], ◌∷◌, None, Some}
use Rattle.disp_model.specs.declared.train.Op.{Op}
use Rattle.disp_model.specs.declared.train.Operation.{Operation}
use Rattle.disp_model.specs.declared.train.Listing.{Listing}
use Rattle.disp_model.specs.declared.train.Component.{Component}
use Rattle.disp_model.specs.declared.problem.Problem.{Problem}

-- an operation of a train
abbrev pub op_named : ℕ → ℕ → Op
op_named t o = record { train = t; op = o }

-- the operations of the first two trains, A and B
abbrev pub a0 : Op
a0 = op_named 0 0

abbrev pub a1 : Op
a1 = op_named 0 1

abbrev pub b0 : Op
b0 = op_named 1 0

abbrev pub b1 : Op
b1 = op_named 1 1

-- an operation that may start from 0 on, of a duration, with what it lists and what may come next
abbrev pub lasting : ℕ → List Listing → List ℕ → Operation
lasting min listings next = record {
  lower = 0;
  upper = None;
  min = min;
  listings = listings;
  next = next;
}

-- a resource, with a release time
abbrev pub listing : ℕ → ℕ → Listing
listing resource release = record { resource = resource; release = release }

-- one unit for each unit of time before the operation starts
abbrev pub each_unit : ℕ → ℕ → Component
each_unit t o = record { train = t; operation = o; threshold = 0; increment = 0; coeff = 1 }

-- a train that holds resource 0 for so long at first, with a release time
abbrev pub holding : ℕ → ℕ → List Operation
holding min release = lasting min (listing 0 release ∷ []) (1 ∷ []) ∷ lasting 0 [] [] ∷ []

-- two trains on one resource, of the durations 10 and 4
abbrev pub two_trains : ℕ → List (List Operation)
two_trains release = holding 10 release ∷ holding 4 release ∷ []

-- the costs of the two trains: when each starts its second operation
abbrev pub two_costs : List Component
two_costs = each_unit 0 1 ∷ each_unit 1 1 ∷ []

-- a problem with the two trains, of a release time
pub record HasTwoTrains (release : ℕ) (problem : Problem) : Type 0 where
  pub trains : problem.trains ≡ two_trains release
  pub components : problem.components ≡ two_costs

-- two trains that swap two resources: each holds one first, then the other
abbrev pub swapping : ℕ → ℕ → List Operation
swapping first then = lasting 5 (listing first 0 ∷ []) (1 ∷ []) ∷ lasting 5 (listing then 0 ∷ []) []
    ∷ []

abbrev pub swap_trains : List (List Operation)
swap_trains = swapping 0 1 ∷ swapping 1 0 ∷ []

-- a problem with the two trains that swap
pub record HasSwapTrains (problem : Problem) : Type 0 where
  pub trains : problem.trains ≡ swap_trains
  pub components : problem.components ≡ []

-- one train that forks: from 0 by 1, of duration 5, or by 2, of duration 3, to 3
abbrev pub forked : List Operation
forked = lasting 0 [] (1 ∷ 2 ∷ []) ∷ lasting 5 [] (3 ∷ []) ∷ lasting 3 [] (3 ∷ []) ∷ lasting 0 [] []
    ∷ []

-- a problem with the forked train
pub record HasForkedTrain (problem : Problem) : Type 0 where
  pub trains : problem.trains ≡ forked ∷ []
  pub components : problem.components ≡ []

-- the costs of the forked train's branches: one unit for each unit of time by 1, two by 2
abbrev pub branch_costs : List Component
branch_costs = each_unit 0 1 ∷ record {
  train = 0;
  operation = 2;
  threshold = 0;
  increment = 0;
  coeff = 2;
} ∷ []

-- a problem with the forked train, and costs on its branches
pub record HasBranchCosts (problem : Problem) : Type 0 where
  pub trains : problem.trains ≡ forked ∷ []
  pub components : problem.components ≡ branch_costs

-- one train whose first operation may start from 2 to 5
abbrev pub windowed : List Operation
windowed = record { lower = 2; upper = Some 5; min = 1; listings = []; next = 1 ∷ [] }
    ∷ lasting 0 [] [] ∷ []

-- a problem with the train of a window
pub record HasWindowedTrain (problem : Problem) : Type 0 where
  pub trains : problem.trains ≡ windowed ∷ []
  pub components : problem.components ≡ []
