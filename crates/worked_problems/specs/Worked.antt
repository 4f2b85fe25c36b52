-- The trains and components of the worked problems.
use Rattle.std.specs.Prelude.{ℕ, List, [], ◌∷◌, Option, Some, None}
use Rattle.disp_model.specs.declared.train.Operation.{Operation}
use Rattle.disp_model.specs.declared.train.Listing.{Listing}
use Rattle.disp_model.specs.declared.train.Component.{Component}

-- an operation that may start from 0 until a time
abbrev pub worked_operation : Option ℕ → ℕ → List Listing → List ℕ → Operation
worked_operation upper min listings next =
    record { lower = 0; upper = upper; min = min; listings = listings; next = next }

-- a component that costs so much for each unit of time, and so much from 0 on
abbrev pub worked_component : ℕ → ℕ → ℕ → ℕ → Component
worked_component t o coeff increment =
    record { train = t; operation = o; threshold = 0; increment = increment; coeff = coeff }

-- each unit of time costs 1 at the exits of two trains
abbrev pub block_costs : List Component
block_costs = worked_component 0 1 1 0 ∷ worked_component 1 1 1 0 ∷ []

-- each unit of time costs 1 at the exit of a fork
abbrev pub exit_costs : List Component
exit_costs = worked_component 0 3 1 0 ∷ []

-- so, and to run its operation 2 costs 10
abbrev pub fork_costs : List Component
fork_costs = worked_component 0 2 0 10 ∷ exit_costs

-- so, and to run its operation 1 costs 4
abbrev pub dear_fork_costs : List Component
dear_fork_costs = worked_component 0 1 0 4 ∷ fork_costs

-- a resource with a release time
abbrev pub one_listing : ℕ → ℕ → List Listing
one_listing resource release = record { resource = resource; release = release } ∷ []

-- a train that holds the resource 0 for so long, and then reaches its exit
abbrev pub blocked_train : Option ℕ → ℕ → ℕ → List Operation
blocked_train upper release min =
    worked_operation upper min (one_listing 0 release) (1 ∷ []) ∷ worked_operation None 0 [] [] ∷ []

-- two trains on one resource, of the durations 10 and 4
abbrev pub blocked_trains : Option ℕ → ℕ → List (List Operation)
blocked_trains upper release =
    blocked_train upper release 10 ∷ blocked_train upper release 4 ∷ []

-- a train that holds one resource, then another, then reaches its exit
abbrev pub swapping_train : ℕ → ℕ → List Operation
swapping_train first second =
    worked_operation None 10 (one_listing first 0) (1 ∷ [])
    ∷ worked_operation None 0 (one_listing second 0) (2 ∷ [])
    ∷ worked_operation None 0 [] []
    ∷ []

-- a train from 0 to 1 or 2, of the durations 5 and 3, and from both to 3
abbrev pub forking_train : List Operation
forking_train =
    worked_operation None 0 [] (1 ∷ 2 ∷ [])
    ∷ worked_operation None 5 [] (3 ∷ [])
    ∷ worked_operation None 3 [] (3 ∷ [])
    ∷ worked_operation None 0 [] []
    ∷ []

-- a train of one operation, with its window
abbrev pub windowed_train : ℕ → Option ℕ → List Operation
windowed_train lower upper =
    record { lower = lower; upper = upper; min = 0; listings = []; next = [] } ∷ []

-- a train of two operations: from 2 on, and from 4 until 20
abbrev pub two_windowed : List Operation
two_windowed =
    record { lower = 2; upper = None; min = 1; listings = []; next = 1 ∷ [] }
    ∷ record { lower = 4; upper = Some 20; min = 1; listings = []; next = [] }
    ∷ []
