-- A plan is a list of events. Here: the run of a train, when an operation starts, and where an
-- event ends.
use Rattle.std.specs.Prelude.{ℕ, ◌+◌, ◌==◌, ◌&&◌, List, [], ◌∷◌, Option, Some, None, map, filter, drop, if◌then◌else◌, slice_index_or}
use Rattle.disp_model.specs.declared.plan.Event.{Event}
use Rattle.disp_model.specs.declared.train.Operation.{Operation}
use Rattle.disp_model.specs.Train.{duration_of}

-- the events of a train, in list order
abbrev pub run_of : ℕ → List Event → List Event
run_of t plan = filter (λ e. e.train == t) plan

-- the operations of a train's events, in list order
abbrev pub operations_of : ℕ → List Event → List ℕ
operations_of t plan = map (λ e. e.operation) (run_of t plan)

-- when an operation of a train starts; none where it is not run
abbrev pub start_of : List Event → ℕ → ℕ → Option ℕ
start_of [] t o = None
start_of (e ∷ plan) t o = if (e.train == t) && (e.operation == o) then Some e.time
    else start_of plan t o

-- the event of a train that comes first in a list, and its position, counted from a position on
abbrev pub first_of : ℕ → ℕ → List Event → Option (ℕ × Event)
first_of t from [] = None
first_of t from (e ∷ plan) = if e.train == t then Some (from, e) else first_of t (from + 1) plan

-- where an event ends: a position in the list, and a time
pub record Ending : Type 0 where
  pub position : ℕ
  pub time : ℕ

-- an event ends where its train's next event stands; the last one of a train at its own position,
-- after its duration
abbrev pub ending : List Operation → ℕ → Event → Option (ℕ × Event) → Ending
ending train i e (Some f) = record { position = f.0; time = f.1.time }
ending train i e None = record { position = i; time = e.time + duration_of train e.operation }

-- the end of the event e that stands at position i of the plan (format; positions are this
-- project's reading)
abbrev pub end_of : List (List Operation) → List Event → ℕ → Event → Ending
end_of trains plan i e = ending (slice_index_or trains e.train []) i e
    (first_of e.train (i + 1) (drop (i + 1) plan))
