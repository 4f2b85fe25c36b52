-- What a target says.
use Rattle.std.specs.Prelude.{◌≡◌, ℕ, ◌<◌, Bool, true, false, List, [], ◌∷◌, Option, Some, None, get_or, length, map, ◌==◌, if◌then◌else◌}
use Rattle.disp_model.specs.declared.plan.Event.{Event}
use Rattle.disp_model.specs.Plan.{run_of}
use Rattle.train_insertion.specs.declared.advice.Start.{Start}

-- what a train runs; a train that is not there runs nothing
abbrev pub run_in : List (List Start) → ℕ → List Start
run_in runs train = get_or runs train []

-- when an operation starts in a run
abbrev pub started_in : List Start → ℕ → Option ℕ
started_in [] op = None
started_in (start ∷ run) op = if start.op == op then Some start.time else started_in run op

-- the first operation of a run where `here`, else the one behind an operation of the run
abbrev pub followed_in : Bool → List Start → ℕ → Option ℕ
followed_in here [] op = None
followed_in true (start ∷ run) op = Some start.op
followed_in false (start ∷ run) op = followed_in (start.op == op) run op

-- the operation of an event, and when it starts
abbrev pub start_at : Event → Start
start_at event = record { op = event.operation; time = event.time }

-- so many trains run what a plan has of them
pub record RunAsIn (trains : ℕ) (plan : List Event) (runs : List (List Start)) : Type 0 where
  pub long : length runs ≡ trains
  pub each : (t : ℕ) → t < trains → run_in runs t ≡ map start_at (run_of t plan)
