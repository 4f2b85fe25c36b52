-- From when and until when each operation may start.
use Rattle.std.specs.Prelude.{◌≡◌, ℕ, max, List, length, Some, slice_get}
use Rattle.disp_model.specs.declared.train.Op.{Op}
use Rattle.disp_model.specs.declared.problem.Problem.{Problem}
use Rattle.disp_model.specs.declared.fixing.Fixing.{Fixing}
use Rattle.disp_model.specs.declared.fixing.Fixing.TheVariants.{Started, Chosen, NotBefore}
use Rattle.disp_model.specs.WellFormed.{operation_count}
use Rattle.disp_model.specs.Numbers.{number_of}
use Rattle.disp_model.specs.Walks.{fixed_start, not_before, lower_of, upper_of}
use Rattle.event_windows.specs.declared.times.FixedTimes.{FixedTimes}
use Rattle.event_windows.specs.declared.starts.Window.{Window}
use Rattle.event_windows.specs.Operations.{HasOperation}

-- the train of the operation that a fixing is of, and the number in it
abbrev pub train_fixed : Fixing → ℕ
train_fixed (Started t p time) = t
train_fixed (Chosen t p next) = t
train_fixed (NotBefore t p time) = t

abbrev pub operation_fixed : Fixing → ℕ
operation_fixed (Started t p time) = p
operation_fixed (Chosen t p next) = p
operation_fixed (NotBefore t p time) = p

-- what is said of an operation by a fixing of it and by the fixings behind that one
abbrev pub times_with : Fixing → FixedTimes → FixedTimes
times_with (Started t p time) times = record { start = Some time; not_before = times.not_before }
times_with (Chosen t p next) times = times
times_with (NotBefore t p time) times = record {
  start = times.start;
  not_before = max time times.not_before;
}

-- what fixings say of an operation
abbrev pub fixed_times : List Fixing → Op → FixedTimes
fixed_times fixings o = record { start = fixed_start fixings o; not_before = not_before fixings o }

-- what fixings say of each operation stands at its number
pub record AreTimesOf (problem : Problem) (fixings : List Fixing) (times : List FixedTimes)
    : Type 0 where
  pub long : length times ≡ operation_count problem.trains
  pub said : (o : Op) → HasOperation problem o
      → slice_get times (number_of problem o) ≡ Some (fixed_times fixings o)

-- when an operation may start
abbrev pub window_by : Problem → List Fixing → Op → Window
window_by problem fixings o = record {
  lower = lower_of problem fixings o;
  upper = upper_of problem fixings o;
}

-- when each operation may start stands at its number
pub record AreWindowsOf (problem : Problem) (fixings : List Fixing) (windows : List Window)
    : Type 0 where
  pub long : length windows ≡ operation_count problem.trains
  pub said : (o : Op) → HasOperation problem o
      → slice_get windows (number_of problem o) ≡ Some (window_by problem fixings o)
