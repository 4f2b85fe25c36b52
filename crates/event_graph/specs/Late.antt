-- Until when operations may start, and which are late.
use Rattle.std.specs.Prelude.{◌≡◌, ℕ, ◌<◌, List, Option, Some, None, All, Contains, if◌then◌else◌, nat_lt, length, slice_get}
use Rattle.disp_model.specs.declared.train.Op.{Op}
use Rattle.disp_model.specs.declared.fixing.Fixing.{Fixing}
use Rattle.disp_model.specs.declared.problem.Problem.{Problem}
use Rattle.disp_model.specs.WellFormed.{operation_count}
use Rattle.disp_model.specs.Numbers.{number_of}
use Rattle.disp_model.specs.Node.{Node}
use Rattle.disp_model.specs.Nodes.{HasLate}
use Rattle.event_windows.specs.declared.starts.Window.{Window}
use Rattle.event_windows.specs.Operations.{HasOperation}
use Rattle.event_windows.specs.Windows.{window_by}

-- until when, from this time on
abbrev pub until_from : ℕ → Option ℕ → Option ℕ
until_from lower None = None
until_from lower (Some upper) = if nat_lt upper lower then None else Some upper

-- until when a window is open, where it is open at all and has such a time
abbrev pub open_until : Window → Option ℕ
open_until window = until_from window.lower window.upper

-- a window that is never open
pub record IsWindowClosed (window : Window) : Type 0 where
  pub upper : ℕ
  pub upper_is : window.upper ≡ Some upper
  pub below : upper < window.lower

-- until when each operation may start, in the order of their numbers, where it may start at all
pub record AreUppersOf (problem : Problem) (fixings : List Fixing) (uppers : List (Option ℕ))
    : Type 0 where
  pub long : length uppers ≡ operation_count problem.trains
  pub at : (o : Op) → HasOperation problem o
      → slice_get uppers (number_of problem o) ≡ Some (open_until (window_by problem fixings o))

-- those of the first so many operations whose windows are never open
pub record AreClosedTo (problem : Problem) (fixings : List Fixing) (count : ℕ) (closed : List Op)
    : Type 0 where
  pub found : (o : Op) → HasOperation problem o → number_of problem o < count
      → IsWindowClosed (window_by problem fixings o) → Contains closed o
  pub only : All (λ o. HasOperation problem o × IsWindowClosed (window_by problem fixings o)) closed

-- the operations whose windows are never open
pub record AreClosedOf (problem : Problem) (fixings : List Fixing) (closed : List Op) : Type 0 where
  pub found : (o : Op) → HasOperation problem o → IsWindowClosed (window_by problem fixings o)
      → Contains closed o
  pub only : All (λ o. HasOperation problem o × IsWindowClosed (window_by problem fixings o)) closed

-- the operation is late: its longest walk is longer than its upper
pub record IsLateAt (node : Node) (o : Op) : Type 0 where
  pub late : HasLate node
  pub operation : late.operation ≡ o
