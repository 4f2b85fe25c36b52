-- the windows of the operations of lower numbers
use Rattle.std.proofs.Common.{◌≡◌, ℕ, ◌<◌, length, Some}
use Rattle.std.specs.Prelude.{slice_get}
use Rattle.disp_model.specs.declared.train.Op.{Op}
use Rattle.event_windows.specs.Windows.{window_by}
use Rattle.event_windows.proofs.starts.windows.Given as goal

abbrev pub invariant-loop-n : goal.invariant-loop-n
invariant-loop-n l = record { long : length l.windows.items ≡ l.n; said : (k : ℕ) (o : Op) → k < l.n → slice_get l.op-items k ≡ Some o → slice_get l.windows.items k ≡ Some (window_by l.problem l.fixings o) }
