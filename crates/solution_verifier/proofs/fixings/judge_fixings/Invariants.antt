use Rattle.std.proofs.Common.{◌≡◌, ℕ, ◌<◌, Some}
use Rattle.std.specs.Prelude.{slice_get}
use Rattle.disp_model.specs.declared.fixing.Fixing.{Fixing}
use Rattle.disp_model.specs.Fixing.{IsMet}
use Rattle.solution_verifier.proofs.fixings.judge_fixings.Given as goal

abbrev pub invariant-loop-place : goal.invariant-loop-place
invariant-loop-place l = (m : ℕ) (f : Fixing) → m < l.place → slice_get l.fixings m ≡ Some f → IsMet l.events f
