-- What judging fixings answers.
use Rattle.std.specs.Prelude.{◌≡◌, ℕ, ◌+◌, ◌<◌, List, Some, slice_get}
use Rattle.disp_model.specs.declared.plan.Event.{Event}
use Rattle.disp_model.specs.declared.fixing.Fixing.{Fixing}
use Rattle.disp_model.specs.Fixing.{IsMet}
use Rattle.solution_verifier.specs.declared.fault.Fault.{Fault}
use Rattle.solution_verifier.specs.declared.fault.Fault.TheVariants.{FixingUnmet}

-- the fault is that of the first fixing that is not met
pub record IsUnmetFault (fixings : List Fixing) (plan : List Event) (fault : Fault) : Type 0 where
  pub place : ℕ
  pub fault_is : fault ≡ FixingUnmet (place + 1)
  pub fixing : Fixing
  pub there : slice_get fixings place ≡ Some fixing
  pub unmet : IsMet plan fixing → ⊥
  pub earlier : (m : ℕ) (f : Fixing) → m < place → slice_get fixings m ≡ Some f → IsMet plan f
