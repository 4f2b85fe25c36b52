-- When a plan meets a fixing.
use Rattle.std.specs.Prelude.{◌≡◌, ℕ, ◌≤◌, ◌==◌, List, [], ◌∷◌, Option, Some, None, IfSome, if◌then◌else◌}
use Rattle.disp_model.specs.declared.plan.Event.{Event}
use Rattle.disp_model.specs.declared.fixing.Fixing.{Fixing}
use Rattle.disp_model.specs.declared.fixing.Fixing.TheVariants.{Started, Chosen, NotBefore}
use Rattle.disp_model.specs.Plan.{start_of, operations_of}

-- what stands behind the first o of a list
abbrev pub after : ℕ → List ℕ → Option ℕ
after o [] = None
after o (p ∷ []) = None
after o (p ∷ q ∷ rest) = if p == o then Some q else after o (q ∷ rest)

-- a started operation is run and starts at that time; after a chosen one, which is run, comes the
-- one named; an operation that is not to start before a time is not run, or starts then or later
-- (this project)
abbrev pub IsMet : List Event → Fixing → Type 0
IsMet plan (Started t o time) = start_of plan t o ≡ Some time
IsMet plan (Chosen t o next) = after o (operations_of t plan) ≡ Some next
IsMet plan (NotBefore t o time) = IfSome (start_of plan t o) (λ s. time ≤ s)
