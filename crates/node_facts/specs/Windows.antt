-- What single fixings say of when an operation starts.
use Rattle.std.specs.Prelude.{ℕ, ◌<◌, ◌==◌, ◌&&◌, Option, Some, None, if◌then◌else◌}
use Rattle.disp_model.specs.declared.train.Op.{Op}
use Rattle.disp_model.specs.declared.fixing.Fixing.{Fixing}
use Rattle.disp_model.specs.declared.fixing.Fixing.TheVariants.{Started, Chosen, NotBefore}

-- the time to which a fixing fixes an operation
abbrev pub start_fixed_by : Fixing → Op → Option ℕ
start_fixed_by (Started t p time) o = if (t == o.train) && (p == o.op) then Some time else None
start_fixed_by (Chosen t p next) o = None
start_fixed_by (NotBefore t p time) o = None

-- the time before which a fixing lets an operation not start, or 0
abbrev pub bar_by : Fixing → Op → ℕ
bar_by (Started t p time) o = 0
bar_by (Chosen t p next) o = 0
bar_by (NotBefore t p time) o = if (t == o.train) && (p == o.op) then time else 0

-- a length is above an upper, if there is one
abbrev pub IsAboveBound : ℕ → Option ℕ → Type 0
IsAboveBound total None = ⊥
IsAboveBound total (Some upper) = upper < total
