-- What is kept beside fixings: the times of each operation that they fix, and those of each train.
use Rattle.std.specs.Prelude.{◌≡◌, ℕ, Bool, ◌<◌, ◌==◌, ◌-◌, min, List, length, Option, Some, slice_get, unwrap_or}
use Rattle.std.specs.Global.{Vec}
use Rattle.std.specs.BTreeMap.{is_at}
use Rattle.std.specs.Map.{lookup}
use Rattle.std.specs.List.{filter}
use Rattle.std.specs.declared.cmp.Ordering.{Ordering}
use Rattle.std.specs.Ordering.{nat_cmp, ordering_then}
use Rattle.disp_model.specs.declared.train.Op.{Op}
use Rattle.disp_model.specs.declared.fixing.Fixing.{Fixing}
use Rattle.disp_model.specs.declared.fixing.Fixing.TheVariants.{Started, Chosen, NotBefore}
use Rattle.disp_model.specs.Walks.{fixed_start, not_before}

-- ---- times

-- by the number of the train, and then by that of the operation
abbrev pub numbers_cmp : ℕ × ℕ → ℕ × ℕ → Ordering
numbers_cmp p q = ordering_then (nat_cmp p.0 q.0) (nat_cmp p.1 q.1)

-- the time that is kept of an operation
abbrev pub time_in : List ((ℕ × ℕ) × ℕ) → ℕ → ℕ → Option ℕ
time_in times t p = lookup (is_at (numbers_cmp (t, p))) times

-- of each operation that is fixed to a time that time is kept, and of no other
pub record AreStarts (fixings : List Fixing) (starts : List ((ℕ × ℕ) × ℕ)) : Type 0 where
  pub are : (o : Op) → time_in starts o.train o.op ≡ fixed_start fixings o

-- of each operation the greatest time is kept before which it is fixed not to start
pub record AreBars (fixings : List Fixing) (bars : List ((ℕ × ℕ) × ℕ)) : Type 0 where
  pub are : (o : Op) → unwrap_or (time_in bars o.train o.op) 0 ≡ not_before fixings o

-- ---- trains

-- the train of which a fixing speaks
abbrev pub fixing_train : Fixing → ℕ
fixing_train (Started t p time) = t
fixing_train (Chosen t p next) = t
fixing_train (NotBefore t p time) = t

-- whether a fixing speaks of a train
abbrev pub fixes_train : ℕ → Fixing → Bool
fixes_train t fixing = fixing_train fixing == t

-- which list is a train's: the last is of all trains that have none of their own
abbrev pub own_list : ℕ → ℕ → ℕ
own_list last t = min t last

-- whether a fixing is one of a list
abbrev pub in_list : ℕ → ℕ → Fixing → Bool
in_list last i fixing = own_list last (fixing_train fixing) == i

-- each list has the fixings that are its own, in order
pub record AreFixedByTrain (fixings : List Fixing) (lists : List (Vec Fixing)) : Type 0 where
  pub some : 0 < length lists
  pub each : (i : ℕ) (own : Vec Fixing) → slice_get lists i ≡ Some own
      → own.items ≡ filter (in_list (length lists - 1) i) fixings

-- ---- all

pub record AreIndexed (fixings : List Fixing) (starts bars : List ((ℕ × ℕ) × ℕ))
    (lists : List (Vec Fixing)) : Type 0 where
  pub starts_are : AreStarts fixings starts
  pub bars_are : AreBars fixings bars
  pub by_train : AreFixedByTrain fixings lists
