-- The fixings of one train that stand, each with the number of its change.
use Rattle.std.specs.Prelude.{ℕ, ◌==◌, max, not, List, [], ◌∷◌, ◌++◌, map, Option, Some, None, if◌then◌else◌}
use Rattle.std.specs.List.{filter}
use Rattle.disp_model.specs.declared.fixing.Fixing.{Fixing}
use Rattle.disp_model.specs.declared.fixing.Fixing.TheVariants.{Started, Chosen, NotBefore}
use Rattle.disp_model.specs.Replies.{is_same}
use Rattle.fixing_editions.specs.declared.train_fixings.Numbered.{Numbered}

-- the train that a fixing names
abbrev pub train_of : Fixing → ℕ
train_of (Started t o time) = t
train_of (Chosen t o next) = t
train_of (NotBefore t o time) = t

-- those of a train among fixings that stand
abbrev pub own_of : ℕ → List (ℕ × Fixing) → List Numbered
own_of t [] = []
own_of t (p ∷ standing) =
    if train_of p.1 == t then record { number = p.0; fixing = p.1 } ∷ own_of t standing
    else own_of t standing

-- the number of a fixing among them
abbrev pub number_in : List Numbered → Fixing → Option ℕ
number_in [] fixing = None
number_in (n ∷ kept) fixing = if is_same n.fixing fixing then Some n.number
    else number_in kept fixing

-- the fixings, and one more
abbrev pub fixings_with : List Numbered → Fixing → List Fixing
fixings_with kept fixing = map (λ n. n.fixing) kept ++ fixing ∷ []

-- the first, or else the second
abbrev pub or_else : Option ℕ → Option ℕ → Option ℕ
or_else None second = second
or_else (Some x) second = Some x

-- the time to which a fixing of its train fixes an operation
abbrev pub start_by : Fixing → ℕ → Option ℕ
start_by (Started t p time) o = if p == o then Some time else None
start_by (Chosen t p next) o = None
start_by (NotBefore t p time) o = None

-- the operation to which it fixes an operation to go on
abbrev pub next_by : Fixing → ℕ → Option ℕ
next_by (Started t p time) o = None
next_by (Chosen t p next) o = if p == o then Some next else None
next_by (NotBefore t p time) o = None

-- the time before which it fixes an operation not to start, or 0
abbrev pub earliest_by : Fixing → ℕ → ℕ
earliest_by (Started t p time) o = 0
earliest_by (Chosen t p next) o = 0
earliest_by (NotBefore t p time) o = if p == o then time else 0

-- the time to which they fix an operation
abbrev pub start_in : List Numbered → ℕ → Option ℕ
start_in [] o = None
start_in (n ∷ kept) o = or_else (start_by n.fixing o) (start_in kept o)

-- the operation to which they fix an operation to go on
abbrev pub next_numbered : List Numbered → ℕ → Option ℕ
next_numbered [] o = None
next_numbered (n ∷ kept) o = or_else (next_by n.fixing o) (next_numbered kept o)

-- the greatest time before which they fix an operation not to start, or 0
abbrev pub earliest_in : List Numbered → ℕ → ℕ
earliest_in [] o = 0
earliest_in (n ∷ kept) o = max (earliest_by n.fixing o) (earliest_in kept o)

-- all but the one of this number
abbrev pub without : ℕ → List Numbered → List Numbered
without number kept = filter (λ n. not (n.number == number)) kept
