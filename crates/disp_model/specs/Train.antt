-- Operations of a train, and the routes through it, by the operations' places in the train's list.
use Rattle.std.specs.Prelude.{◌≡◌, ℕ, ◌<◌, List, [], ◌∷◌, length, Contains, slice_get}
use Rattle.std.specs.Option.{option_map_or}
use Rattle.disp_model.specs.declared.train.Operation.{Operation}

-- the operations that may come next (format: `successors`)
abbrev pub next_of : List Operation → ℕ → List ℕ
next_of train o = option_map_or (λ p. p.next) (slice_get train o) []

-- how long an operation lasts at least (format: `min_duration`)
abbrev pub duration_of : List Operation → ℕ → ℕ
duration_of train o = option_map_or (λ p. p.min) (slice_get train o) 0

-- s may come next after o
abbrev pub IsSuccessor : List Operation → ℕ → ℕ → Type 0
IsSuccessor train o s = Contains (next_of train o) s

-- an operation that comes after none (format)
pub record IsEntry (train : List Operation) (o : ℕ) : Type 0 where
  pub there : o < length train
  pub first : (p : ℕ) → IsSuccessor train p o → ⊥

-- an operation that none comes after (format)
pub record IsExit (train : List Operation) (o : ℕ) : Type 0 where
  pub there : o < length train
  pub last : next_of train o ≡ []

-- after o come these operations, each a successor of the one before, up to an exit
abbrev pub GoesOn : List Operation → ℕ → List ℕ → Type 0
GoesOn train o [] = IsExit train o
GoesOn train o (s ∷ rest) = IsSuccessor train o s × GoesOn train s rest

-- from an entry to an exit, each operation a successor of the one before (format)
abbrev pub IsRoute : List Operation → List ℕ → Type 0
IsRoute train [] = ⊥
IsRoute train (o ∷ rest) = IsEntry train o × GoesOn train o rest
