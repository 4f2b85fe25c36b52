-- Walks that name of each train only where they enter it and where they leave it.
use Rattle.std.specs.Prelude.{◌≡◌, ℕ, ◌==◌, ◌&&◌, not, Bool, true, List, [], ◌∷◌, Option, Some, None, All, map, slice_get, if◌then◌else◌}
use Rattle.disp_model.specs.declared.train.Op.{Op}
use Rattle.disp_model.specs.declared.problem.Problem.{Problem}
use Rattle.disp_model.specs.Numbers.{number_of}
use Rattle.event_windows.specs.Operations.{HasOperation}

-- whether an operation does not stand between two others of its train
abbrev pub is_end : Option Op → Op → Option Op → Bool
is_end None o next = true
is_end (Some before) o None = true
is_end (Some before) o (Some next) = not ((before.train == o.train) && (o.train == next.train))

-- the operations of a walk, behind one, that do not stand between two others of their train
abbrev pub ends_from : Option Op → List Op → List Op
ends_from before [] = []
ends_from before (o ∷ rest) = if is_end before o (slice_get rest 0) then o ∷ ends_from (Some o) rest
    else ends_from (Some o) rest

abbrev pub ends_of : List Op → List Op
ends_of walk = ends_from None walk

-- the operations of a problem that have these numbers
pub record HaveNumbers (problem : Problem) (walk : List Op) (numbers : List ℕ) : Type 0 where
  pub there : All (HasOperation problem) walk
  pub are : map (number_of problem) walk ≡ numbers

-- the ends of the walk over these numbers
abbrev pub AreEndsOver : Problem → List ℕ → List Op → Type 0
AreEndsOver problem numbers ends = (walk : List Op) → HaveNumbers problem walk numbers
    → ends ≡ ends_of walk

-- no three operations of one train follow each other
abbrev pub NamesEnds : List Op → Type 0
NamesEnds [] = Unit {0}
NamesEnds (a ∷ []) = Unit {0}
NamesEnds (a ∷ b ∷ []) = Unit {0}
NamesEnds (a ∷ b ∷ c ∷ rest) = (a.train ≡ b.train → b.train ≡ c.train → ⊥)
    × NamesEnds (b ∷ c ∷ rest)
