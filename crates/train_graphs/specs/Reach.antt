-- Operations that are reached from one, for private clauses.
use Rattle.std.specs.Prelude.{◌≡◌, ◌⊎◌, ℕ, ◌+◌, List, Bool, true, false, not, length, count_by, Contains, slice_index_or}
use Rattle.disp_model.specs.declared.train.Operation.{Operation}
use Rattle.disp_model.specs.Train.{IsSuccessor}
use Rattle.disp_model.specs.WellFormed.{LeadsTo}

-- some way leads from the one to the other
abbrev pub IsReached : List Operation → ℕ → ℕ → Type 0
IsReached train start s = (n : ℕ) × LeadsTo train n start s

pub record IsMarked (marks : List Bool) (s : ℕ) : Type 0 where
  pub is : slice_index_or marks s false ≡ true

-- how many have no mark
abbrev pub unmarked : List Bool → ℕ
unmarked marks = count_by (λ b. not b) marks

-- these were marked, and those of them that were not went ahead
pub record Visits (numbers : List ℕ) (old new : List Bool) (before after : List ℕ) : Type 0 where
  pub long : length new ≡ length old
  pub marks : (s : ℕ) → Contains numbers s → IsMarked new s
  pub kept : (s : ℕ) → IsMarked old s → IsMarked new s
  pub found : (s : ℕ) → IsMarked new s → IsMarked old s ⊎ (Contains numbers s × Contains after s)
  pub waiting : (x : ℕ) → Contains before x → Contains after x
  pub ahead : (x : ℕ) → Contains after x → Contains before x ⊎ Contains numbers x
  pub work : unmarked new + length after ≡ unmarked old + length before

-- the marks so far: what is marked is reached, and what comes next to it is marked too unless it
-- waits ahead
pub record AreMarksReached (train : List Operation) (start : ℕ) (marks : List Bool) (ahead : List ℕ)
    : Type 0 where
  pub long : length marks ≡ length train
  pub sound : (s : ℕ) → IsMarked marks s → IsReached train start s
  pub waiting : (x : ℕ) → Contains ahead x → IsMarked marks x
  pub first : (s : ℕ) → IsSuccessor train start s → IsMarked marks s
  pub closed : (p : ℕ) → IsMarked marks p → Contains ahead p
      ⊎ ((s : ℕ) → IsSuccessor train p s → IsMarked marks s)
