-- Texts that are put one after the other.
use Rattle.std.specs.Prelude.{◌≡◌, ◌≢◌, ◌⊎◌, ℕ, ◌<◌, ◌≤◌, List, [], ◌∷◌, ◌++◌}
use Rattle.text_puts.specs.declared.put.Put.{Put}
use Rattle.disp_outside.specs.States.{Holdings, Counts}
use Rattle.text_puts.specs.Outside.{HoldsBytes}

-- one of these puts is under the name
abbrev pub PutsUnder : List ℕ → List Put → Type 0
PutsUnder name [] = ⊥
PutsUnder name (put ∷ puts) = (put.name ≡ name) ⊎ PutsUnder name puts

-- what names hold behind these puts, one after the other, as far as is told: each put's name its
-- bytes, unless a later one is under the same name
abbrev pub HoldTexts : List Put → Holdings → Type 0
HoldTexts [] holds = Unit {0}
HoldTexts (put ∷ puts) holds =
    ((PutsUnder put.name puts → ⊥) → HoldsBytes holds put.name put.bytes) × HoldTexts puts holds

-- and every other name what it held
pub record StandsAfter (puts : List Put) (old new : Holdings) : Type 0 where
  pub texts : HoldTexts puts new
  pub others : (name : List ℕ) → (PutsUnder name puts → ⊥) → new name ≡ old name

-- so many of these puts were done
pub record PutsSome (puts : List Put) (old new : Holdings) : Type 0 where
  pub done : List Put
  pub put : Put
  pub rest : List Put
  pub parts : puts ≡ done ++ put ∷ rest
  pub stands : StandsAfter done old new

-- and the next one failed, which was counted under its name: there may be anything now, and all
-- other names hold what they held before it
pub record PutMisses (puts : List Put) (old new : Holdings) (old_counts new_counts : Counts) :
    Type 0 where
  pub before : Holdings
  pub some : PutsSome puts old before
  pub held : (name : List ℕ) → name ≢ some.put.name → new name ≡ before name
  pub fault : old_counts some.put.name < new_counts some.put.name
  pub counts : (name : List ℕ) → name ≢ some.put.name → new_counts name ≡ old_counts name

-- a name under which nothing is put keeps its count of failed puttings, and what it holds; its
-- count never falls
pub record PutsOnly (puts : List Put) (old_holds new_holds : Holdings)
    (old_counts new_counts : Counts) (name : List ℕ) : Type 0 where
  pub never_falls : old_counts name ≤ new_counts name
  pub stays : (PutsUnder name puts → ⊥) → new_counts name ≡ old_counts name
  pub held : (PutsUnder name puts → ⊥) → new_holds name ≡ old_holds name
