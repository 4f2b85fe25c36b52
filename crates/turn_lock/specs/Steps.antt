-- What each step tells.
use Rattle.std.specs.Prelude.{◌≡◌, ◌≢◌, ℕ, ◌+◌, ◌≤◌, Bool, true, false, List, [], ◌∷◌, ◌++◌, Option, Some, length, nat_lt, if◌then◌else◌}
use Rattle.atomic_table.specs.Table.{Me, Step, rest}
use Rattle.turn_lock.specs.declared.pass.View.{View}
use Rattle.turn_lock.specs.Known.{StartsWith, AreApart}
use Rattle.turn_lock.specs.Section.{BeginsWith, IsFreshFrom, OwnsAt, AddsOne}

module _ {E T : Type 0} where
  -- after a try that found the lock taken
  abbrev pub missed : View E T → View E T
  missed v = record v { tries = v.tries + 1 }

  -- with the turn, while the history is this
  abbrev pub holding : View E T → List E → View E T
  holding v history = record v { holding = true; held = history }

  -- after the history that ends with its new entry was counted
  abbrev pub entered : View E T → List E → View E T
  entered v history = record v {
    seen = history;
    held = history;
    mine = v.mine ++ length v.held
        ∷ [];
  }

  -- after this count was read
  abbrev pub counted : View E T → ℕ → View E T
  counted v count = record v { count = count; seen = (if v.holding then v.held else v.seen) }

  -- a seat that is not spent has the turn
  abbrev pub HasTurn : View E T → Type 0
  HasTurn v = (v.holding ≡ true) × (v.spent ≡ false)

  abbrev pub released : View E T → View E T
  released v = record v { holding = false; held = [] }

module _ {E : Type 0} where
  -- the places of a pass after its section
  abbrev pub places_after : List ℕ → List E → List E → List ℕ
  places_after mine before after = if nat_lt (length before) (length after) then mine
      ++ length before ∷ [] else mine

module _ {E T : Type 0} (named : E → Option ℕ) where
  -- where a section of this seat begins
  abbrev pub Begins : View E T → List E → Type 0
  Begins v history = BeginsWith named v.caller v.seen v.count history

  abbrev pub Owns : View E T → Type 0
  Owns v = OwnsAt named v.caller v.seen v.mine v.back

  -- what is left of a view with the turn once the history, which has become `after`, is counted
  pub record HasCounted (v : View E T) (grew : Bool) (after : List E) (w : View E T) : Type 0 where
    pub knows : w ≡ record v {
      seen = after;
      held = after;
      mine = (if grew then v.mine ++ length v.held ∷ [] else v.mine);
      count = w.count;
    }
    pub count : v.count ≤ w.count
    pub owns : Owns w

  -- what is left of a view with the turn once the turn is given back, and the history has become
  -- `after`
  pub record GaveBack (v : View E T) (grew : Bool) (after : List E) (w : View E T) : Type 0 where
    pub knows : w ≡ record v {
      seen = after;
      mine = (if grew then v.mine ++ length v.held ∷ [] else v.mine);
      count = w.count;
      holding =
          false;
      held = [];
    }
    pub count : v.count ≤ w.count
    pub owns : Owns w

  -- the same, of a section that took the history there
  pub record Left (v : View E T) (before after : List E) (w : View E T) : Type 0 where
    pub begins : Begins v before
    pub adds : AddsOne named v.caller before after
    pub knows : w ≡ record v {
      seen = after;
      mine = places_after v.mine before after;
      count = w.count;
      holding = false;
      held = [];
    }
    pub count : v.count ≤ w.count
    pub owns : Owns w

abbrev pub Sat : Type 0 → Type 0 → Type 0 → Type 0
Sat S E T = Me (Option S) (View E T)

module _ {S E T : Type 0} (terms : S → T) (kept : S → Type 0) where
  -- the state has the terms of the view and keeps what states keep
  abbrev pub Agrees : View E T → S → Type 0
  Agrees v state = (v.terms ≡ Some (terms state)) × kept state

module _ {S E T : Type 0} (entries : S → List E) (named : E → Option ℕ) (terms : S → T)
    (kept : S → Type 0) where
  -- the turn was taken, and the state with it
  pub record Took (m m' : Sat S E T) : Type 0 where
    pub state : S
    pub slot : m'.1 ≡ (0, Some state) ∷ m.1
    pub view : m'.0 ≡ holding m.0 (entries state)
    pub begins : Begins named m.0 (entries state)
    pub agrees : Agrees terms kept m.0 state

  abbrev pub Missed : Sat S E T → Sat S E T → Type 0
  Missed m m' = (m'.1 ≡ m.1) × (m'.0 ≡ missed m.0)

  abbrev pub Takes : Step (Option S) → Sat S E T → ℕ → Sat S E T → Type 0
  Takes st m r m' = (r ≡ 0 → Took m m') × (r ≢ 0 → Missed m m' × (r ≡ 1))

  abbrev pub Enters : Step (Option S) → Sat S E T → ℕ → Sat S E T → Type 0
  Enters st m r m' = (m'.1 ≡ m.1) × ((state : S) → m.1 ≡ (0, Some state) ∷ []
      → m'.0 ≡ entered m.0 (entries state)) × Owns named m'.0

  abbrev pub Counts : Step (Option S) → Sat S E T → ℕ → Sat S E T → Type 0
  Counts st m r m' = (m'.1 ≡ m.1) × (m'.0 ≡ counted m.0 r) × (length m.0.seen ≤ r) × (m.0.count ≤ r)
      × Owns named m'.0

  abbrev pub Releases : Step (Option S) → Sat S E T → ℕ → Sat S E T → Type 0
  Releases st m r m' = (m'.1 ≡ rest m.1) × (m'.0 ≡ released m.0)

  abbrev pub Settles : Step (Option S) → Sat S E T → ℕ → Sat S E T → Type 0
  Settles st m r m' =
      (m'.1 ≡ m.1) × (m'.0 ≡ m.0) × Owns named m.0 × AreApart m.0.met.kept m.0.met.brought
      × StartsWith m.0.met.longer m.0.met.shorter
      × IsFreshFrom named m.0.caller m.0.met.past m.0.met.longer
