-- What a section finds, may do and leaves.
use Rattle.std.specs.Prelude.{◌≡◌, ◌≢◌, ℕ, ◌<◌, ◌≤◌, ◌⊎◌, List, [], ◌∷◌, ◌++◌, Option, None, Some, Contains, length, slice_get}
use Rattle.std.specs.Fn.{Once, FnOnceTakesAtMut, FnOnceReturnsAtMut}
use Rattle.std.specs.Borrow.{MutBor}
use Rattle.turn_lock.specs.Known.{Known, StartsWith}

module _ {E : Type 0} (named : E → Option ℕ) where
  -- past so many entries the history names this caller nowhere
  abbrev pub IsFreshFrom : ℕ → ℕ → List E → Type 0
  IsFreshFrom caller past history = (place : ℕ) (e : E) → past ≤ place
      → slice_get history place ≡ Some e → named e ≢ Some caller

  -- The history begins with these entries, and past them none names the caller. It has no fewer
  -- entries than this count.
  pub record BeginsWith (caller : ℕ) (seen : List E) (count : ℕ) (history : List E) : Type 0 where
    pub starts : StartsWith history seen
    pub long : count ≤ length history
    pub fresh : IsFreshFrom caller (length seen) history

  -- the entry names the caller or none
  abbrev pub IsOf : ℕ → E → Type 0
  IsOf caller e = (named e ≡ None) ⊎ (named e ≡ Some caller)

  -- one entry more
  abbrev pub AddsEntry : ℕ → List E → List E → Type 0
  AddsEntry caller before after = (e : E) × (after ≡ before ++ e ∷ []) × IsOf caller e

  -- one entry more at most, which names this caller or none
  abbrev pub AddsOne : ℕ → List E → List E → Type 0
  AddsOne caller before after = (after ≡ before) ⊎ AddsEntry caller before after

  -- each entry seen that names the caller stands at one of its places, and all these places were
  -- seen
  pub record OwnsAt (caller : ℕ) (seen : List E) (mine back : List ℕ) : Type 0 where
    pub own : (place : ℕ) (e : E) → slice_get seen place ≡ Some e → named e ≡ Some caller
        → Contains mine place
    pub within : (place : ℕ) → Contains mine place → place < length seen
    pub others : (place : ℕ) (e : E) (other : ℕ) → Contains mine place
        → slice_get seen place ≡ Some e → named e ≡ Some other → (other ≡ caller)
        ⊎ Contains back other

module _ {E T : Type 0} (named : E → Option ℕ) where
  abbrev pub OwnsPlaces : Known E T → Type 0
  OwnsPlaces v = OwnsAt named v.caller v.seen v.mine v.back

  -- what a section that added nothing leaves of what its pass knew, or one that added an entry,
  -- whose place is the pass's last
  abbrev pub Knows : Known E T → List E → List E → Known E T → Type 0
  Knows v before after w =
      ((after ≡ before) × (w ≡ record v { seen = after; count = w.count; tries = w.tries }))
      ⊎ (AddsEntry named v.caller before after
      × (w ≡ record v {
        seen = after;
        mine = v.mine ++ length before ∷ [];
        count = w.count;
        tries = w.tries;
      }))

module _ {S E T : Type 0} (entries : S → List E) (named : E → Option ℕ) (terms : S → T)
    (kept : S → Type 0) where
  -- a state that a section may find
  pub record MayFindAt (caller : ℕ) (agreed : Option T) (seen : List E) (count : ℕ) (state : S)
      : Type 0 where
    pub agrees : agreed ≡ Some (terms state)
    pub is_kept : kept state
    pub begins : BeginsWith named caller seen count (entries state)

  abbrev pub MayFind : Known E T → S → Type 0
  MayFind v state = MayFindAt v.caller v.terms v.seen v.count state

  -- a state that a section of this caller may leave of another: one entry more at most
  pub record MayLeave (caller : ℕ) (before after : S) : Type 0 where
    pub agrees : terms after ≡ terms before
    pub is_kept : kept after
    pub adds : AddsOne named caller (entries before) (entries after)

  -- what a section that found one state and left another did, and what its pass knows then
  pub record Ran (v : Known E T) (before after : S) (w : Known E T) : Type 0 where
    pub found : MayFind v before
    pub left : MayLeave v.caller before after
    pub knows : Knows named v (entries before) (entries after) w
    pub count : v.count ≤ w.count
    pub tries : v.tries ≤ w.tries
    pub owns : OwnsPlaces named w

  module _ {F R : Type 0} (calls : Once F (MutBor S × Unit {0}) (R × (MutBor S × Unit {0}))) where
    -- the section may run wherever it can begin, and leaves there what it may
    pub record MayRunFrom (section : F) (caller : ℕ) (agreed : Option T) (seen : List E) (count : ℕ)
        : Type 0 where
      pub takes : (state : S) → MayFindAt caller agreed seen count state
          → FnOnceTakesAtMut calls section state
      pub leaves : (state : S) (answer : R) (after : S) → MayFindAt caller agreed seen count state
          → FnOnceReturnsAtMut calls section state answer after → MayLeave caller state after

    abbrev pub MayRun : F → Known E T → Type 0
    MayRun section v = MayRunFrom section v.caller v.terms v.seen v.count

    -- the section ran on a state, alone, and gave this answer
    abbrev pub RunsOnce : F → Known E T → R → Known E T → Type 0
    RunsOnce section v answer w = (before : S) × (after : S)
        × FnOnceReturnsAtMut calls section before answer after × Ran v before after w
