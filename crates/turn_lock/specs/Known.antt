-- What passes know, and how calls change that.
use Rattle.std.specs.Prelude.{◌≡◌, ℕ, ◌+◌, Bool, true, false, List, [], ◌∷◌, ◌++◌, Contains, length, max, nat_lt, if◌then◌else◌, Option, Some}

-- no place is in both
abbrev pub AreApart : List ℕ → List ℕ → Type 0
AreApart places others = (place : ℕ) → Contains places place → Contains others place → ⊥

-- What a pass knows: whether it is the first one of its lock, and its caller; the terms, which
-- every state keeps; the entries that the history begins with; the places of those that its caller
-- made, and of those that joined passes brought; the count of entries that it read last; how many
-- of its own tries found the lock taken; the callers that it gave a pass to, and those whose pass
-- was joined into it.
pub record Known (E T : Type 0) : Type 0 where
  pub first : Bool
  pub caller : ℕ
  pub terms : Option T
  pub seen : List E
  pub mine : List ℕ
  pub count : ℕ
  pub tries : ℕ
  pub given : List ℕ
  pub back : List ℕ

module _ {E : Type 0} where
  -- the history begins with these entries
  abbrev pub StartsWith : List E → List E → Type 0
  StartsWith history part = (rest : List E) × (history ≡ part ++ rest)

  abbrev pub longer_of : List E → List E → List E
  longer_of xs ys = if nat_lt (length xs) (length ys) then ys else xs

  abbrev pub shorter_of : List E → List E → List E
  shorter_of xs ys = if nat_lt (length xs) (length ys) then xs else ys

module _ {E T : Type 0} where
  -- what the first pass of a lock begins with
  abbrev pub first_known : ℕ → T → Known E T
  first_known caller terms = record {
    first = true;
    caller = caller;
    terms = Some terms;
    seen = [];
    mine = [];
    count = 0;
    tries = 0;
    given = [];
    back = [];
  }

  -- what a pass begins with that this one gives to a caller
  abbrev pub given_known : Known E T → ℕ → Known E T
  given_known v caller = record {
    first = false;
    caller = caller;
    terms = v.terms;
    seen = v.seen;
    mine = [];
    count = v.count;
    tries = 0;
    given = [];
    back = [];
  }

  -- after a pass was given to a caller
  abbrev pub with_given : Known E T → ℕ → Known E T
  with_given v caller = record v { given = v.given ++ caller ∷ [] }

  -- after another pass was joined
  abbrev pub joined_known : Known E T → Known E T → Known E T
  joined_known v w = record v {
    seen = longer_of v.seen w.seen;
    mine = v.mine ++ w.mine;
    count = max v.count w.count;
    back = v.back ++ w.caller ∷ [];
  }

  -- after a try that found the lock taken
  abbrev pub with_miss : Known E T → Known E T
  with_miss v = record v { tries = v.tries + 1 }

  -- after this count was read
  abbrev pub with_count : Known E T → ℕ → Known E T
  with_count v count = record v { count = count }

  -- each pass that was given is joined again
  abbrev pub IsLast : Known E T → Type 0
  IsLast v = (v.first ≡ true) × ((caller : ℕ) → Contains v.given caller → Contains v.back caller)
