-- Texts that are put one after the other.
use Rattle.std.proofs.Common.{
  ◌≡◌,
  ◌≢◌,
  ◌∙◌,
  ◌<◌,
  ◌≤◌,
  ℕ,
  suc,
  List,
  [],
  ◌∷◌,
  ◌++◌,
  length,
  take,
  drop,
  get_or,
  Option,
  Some,
  refl,
  sym,
  ap,
  subst,
  inl,
  inr,
  arith,
}
use Rattle.std.specs.Prelude.{IfSome}
use Rattle.disp_outside.specs.declared.shelf.PutNo.{PutNo}
use Rattle.disp_outside.specs.declared.shelf.PutNo.TheVariants.{Failed, Memory}
use Rattle.text_puts.specs.declared.put.Put.{Put}
use Rattle.disp_outside.specs.States.{Holdings, Counts}
use Rattle.text_puts.specs.Outside.{HoldsBytes}
use Rattle.text_puts.specs.Puts.{PutsUnder, HoldTexts, StandsAfter, PutsSome, PutMisses, PutsOnly}
use Rattle.text_puts.proofs.Counting.{never_falls, same_all, parts_at}

-- ---- under which names

pub under_front : (name : List ℕ) (puts rest : List Put) → PutsUnder name puts
    → PutsUnder name (puts ++ rest)
under_front name [] rest under = absurd under
under_front name (put ∷ puts) rest (inl is) = inl is
under_front name (put ∷ puts) rest (inr under) = inr (under_front name puts rest under)

pub under_last : (name : List ℕ) (puts rest : List Put) → PutsUnder name rest
    → PutsUnder name (puts ++ rest)
under_last name [] rest under = under
under_last name (put ∷ puts) rest under = inr (under_last name puts rest under)

under_here : (puts : List Put) (put : Put) (rest : List Put)
    → PutsUnder put.name (puts ++ put ∷ rest)
under_here [] put rest = inl refl
under_here (first ∷ puts) put rest = inr (under_here puts put rest)

-- no other put is under the name of one
unlike : (name : List ℕ) (puts : List Put) (put : Put) (rest : List Put)
    → (PutsUnder name (puts ++ put ∷ rest) → ⊥) → name ≢ put.name
unlike name puts put rest none is =
    none (subst (λ (n : List ℕ). PutsUnder n (puts ++ put ∷ rest)) (sym is)
    (under_here puts put rest))

-- ---- one more

kept_texts : (puts rest : List Put) (mid new : Holdings)
    → ((name : List ℕ) → (PutsUnder name rest → ⊥) → new name ≡ mid name)
    → HoldTexts rest new → HoldTexts puts mid → HoldTexts (puts ++ rest) new
kept_texts [] rest mid new same last texts = last
kept_texts (first ∷ puts) rest mid new same last texts = (
  λ none. subst (λ (found : Option (Option (List ℕ))). IfSome found
      (λ file. file ≡ Some first.bytes))
      (sym (same first.name (λ under. none (under_last first.name puts rest under))))
      (texts.0 (λ under. none (under_front first.name puts rest under))),
  kept_texts puts rest mid new same last texts.1,
)

pub stands_none : (old : Holdings) → StandsAfter [] old old
stands_none old = record { texts = tt; others = λ name none. refl }

-- these puts, and those of a list behind them
pub stands_both : (puts rest : List Put) (old mid new : Holdings) → StandsAfter puts old mid
    → StandsAfter rest mid new → StandsAfter (puts ++ rest) old new
stands_both puts rest old mid new first second = record {
  texts = kept_texts puts rest mid new second.others second.texts first.texts;
  others = λ name none. second.others name (λ under. none (under_last name puts rest under))
      ∙ first.others name (λ under. none (under_front name puts rest under));
}

pub stands_more : (puts : List Put) (put : Put) (old mid new : Holdings) → StandsAfter puts old mid
    → HoldsBytes new put.name put.bytes
    → ((name : List ℕ) → name ≢ put.name → new name ≡ mid name)
    → StandsAfter (puts ++ put ∷ []) old new
stands_more puts put old mid new stands holds same =
    stands_both puts (put ∷ []) old mid new stands (record {
      texts = (λ none. holds, tt);
      others = λ name none. same name (λ is. none (inl (sym is)));
    })

-- the next one, whose name and bytes a call was given
pub stands_next : (puts : List Put) (put : Put) (old mid new : Holdings) (name bytes : List ℕ)
    → name ≡ put.name → bytes ≡ put.bytes → StandsAfter puts old mid → HoldsBytes new name bytes
    → ((other : List ℕ) → other ≢ name → new other ≡ mid other)
    → StandsAfter (puts ++ put ∷ []) old new
stands_next puts put old mid new name bytes named filled stands holds same =
    stands_more puts put old mid new stands
    (subst (λ (n : List ℕ). HoldsBytes new n put.bytes) named
    (subst (λ (b : List ℕ). HoldsBytes new name b) filled holds))
    (subst (λ (n : List ℕ). (other : List ℕ) → other ≢ n → new other ≡ mid other) named same)

-- ---- behind a run that changed no file

pub stands_before : (puts : List Put) (old mid new : Holdings)
    → ((name : List ℕ) → mid name ≡ old name) → StandsAfter puts mid new → StandsAfter puts old new
stands_before puts old mid new same h = record {
  texts = h.texts;
  others = λ name none. h.others name none ∙ same name;
}

abbrev pub some_before : (puts : List Put) (old mid new : Holdings)
    → ((name : List ℕ) → mid name ≡ old name) → PutsSome puts mid new → PutsSome puts old new
some_before puts old mid new same h = record {
  done = h.done;
  put = h.put;
  rest = h.rest;
  parts = h.parts;
  stands = stands_before h.done old mid new same h.stands;
}

pub misses_before : (puts : List Put) (old mid new : Holdings)
    (old_counts mid_counts new_counts : Counts)
    → ((name : List ℕ) → mid name ≡ old name)
    → ((name : List ℕ) → mid_counts name ≡ old_counts name)
    → PutMisses puts mid new mid_counts new_counts → PutMisses puts old new old_counts new_counts
misses_before puts old mid new old_counts mid_counts new_counts same counts h = record {
  before = h.before;
  some = some_before puts old mid h.before same h.some;
  held = h.held;
  fault = rw (← counts h.some.put.name) h.fault;
  counts = λ name unlike. h.counts name unlike ∙ counts name;
}

-- ---- what is said of one name

pub only_all : (puts : List Put) (old new : Holdings) (old_counts new_counts : Counts)
    → StandsAfter puts old new → ((name : List ℕ) → new_counts name ≡ old_counts name)
    → (name : List ℕ) → PutsOnly puts old new old_counts new_counts name
only_all puts old new old_counts new_counts stands same name = record {
  never_falls = omega (arith, same name);
  stays = λ none. same name;
  held = stands.others name;
}

held_some : (puts : List Put) (old new : Holdings) → PutsSome puts old new
    → (name : List ℕ) → (PutsUnder name puts → ⊥) → new name ≡ old name
held_some puts old new some name none = some.stands.others name (λ under. none
    (subst (PutsUnder name) (sym some.parts) (under_front name some.done (some.put ∷ some.rest)
    under)))

pub only_some : (puts : List Put) (old new : Holdings) (old_counts new_counts : Counts)
    → PutsSome puts old new → ((name : List ℕ) → new_counts name ≡ old_counts name)
    → (name : List ℕ) → PutsOnly puts old new old_counts new_counts name
only_some puts old new old_counts new_counts some same name = record {
  never_falls = omega (arith, same name);
  stays = λ none. same name;
  held = held_some puts old new some name;
}

pub only_misses : (puts : List Put) (old new : Holdings) (old_counts new_counts : Counts)
    → PutMisses puts old new old_counts new_counts
    → (name : List ℕ) → PutsOnly puts old new old_counts new_counts name
only_misses puts old new old_counts new_counts h name = record {
  never_falls = never_falls h.some.put.name old_counts new_counts (omega (arith, h.fault))
      h.counts name;
  stays = λ none. h.counts name (other none);
  held = λ none. h.held name (other none) ∙ held_some puts old h.before h.some name none;
}
  where
    other : (PutsUnder name puts → ⊥) → name ≢ h.some.put.name
    other none = unlike name h.some.done h.some.put h.some.rest
        (λ under. none (subst (PutsUnder name) (sym h.some.parts) under))

-- of puts and those behind them, where the first ones were done
pub only_both : (puts rest : List Put) (old mid new : Holdings)
    (old_counts mid_counts new_counts : Counts) → StandsAfter puts old mid
    → ((name : List ℕ) → mid_counts name ≡ old_counts name) → (name : List ℕ)
    → PutsOnly rest mid new mid_counts new_counts name
    → PutsOnly (puts ++ rest) old new old_counts new_counts name
only_both puts rest old mid new old_counts mid_counts new_counts stands same name only = record {
  never_falls = omega (arith, same name, only.never_falls);
  stays = λ none. only.stays (λ under. none (under_last name puts rest under)) ∙ same name;
  held = λ none. only.held (λ under. none (under_last name puts rest under))
      ∙ stands.others name (λ under. none (under_front name puts rest under));
}

-- of puts and those behind them, where none of these was begun
pub only_front : (puts rest : List Put) (old new : Holdings) (old_counts new_counts : Counts)
    (name : List ℕ) → PutsOnly puts old new old_counts new_counts name
    → PutsOnly (puts ++ rest) old new old_counts new_counts name
only_front puts rest old new old_counts new_counts name only = record {
  never_falls = only.never_falls;
  stays = λ none. only.stays (λ under. none (under_front name puts rest under));
  held = λ none. only.held (λ under. none (under_front name puts rest under));
}

-- ---- the next one fails

same_texts : (puts : List Put) (mid new : Holdings) → ((name : List ℕ) → new name ≡ mid name)
    → HoldTexts puts mid → HoldTexts puts new
same_texts [] mid new same texts = tt
same_texts (put ∷ puts) mid new same texts = (
  λ none. subst (λ (found : Option (Option (List ℕ))). IfSome found (λ file. file ≡ Some put.bytes))
      (sym (same put.name)) (texts.0 none),
  same_texts puts mid new same texts.1,
)

pub stands_same : (puts : List Put) (old mid new : Holdings)
    → ((name : List ℕ) → new name ≡ mid name)
    → StandsAfter puts old mid → StandsAfter puts old new
stands_same puts old mid new same h = record {
  texts = same_texts puts mid new same h.texts;
  others = λ name none. same name ∙ h.others name none;
}

abbrev some_at : (puts : List Put) (i : ℕ) (put : Put) (old new : Holdings) → i < length puts
    → put ≡ get_or puts i put → StandsAfter (take i puts) old new → PutsSome puts old new
some_at puts i put old new within is stands = record {
  done = take i puts;
  put = put;
  rest = drop (suc i) puts;
  parts = parts_at puts i put within
      ∙ ap (λ (p : Put). take i puts ++ p ∷ drop (suc i) puts) (sym is);
  stands = stands;
}

-- a putting that has not succeeded: what it said, what was held and counted before it and behind it
pub record NextFails (puts : List Put) (i : ℕ) (put : Put) (refused : PutNo)
    (old mid new : Holdings)
    (old_counts mid_counts new_counts : Counts) : Type 0 where
  pub within : i < length puts
  pub is : put ≡ get_or puts i put
  pub stands : StandsAfter (take i puts) old mid
  pub same : (name : List ℕ) → mid_counts name ≡ old_counts name
  pub held : (name : List ℕ) → name ≢ put.name → new name ≡ mid name
  pub counts : (name : List ℕ) → name ≢ put.name → new_counts name ≡ mid_counts name
  pub counted : mid_counts put.name ≤ new_counts put.name
  pub rises : refused ≡ Failed → mid_counts put.name < new_counts put.name
  pub risen : mid_counts put.name < new_counts put.name → refused ≡ Failed
  pub memory : refused ≡ Memory → new put.name ≡ mid put.name

-- the same, where a call was given the name
pub next_fails : (puts : List Put) (i : ℕ) (put : Put) (refused : PutNo) (old mid new : Holdings)
    (old_counts mid_counts new_counts : Counts) (name : List ℕ) → name ≡ put.name
    → i < length puts → put ≡ get_or puts i put → StandsAfter (take i puts) old mid
    → ((other : List ℕ) → mid_counts other ≡ old_counts other)
    → ((other : List ℕ) → other ≢ name → new other ≡ mid other)
    → ((other : List ℕ) → other ≢ name → new_counts other ≡ mid_counts other)
    → mid_counts name ≤ new_counts name → (refused ≡ Failed → mid_counts name < new_counts name)
    → (mid_counts name < new_counts name → refused ≡ Failed)
    → (refused ≡ Memory → new name ≡ mid name)
    → NextFails puts i put refused old mid new old_counts mid_counts new_counts
next_fails puts i put refused old mid new old_counts mid_counts new_counts name named within is
    stands
    same held counts counted rises risen memory = record {
      within = within;
      is = is;
      stands = stands;
      same = same;
      held = subst (λ (n : List ℕ). (other : List ℕ) → other ≢ n → new other ≡ mid other)
          named held;
      counts = subst (λ (n : List ℕ). (other : List ℕ) → other ≢ n
          → new_counts other ≡ mid_counts other) named counts;
      counted = subst (λ (n : List ℕ). mid_counts n ≤ new_counts n) named counted;
      rises = subst (λ (n : List ℕ). refused ≡ Failed → mid_counts n < new_counts n) named rises;
      risen = subst (λ (n : List ℕ). mid_counts n < new_counts n → refused ≡ Failed) named risen;
      memory = subst (λ (n : List ℕ). refused ≡ Memory → new n ≡ mid n) named memory;
    }

module _ (puts : List Put) (i : ℕ) (put : Put) (refused : PutNo) (old mid new : Holdings)
    (old_counts mid_counts new_counts : Counts)
    (h : NextFails puts i put refused old mid new old_counts mid_counts new_counts) where
  pub misses_at : refused ≡ Failed → PutMisses puts old new old_counts new_counts
  misses_at failed = record {
    before = mid;
    some = some_at puts i put old mid h.within h.is h.stands;
    held = h.held;
    fault = omega (arith, h.same put.name, h.rises failed);
    counts = λ name apart. h.counts name apart ∙ h.same name;
  }

  pub unput_at : refused ≡ Memory → PutsSome puts old new
  unput_at memory = some_at puts i put old new h.within h.is
      (stands_same (take i puts) old mid new (same_all put.name mid new (h.memory memory) h.held)
      h.stands)

  counts_stay : refused ≡ Memory → (name : List ℕ) → new_counts name ≡ old_counts name
  counts_stay memory name =
      same_all put.name mid_counts new_counts
      (omega (
        arith,
        h.counted,
        (λ (lt : mid_counts put.name < new_counts put.name).
            unlike_no (sym (h.risen lt) ∙ memory)),
      )) h.counts name ∙ h.same name
    where
      unlike_no : Failed ≡ Memory → ⊥
      unlike_no e = cc

  pub only_at : (name : List ℕ) → PutsOnly puts old new old_counts new_counts name
  only_at name = go refused refl
    where
      go : (other : PutNo) → refused ≡ other → PutsOnly puts old new old_counts new_counts name
      go Failed is = only_misses puts old new old_counts new_counts (misses_at is) name
      go Memory is =
          only_some puts old new old_counts new_counts (unput_at is) (counts_stay is) name
