-- The times that are kept of operations, one fixing after another.
use Rattle.std.proofs.Common.{◌≡◌, ◌∙◌, ℕ, ◌+◌, ◌<◌, List, [], ◌∷◌, ◌++◌, length, take, get_or, max, Option, Some, None, Bool, true, false, cond, refl, sym, ap, subst, inl, inr, arith}
use Rattle.std.specs.Prelude.{◌==◌, ◌&&◌, unwrap_or}
use Rattle.std.specs.BTreeMap.{is_at}
use Rattle.std.specs.Cmp.{nat_eq_equiv}
use Rattle.std.specs.declared.cmp.Ordering.{Ordering}
use Rattle.std.specs.declared.cmp.Ordering.TheVariants.{Less, Equal, Greater}
use Rattle.std.specs.Ordering.{is_eq, nat_cmp}
use Rattle.std.proofs.lemmas.Bool.{cases_Bool, false≢true, eqb-true}
use Rattle.std.proofs.lemmas.List.{take_more}
use Rattle.std.proofs.lemmas.Map.Lookups.{exact_pairs, exact_unsigned}
use Rattle.disp_model.specs.declared.train.Op.{Op}
use Rattle.disp_model.specs.declared.fixing.Fixing.{Fixing}
use Rattle.disp_model.specs.declared.fixing.Fixing.TheVariants.{Started, Chosen, NotBefore}
use Rattle.disp_model.specs.Walks.{fixed_start, not_before}
use Rattle.node_facts.specs.Windows.{start_fixed_by, bar_by}
use Rattle.node_facts.specs.Indexed.{numbers_cmp, time_in, AreStarts, AreBars}

-- ---- one fixing more

abbrev first_of : Option ℕ → Option ℕ → Option ℕ
first_of None other = other
first_of (Some time) other = Some time

first_none : (time : Option ℕ) → first_of time None ≡ time
first_none None = refl
first_none (Some time) = refl

chosen : (b : Bool) (time : ℕ) (whole rest other : Option ℕ) → whole ≡ first_of rest other → cond b (Some time) whole ≡ first_of (cond b (Some time) rest) other
chosen true time whole rest other e = refl
chosen false time whole rest other e = e

start_more : (fixings : List Fixing) (fixing : Fixing) (o : Op) → fixed_start (fixings ++ fixing ∷ []) o ≡ first_of (fixed_start fixings o) (start_fixed_by fixing o)
start_more [] (Started t p time) o = refl
start_more [] (Chosen t p next) o = refl
start_more [] (NotBefore t p time) o = refl
start_more (Started t p time ∷ fixings) fixing o = chosen ((t == o.train) && (p == o.op)) time (fixed_start (fixings ++ fixing ∷ []) o) (fixed_start fixings o) (start_fixed_by fixing o) (start_more fixings fixing o)
start_more (Chosen t p next ∷ fixings) fixing o = start_more fixings fixing o
start_more (NotBefore t p time ∷ fixings) fixing o = start_more fixings fixing o

raised : (b : Bool) (time whole rest other : ℕ) → whole ≡ max rest other → cond b (max time whole) whole ≡ max (cond b (max time rest) rest) other
raised true time whole rest other e = omega (arith, e)
raised false time whole rest other e = e

alone : (b : Bool) (time : ℕ) → cond b (max time 0) 0 ≡ max 0 (cond b time 0)
alone true time = omega arith
alone false time = refl

bar_more : (fixings : List Fixing) (fixing : Fixing) (o : Op) → not_before (fixings ++ fixing ∷ []) o ≡ max (not_before fixings o) (bar_by fixing o)
bar_more [] (Started t p time) o = refl
bar_more [] (Chosen t p next) o = refl
bar_more [] (NotBefore t p time) o = alone ((t == o.train) && (p == o.op)) time
bar_more (Started t p time ∷ fixings) fixing o = bar_more fixings fixing o
bar_more (Chosen t p next ∷ fixings) fixing o = bar_more fixings fixing o
bar_more (NotBefore t p time ∷ fixings) fixing o = raised ((t == o.train) && (p == o.op)) time (not_before (fixings ++ fixing ∷ []) o) (not_before fixings o) (bar_by fixing o) (bar_more fixings fixing o)

-- ---- keys

equal : (r : Ordering) → is_eq r ≡ true → r ≡ Equal
equal Less h = absurd (false≢true h)
equal Equal h = refl
equal Greater h = absurd (false≢true h)

both_true : (a b : Bool) → (a && b) ≡ true → (a ≡ true) × (b ≡ true)
both_true true b h = (refl, h)
both_true false b h = absurd (false≢true h)

-- what is kept of other operations stays
abbrev pub OthersStay : ℕ → ℕ → List ((ℕ × ℕ) × ℕ) → List ((ℕ × ℕ) × ℕ) → Type 0
OthersStay t p old new = (u q : ℕ) → is_at (numbers_cmp (t, p)) (u, q) ≡ false → time_in new u q ≡ time_in old u q

apart : (t p : ℕ) (o : Op) → ((t == o.train) && (p == o.op)) ≡ false → is_at (numbers_cmp (t, p)) (o.train, o.op) ≡ false
apart t p o not = elim (cases_Bool (is_at (numbers_cmp (t, p)) (o.train, o.op))) [
  | inl is ↦
      let same = exact_pairs nat_cmp nat_cmp exact_unsigned exact_unsigned (t, p) (o.train, o.op) (equal _ is) in
      let here = subst (λ (k : ℕ × ℕ). ((t == k.0) && (p == k.1)) ≡ true) same (own t p) in
      absurd (false≢true (sym not ∙ here))
  | inr other ↦ other
]
  where
    join : (a b : Bool) → a ≡ true → b ≡ true → (a && b) ≡ true
    join a b one other = rw (one, other) refl

    own : (u q : ℕ) → ((u == u) && (q == q)) ≡ true
    own u q = join (u == u) (q == q) (nat_eq_equiv.refl u) (nat_eq_equiv.refl q)

-- ---- starts

starts_by : (fixings : List Fixing) (fixing : Fixing) (old new : List ((ℕ × ℕ) × ℕ)) → AreStarts fixings old → ((o : Op) → time_in new o.train o.op ≡ first_of (time_in old o.train o.op) (start_fixed_by fixing o)) → AreStarts (fixings ++ fixing ∷ []) new
starts_by fixings fixing old new before goes = record { are = λ o. goes o ∙ ap (λ (time : Option ℕ). first_of time (start_fixed_by fixing o)) (before.are o) ∙ sym (start_more fixings fixing o) }

-- what is kept of an operation's numbers is kept of it
at_numbers : (times : List ((ℕ × ℕ) × ℕ)) (t p : ℕ) (o : Op) (found : Option ℕ) → ((t == o.train) && (p == o.op)) ≡ true → time_in times t p ≡ found → time_in times o.train o.op ≡ found
at_numbers times t p o found is e =
    let both = both_true (t == o.train) (p == o.op) is in
    subst (λ (q : ℕ). time_in times o.train q ≡ found) (eqb-true p o.op both.1) (subst (λ (u : ℕ). time_in times u p ≡ found) (eqb-true t o.train both.0) e)

-- an operation is fixed to a time of which none was kept
pub starts_noted : (fixings : List Fixing) (t p time : ℕ) (old new : List ((ℕ × ℕ) × ℕ)) → AreStarts fixings old → time_in old t p ≡ None → time_in new t p ≡ Some time → OthersStay t p old new → AreStarts (fixings ++ Started t p time ∷ []) new
starts_noted fixings t p time old new before none own others = starts_by fixings (Started t p time) old new before (λ o. by o ((t == o.train) && (p == o.op)) refl)
  where
    by : (o : Op) (b : Bool) → ((t == o.train) && (p == o.op)) ≡ b → time_in new o.train o.op ≡ first_of (time_in old o.train o.op) (cond b (Some time) None)
    by o true is = at_numbers new t p o (Some time) is own ∙ ap (λ (found : Option ℕ). first_of found (Some time)) (sym (at_numbers old t p o None is none))
    by o false not = others o.train o.op (apart t p o not) ∙ sym (first_none (time_in old o.train o.op))

-- or of which one is kept
pub starts_again : (fixings : List Fixing) (t p time k : ℕ) (times : List ((ℕ × ℕ) × ℕ)) → AreStarts fixings times → time_in times t p ≡ Some k → AreStarts (fixings ++ Started t p time ∷ []) times
starts_again fixings t p time k times before kept = starts_by fixings (Started t p time) times times before (λ o. by o ((t == o.train) && (p == o.op)) refl)
  where
    by : (o : Op) (b : Bool) → ((t == o.train) && (p == o.op)) ≡ b → time_in times o.train o.op ≡ first_of (time_in times o.train o.op) (cond b (Some time) None)
    by o true is = let e = at_numbers times t p o (Some k) is kept in e ∙ ap (λ (found : Option ℕ). first_of found (Some time)) (sym e)
    by o false not = sym (first_none (time_in times o.train o.op))

-- a fixing that fixes no time
pub starts_other : (fixings : List Fixing) (fixing : Fixing) (times : List ((ℕ × ℕ) × ℕ)) → ((t p time : ℕ) → fixing ≡ Started t p time → ⊥) → AreStarts fixings times → AreStarts (fixings ++ fixing ∷ []) times
starts_other fixings fixing times not before = starts_by fixings fixing times times before (λ o. by fixing not o)
  where
    by : (f : Fixing) → ((t p time : ℕ) → f ≡ Started t p time → ⊥) → (o : Op) → time_in times o.train o.op ≡ first_of (time_in times o.train o.op) (start_fixed_by f o)
    by (Started t p time) not o = absurd (not t p time refl)
    by (Chosen t p next) not o = sym (first_none (time_in times o.train o.op))
    by (NotBefore t p time) not o = sym (first_none (time_in times o.train o.op))

pub starts_none : (times : List ((ℕ × ℕ) × ℕ)) → times ≡ [] → AreStarts [] times
starts_none times none = rw none (record { are = λ o. refl })

-- ---- times before which operations are not to start

bars_by : (fixings : List Fixing) (fixing : Fixing) (old new : List ((ℕ × ℕ) × ℕ)) → AreBars fixings old → ((o : Op) → unwrap_or (time_in new o.train o.op) 0 ≡ max (unwrap_or (time_in old o.train o.op) 0) (bar_by fixing o)) → AreBars (fixings ++ fixing ∷ []) new
bars_by fixings fixing old new before goes = record { are = λ o. goes o ∙ ap (λ (n : ℕ). max n (bar_by fixing o)) (before.are o) ∙ sym (bar_more fixings fixing o) }

max_zero : (n : ℕ) → n ≡ max n 0
max_zero n = omega arith

pub bars_noted : (fixings : List Fixing) (t p time bar : ℕ) (old new : List ((ℕ × ℕ) × ℕ)) → AreBars fixings old → bar ≡ max (unwrap_or (time_in old t p) 0) time → time_in new t p ≡ Some bar → OthersStay t p old new
    → AreBars (fixings ++ NotBefore t p time ∷ []) new
bars_noted fixings t p time bar old new before is own others = bars_by fixings (NotBefore t p time) old new before (λ o. by o ((t == o.train) && (p == o.op)) refl)
  where
    by : (o : Op) (b : Bool) → ((t == o.train) && (p == o.op)) ≡ b → unwrap_or (time_in new o.train o.op) 0 ≡ max (unwrap_or (time_in old o.train o.op) 0) (cond b time 0)
    by o true same =
        ap (λ (found : Option ℕ). unwrap_or found 0) (at_numbers new t p o (Some bar) same own) ∙ is
        ∙ ap (λ (found : Option ℕ). max (unwrap_or found 0) time) (sym (at_numbers old t p o (time_in old t p) same refl))
    by o false not = ap (λ (found : Option ℕ). unwrap_or found 0) (others o.train o.op (apart t p o not)) ∙ max_zero (unwrap_or (time_in old o.train o.op) 0)

pub bars_other : (fixings : List Fixing) (fixing : Fixing) (times : List ((ℕ × ℕ) × ℕ)) → ((t p time : ℕ) → fixing ≡ NotBefore t p time → ⊥) → AreBars fixings times → AreBars (fixings ++ fixing ∷ []) times
bars_other fixings fixing times not before = bars_by fixings fixing times times before (λ o. by fixing not o)
  where
    by : (f : Fixing) → ((t p time : ℕ) → f ≡ NotBefore t p time → ⊥) → (o : Op) → unwrap_or (time_in times o.train o.op) 0 ≡ max (unwrap_or (time_in times o.train o.op) 0) (bar_by f o)
    by (Started t p time) not o = max_zero (unwrap_or (time_in times o.train o.op) 0)
    by (Chosen t p next) not o = max_zero (unwrap_or (time_in times o.train o.op) 0)
    by (NotBefore t p time) not o = absurd (not t p time refl)

pub bars_none : (times : List ((ℕ × ℕ) × ℕ)) → times ≡ [] → AreBars [] times
bars_none times none = rw none (record { are = λ o. refl })

-- ---- one fixing after another

pub one_more : (P : List Fixing → Type 0) (fixings : List Fixing) (i : ℕ) (d : Fixing) → i < length fixings → P (take i fixings ++ get_or fixings i d ∷ []) → P (take (i + 1) fixings)
one_more P fixings i d lt h = subst P (sym (take_more fixings i d lt)) h
