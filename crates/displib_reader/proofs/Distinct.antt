-- Lists that have no member twice.
use Rattle.std.proofs.Common.{◌≡◌, ◌≢◌, ℕ, zero, suc, ◌<◌, List, [], ◌∷◌, length, Some, Bool, true, false, not, cond, filter, refl, sym, ◌∙◌, subst, arith}
use Rattle.std.specs.Prelude.{slice_get}
use Rattle.std.specs.List.{AllByRecursion, list_any, position_or_len}
use Rattle.std.specs.Cmp.{IsEquivalence}
use Rattle.std.proofs.lemmas.Option.{same_Some, none-some}
use Rattle.displib_reader.specs.ProblemOf.{once}

-- no member is like another one
abbrev pub IsDistinct : {A : Type 0} → (A → A → Bool) → List A → Type 0
IsDistinct same [] = Unit {0}
IsDistinct same (x ∷ xs) = AllByRecursion (λ y. same x y ≡ false) xs × IsDistinct same xs

pub all_filter : {A : Type 0} (P : A → Type 0) (test : A → Bool) (xs : List A) → AllByRecursion P xs → AllByRecursion P (filter test xs)
all_filter P test [] all = tt
all_filter {A} P test (x ∷ xs) all = by (test x) (all_filter P test xs all.1)
  where
    by : (b : Bool) → AllByRecursion P (filter test xs) → AllByRecursion P (cond b (x ∷ filter test xs) (filter test xs))
    by true rest = (all.0, rest)
    by false rest = rest

distinct_filter : {A : Type 0} (same : A → A → Bool) (test : A → Bool) (xs : List A) → IsDistinct same xs → IsDistinct same (filter test xs)
distinct_filter same test [] d = tt
distinct_filter {A} same test (x ∷ xs) d = by (test x) (distinct_filter same test xs d.1)
  where
    by : (b : Bool) → IsDistinct same (filter test xs) → IsDistinct same (cond b (x ∷ filter test xs) (filter test xs))
    by true rest = (all_filter (λ y. same x y ≡ false) test xs d.0, rest)
    by false rest = rest

others : {A : Type 0} (same : A → A → Bool) (x : A) (xs : List A) → AllByRecursion (λ y. same x y ≡ false) (filter (λ y. not (same x y)) xs)
others same x [] = tt
others {A} same x (y ∷ ys) = by (same x y) refl (others same x ys)
  where
    by : (b : Bool) → same x y ≡ b → AllByRecursion (λ z. same x z ≡ false) (filter (λ z. not (same x z)) ys) → AllByRecursion (λ z. same x z ≡ false) (cond (not b) (y ∷ filter (λ z. not (same x z)) ys) (filter (λ z. not (same x z)) ys))
    by true e rest = rest
    by false e rest = (e, rest)

pub once_distinct : {A : Type 0} (same : A → A → Bool) (xs : List A) → IsDistinct same (once same xs)
once_distinct same [] = tt
once_distinct same (x ∷ xs) = (others same x (once same xs), distinct_filter same (λ y. not (same x y)) (once same xs) (once_distinct same xs))

pub once_all : {A : Type 0} (P : A → Type 0) (same : A → A → Bool) (xs : List A) → AllByRecursion P xs → AllByRecursion P (once same xs)
once_all P same [] all = tt
once_all P same (x ∷ xs) all = (all.0, all_filter P (λ y. not (same x y)) (once same xs) (once_all P same xs all.1))

pub at_all : {A : Type 0} (P : A → Type 0) (xs : List A) (i : ℕ) (x : A) → AllByRecursion P xs → slice_get xs i ≡ Some x → P x
at_all P [] i x all e = absurd (none-some x e)
at_all P (y ∷ ys) zero x all e = subst P (same_Some y x e) all.0
at_all P (y ∷ ys) (suc i) x all e = at_all P ys i x all.1 e

-- two places have different members
pub distinct_places : {A : Type 0} (same : A → A → Bool) → ((x : A) → same x x ≡ true) → (xs : List A) → IsDistinct same xs → (i j : ℕ) (x : A) → i < j → slice_get xs i ≡ Some x → slice_get xs j ≢ Some x
distinct_places same itself [] d i j x lt a b = none-some x a
distinct_places same itself (y ∷ ys) d zero zero x lt a b = omega arith
distinct_places same itself (y ∷ ys) d zero (suc j) x lt a b =
    let here : y ≡ x = same_Some y x a in
    let other : same y x ≡ false = at_all (λ z. same y z ≡ false) ys j x d.0 b in
    let equal : same y x ≡ true = subst (λ z. same y z ≡ true) here (itself y) in
    cc
distinct_places same itself (y ∷ ys) d (suc i) zero x lt a b = omega arith
distinct_places same itself (y ∷ ys) d (suc i) (suc j) x lt a b = distinct_places same itself ys d.1 i j x (omega arith) a b

-- ---- membership by a test

pub any_position : {A : Type 0} (test : A → Bool) (xs : List A) → list_any test xs ≡ true → position_or_len test xs < length xs
any_position test [] e = absurd cc
any_position {A} test (x ∷ xs) e = by (test x) refl (any_position test xs)
  where
    by : (b : Bool) → test x ≡ b → (list_any test xs ≡ true → position_or_len test xs < length xs) → position_or_len test (x ∷ xs) < length (x ∷ xs)
    by true is rest = rw is (omega arith)
    by false is rest = let later : list_any test xs ≡ true = rw is at e in let lt = rest later in rw is (omega (arith, lt))

-- what is among the members is among them once each
pub once_any : {A : Type 0} (same : A → A → Bool) → IsEquivalence same → (xs : List A) (z : A) → list_any (same z) xs ≡ true → list_any (same z) (once same xs) ≡ true
once_any same laws [] z e = e
once_any {A} same laws (x ∷ xs) z e = by (same z x) refl (once_any same laws xs z)
  where
    kept : (ys : List A) → same z x ≡ false → list_any (same z) ys ≡ true → list_any (same z) (filter (λ y. not (same x y)) ys) ≡ true
    kept [] other any = any
    kept (y ∷ ys) other any = at (same z y) refl (same x y) refl (kept ys other)
      where
        at : (a : Bool) → same z y ≡ a → (b : Bool) → same x y ≡ b → (list_any (same z) ys ≡ true → list_any (same z) (filter (λ w. not (same x w)) ys) ≡ true)
            → list_any (same z) (cond (not (same x y)) (y ∷ filter (λ w. not (same x w)) ys) (filter (λ w. not (same x w)) ys)) ≡ true
        at true is true both rest = let e1 : same z x ≡ same y x = laws.congr z y x is in let e2 : same y x ≡ same x y = laws.symm y x in absurd (let f : true ≡ false = sym both ∙ sym e2 ∙ sym e1 ∙ other in cc)
        at true is false b rest = rw (b, is) refl
        at false is true b rest = rw b (rest (rw is at any))
        at false is false b rest = rw (b, is) (rest (rw is at any))

    by : (b : Bool) → same z x ≡ b → (list_any (same z) xs ≡ true → list_any (same z) (once same xs) ≡ true) → list_any (same z) (once same (x ∷ xs)) ≡ true
    by true is rest = rw is refl
    by false is rest = rw is (kept (once same xs) is (rest (rw is at e)))
