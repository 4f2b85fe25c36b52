-- Routes of a train: what follows an operation on one, and that none stands on it twice.
use Rattle.std.proofs.Common.{◌≡◌, ℕ, zero, suc, List, [], ◌∷◌, ◌++◌, Some, false, refl, subst, ◌∙◌, arith, inl, inr}
use Rattle.std.specs.Prelude.{nat_eq, Contains, ◌⊎◌}
use Rattle.std.proofs.lemmas.Bool.{cases_Bool, eq-eqb, eqb-true, eqb-false}
use Rattle.disp_model.specs.declared.train.Operation.{Operation}
use Rattle.disp_model.specs.Train.{IsSuccessor, IsExit, GoesOn}
use Rattle.disp_model.specs.WellFormed.{LeadsTo, IsAcyclic}
use Rattle.disp_model.specs.Fixing.{after}

-- membership by recursion
abbrev pub IsIn : ℕ → List ℕ → Type 0
IsIn o [] = ⊥
IsIn o (p ∷ ops) = (p ≡ o) ⊎ IsIn o ops

pub is_in : (o : ℕ) (ops : List ℕ) → Contains ops o → IsIn o ops
is_in o [] (k, lt, e) = omega arith
is_in o (p ∷ ops) (zero, lt, e) = inl e
is_in o (p ∷ ops) (suc k, lt, e) = inr (is_in o ops (k, omega arith, e))

pub contains_in : (o : ℕ) (ops : List ℕ) → IsIn o ops → Contains ops o
contains_in o [] h = absurd h
contains_in o (p ∷ ops) (inl e) = (0, omega arith, e)
contains_in o (p ∷ ops) (inr h) = let c = contains_in o ops h in (suc c.0, omega (arith, c.1), c.2)

pub in_middle : (o : ℕ) (front rest : List ℕ) → IsIn o (front ++ o ∷ rest)
in_middle o [] rest = inl refl
in_middle o (p ∷ front) rest = inr (in_middle o front rest)

-- it is there or it is not
pub in_or_not : (o : ℕ) (ops : List ℕ) → IsIn o ops ⊎ (IsIn o ops → ⊥)
in_or_not o [] = inr (λ h. h)
in_or_not o (p ∷ ops) =
    elim (cases_Bool (nat_eq p o)) [
      | inl is ↦ inl (inl (eqb-true p o is))
      | inr is ↦ elim (in_or_not o ops) [ inl h ↦ inl (inr h) | inr n ↦ inr (λ h. neither p o ops is n h) ]
    ]
  where
    neither : (p o : ℕ) (ops : List ℕ) → nat_eq p o ≡ false → (IsIn o ops → ⊥) → IsIn o (p ∷ ops) → ⊥
    neither p o ops is n (inl e) = eqb-false p o is e
    neither p o ops is n (inr h) = n h

after_head : (o q : ℕ) (rest : List ℕ) → after o (o ∷ q ∷ rest) ≡ Some q
after_head o q rest = rw (eq-eqb o o refl) refl

after_tail : (o p q : ℕ) (rest : List ℕ) → nat_eq p o ≡ false → after o (p ∷ q ∷ rest) ≡ after o (q ∷ rest)
after_tail o p q rest is = rw is refl

-- what follows an operation of a route that is no exit: a successor
pub goes_to_next : (train : List Operation) (o p : ℕ) (rest : List ℕ) → GoesOn train p rest → IsIn o (p ∷ rest) → (IsExit train o → ⊥) → (s : ℕ) × (after o (p ∷ rest) ≡ Some s) × IsSuccessor train o s
goes_to_next train o p [] exit (inl e) not = absurd (not (subst (λ (x : ℕ). IsExit train x) e exit))
goes_to_next train o p [] exit (inr h) not = absurd h
goes_to_next train o p (q ∷ rest) goes h not =
    elim (cases_Bool (nat_eq p o)) [
      | inl is ↦
          let same : p ≡ o = eqb-true p o is in
          (q, rw same (after_head o q rest), subst (λ (x : ℕ). IsSuccessor train x q) same goes.0)
      | inr is ↦
          let later = goes_to_next train o q rest goes.1 (behind p o (q ∷ rest) is h) not in
          (later.0, after_tail o p q rest is ∙ later.1, later.2)
    ]
  where
    behind : (p o : ℕ) (ops : List ℕ) → nat_eq p o ≡ false → IsIn o (p ∷ ops) → IsIn o ops
    behind p o ops is (inl e) = absurd (eqb-false p o is e)
    behind p o ops is (inr h) = h

-- along a route a way leads from each operation to each later one
pub leads_along : (train : List Operation) (p o : ℕ) (rest : List ℕ) → GoesOn train p rest → IsIn o rest → (n : ℕ) × LeadsTo train n p o
leads_along train p o [] goes h = absurd h
leads_along train p o (q ∷ rest) goes (inl e) = (0, subst (λ (x : ℕ). IsSuccessor train p x) e goes.0)
leads_along train p o (q ∷ rest) goes (inr h) = let later = leads_along train q o rest goes.1 h in (suc later.0, (q, goes.0, later.1))

-- each operation up to v leads to v
pub leads_to_later : (train : List Operation) (p v x : ℕ) (between behind : List ℕ) → GoesOn train p (between ++ v ∷ behind) → IsIn x (p ∷ between) → (n : ℕ) × LeadsTo train n x v
leads_to_later train p v x between behind goes (inl same) =
    let later = leads_along train p v (between ++ v ∷ behind) goes (in_middle v between behind) in (later.0, subst (λ (y : ℕ). LeadsTo train later.0 y v) same later.1)
leads_to_later train p v x [] behind goes (inr there) = absurd there
leads_to_later train p v x (q ∷ between) behind goes (inr there) = leads_to_later train q v x between behind goes.1 there

-- no operation stands on a route twice
pub never_again : (train : List Operation) (o : ℕ) (rest : List ℕ) → IsAcyclic train → GoesOn train o rest → IsIn o rest → ⊥
never_again train o rest acyclic goes h = let way = leads_along train o o rest goes h in acyclic.no_cycle way.0 o way.1
