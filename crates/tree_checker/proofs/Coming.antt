-- Ways from the entry, when they reach their last operation, and the allowed routes that go on from there.
use Rattle.std.proofs.Common.{◌≡◌, ℕ, ◌+◌, ◌⊎◌, List, [], ◌∷◌, ◌++◌, false, Some, refl, sym, ap, subst, inl, inr, arith}
use Rattle.std.specs.Prelude.{nat_eq, max}
use Rattle.std.proofs.lemmas.Bool.{cases_Bool, eqb-true, eq-eqb}
use Rattle.std.proofs.lemmas.Option.{none-some, same_Some}
use Rattle.disp_model.specs.declared.train.Operation.{Operation}
use Rattle.disp_model.specs.Train.{duration_of, IsSuccessor}
use Rattle.disp_model.specs.WellFormed.{IsAcyclic}
use Rattle.disp_model.specs.Shares.{reached_from}
use Rattle.disp_laws.proofs.Paths.{IsIn, never_again}
use Rattle.disp_laws.proofs.Shares.{reached_in}
use Rattle.node_facts.specs.declared.demands.Demand.{Demand}
use Rattle.node_facts.specs.Ways.{MayGo, IsWay}
use Rattle.node_facts.proofs.Allowing.{way_goes}
use Rattle.tree_checker.specs.TrainCosts.{Comes}

-- ---- one step at the end

pub comes_more : (train : List Operation) (places : List ℕ) (demands : List Demand) (base : ℕ → ℕ) (p time : ℕ) (rest : List ℕ) (o n s : ℕ) → Comes train places demands base p time rest o n → IsSuccessor train o s → MayGo places demands o (Some s)
    → Comes train places demands base p time (rest ++ s ∷ []) s (max (n + duration_of train o) (base s))
comes_more train places demands base p time [] o n s comes next may =
    let lasts = ap (duration_of train) comes.0 in (
      subst (λ (x : ℕ). IsSuccessor train x s) (sym comes.0) next,
      subst (λ (x : ℕ). MayGo places demands x (Some s)) (sym comes.0) may,
      (refl, omega (arith, comes.1, lasts)),
    )
comes_more train places demands base p time (q ∷ rest) o n s comes next may = (comes.0, comes.1, comes_more train places demands base q (max time (base p) + duration_of train p) rest o n s comes.2 next may)

-- the last step, from an operation that the way comes to before
pub record LastStep (train : List Operation) (places : List ℕ) (demands : List Demand) (base : ℕ → ℕ) (p time s m : ℕ) : Type 0 where
  pub before : ℕ
  pub reached : ℕ
  pub front : List ℕ
  pub comes : Comes train places demands base p time front before reached
  pub next : IsSuccessor train before s
  pub may : MayGo places demands before (Some s)
  pub time_is : m ≡ max (reached + duration_of train before) (base s)

-- a way comes to its first operation, or by a last step
pub comes_last : (train : List Operation) (places : List ℕ) (demands : List Demand) (base : ℕ → ℕ) (p time : ℕ) (rest : List ℕ) (s m : ℕ) → Comes train places demands base p time rest s m
    → ((p ≡ s) × (m ≡ max time (base p))) ⊎ LastStep train places demands base p time s m
comes_last train places demands base p time [] s m comes = inl comes
comes_last train places demands base p time (q ∷ rest) s m comes = elim (comes_last train places demands base q (max time (base p) + duration_of train p) rest s m comes.2) [
  | inl first ↦
      let same = ap base first.0 in
      inr (record {
        before = p;
        reached = max time (base p);
        front = [];
        comes = (refl, refl);
        next = subst (λ (x : ℕ). IsSuccessor train p x) first.0 comes.0;
        may = subst (λ (x : ℕ). MayGo places demands p (Some x)) first.0 comes.1;
        time_is = omega (arith, first.1, same);
      })
  | inr last ↦ inr (record { before = last.before; reached = last.reached; front = q ∷ last.front; comes = (comes.0, comes.1, last.comes); next = last.next; may = last.may; time_is = last.time_is })
]

-- ---- along routes

-- what a way reaches it comes to
pub way_comes : (train : List Operation) (places : List ℕ) (demands : List Demand) (base : ℕ → ℕ) (p time : ℕ) (rest : List ℕ) (o m : ℕ) → IsWay train places demands p rest → reached_from base train time (p ∷ rest) o ≡ Some m
    → (front : List ℕ) × Comes train places demands base p time front o m
way_comes train places demands base p time [] o m way at = elim (cases_Bool (nat_eq p o)) [
  | inl is ↦ ([], (eqb-true p o is, sym (same_Some (max time (base p)) m (rw is at at))))
  | inr not ↦ absurd (none-some m (rw not at at))
]
way_comes train places demands base p time (s ∷ rest) o m way at = elim (cases_Bool (nat_eq p o)) [
  | inl is ↦ ([], (eqb-true p o is, sym (same_Some (max time (base p)) m (rw is at at))))
  | inr not ↦ let later = way_comes train places demands base s (max time (base p) + duration_of train p) rest o m way.2 (rw not at at) in (s ∷ later.0, (way.0, way.1, later.1))
]

-- a way to an operation and one from there on make one, which reaches it as the first does
pub comes_way : (train : List Operation) (places : List ℕ) (demands : List Demand) (base : ℕ → ℕ) (p time : ℕ) (rest : List ℕ) (o n : ℕ) (back : List ℕ) → IsAcyclic train → Comes train places demands base p time rest o n → IsWay train places demands o back
    → (whole : List ℕ) × IsWay train places demands p whole × (reached_from base train time (p ∷ whole) o ≡ Some n)
comes_way train places demands base p time [] o n back acyclic comes way =
    (back, subst (λ (x : ℕ). IsWay train places demands x back) (sym comes.0) way, rw (eq-eqb p o comes.0) (ap (λ (x : ℕ). Some x) (sym comes.1)))
comes_way train places demands base p time (s ∷ rest) o n back acyclic comes way =
    let later = comes_way train places demands base s (max time (base p) + duration_of train p) rest o n back acyclic comes.2 way in
    let whole : IsWay train places demands p (s ∷ later.0) = (comes.0, comes.1, later.1) in
    let on : IsIn o (s ∷ later.0) = reached_in base train (max time (base p) + duration_of train p) (s ∷ later.0) o n later.2 in
    let other : nat_eq p o ≡ false = elim (cases_Bool (nat_eq p o)) [
      | inl is ↦ absurd (never_again train p (s ∷ later.0) acyclic (way_goes train places demands p (s ∷ later.0) whole) (subst (λ (x : ℕ). IsIn x (s ∷ later.0)) (sym (eqb-true p o is)) on))
      | inr not ↦ not
    ] in
    (s ∷ later.0, whole, rw other later.2)
