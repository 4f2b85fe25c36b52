-- The components by their trains, one after another.
use Rattle.std.proofs.Common.{◌≡◌, ℕ, zero, suc, ◌+◌, ◌<◌, ◌≤◌, List, [], ◌∷◌, ◌++◌, length, take, get_or, cond, refl, sym, ap, subst, ◌∙◌, inl, inr, arith, ◌⊎◌}
use Rattle.std.specs.Prelude.{nat_eq, filter}
use Rattle.std.proofs.lemmas.Bool.{cases_Bool, eq-eqb, eqb-true, eqb-false, ne_eqb}
use Rattle.std.proofs.lemmas.List.{take_all, append-nil}
use Rattle.std.proofs.lemmas.List.Elements.{filter_more}
use Rattle.disp_model.specs.declared.train.Component.{Component}
use Rattle.disp_model.specs.declared.problem.Problem.{Problem}
use Rattle.problem_facts.specs.Components.{own_in, is_of_train, TakesComponent, HaveEach}

same_number : (x y : ℕ) → (x ≡ y) ⊎ (x ≡ y → ⊥)
same_number x y = elim (cases_Bool (nat_eq x y)) [ inl is ↦ inl (eqb-true x y is) | inr is ↦ inr (λ e. eqb-false x y is e) ]

none_in : (each : List (List Component)) (t : ℕ) → ((u : ℕ) → own_in each u ≡ []) → own_in (each ++ [] ∷ []) t ≡ []
none_in [] zero none = refl
none_in [] (suc t) none = refl
none_in (x ∷ each) zero none = none 0
none_in (x ∷ each) (suc t) none = none_in each t (λ u. none (suc u))

pub none_more : (each new : List (List Component)) (x : List Component) → ((u : ℕ) → own_in each u ≡ []) → x ≡ [] → new ≡ each ++ x ∷ [] → (t : ℕ) → own_in new t ≡ []
none_more each new x none empty is t = ap (λ (l : List (List Component)). own_in l t) is ∙ ap (λ (y : List Component). own_in (each ++ y ∷ []) t) empty ∙ none_in each t none

pub none_have : (each : List (List Component)) → ((u : ℕ) → own_in each u ≡ []) → HaveEach [] each
none_have each none t lt = none t

pub have_more : (components : List Component) (i : ℕ) (c : Component) (old new : List (List Component)) → i < length components → c ≡ get_or components i c → HaveEach (take i components) old → TakesComponent c old new
    → HaveEach (take (i + 1) components) new
have_more components i c old new lt is before takes t there = elim (same_number t c.train) [
  | inl e ↦
      let own : own_in new t ≡ own_in old t ++ c ∷ [] = subst (λ (u : ℕ). own_in new u ≡ own_in old u ++ c ∷ []) (sym e) takes.own in
      let taken : filter (is_of_train t) (take (i + 1) components) ≡ filter (is_of_train t) (take i components) ++ c ∷ [] = rw (eq-eqb c.train t (sym e)) at more in
      own ∙ ap (λ (l : List Component). l ++ c ∷ []) earlier ∙ sym taken
  | inr other ↦
      let left : filter (is_of_train t) (take (i + 1) components) ≡ filter (is_of_train t) (take i components) ++ [] = rw (ne_eqb c.train t (λ e. other (sym e))) at more in
      takes.others t other ∙ earlier ∙ sym (left ∙ append-nil (filter (is_of_train t) (take i components)))
]
  where
    more : filter (is_of_train t) (take (i + 1) components) ≡ filter (is_of_train t) (take i components) ++ cond (nat_eq c.train t) (c ∷ []) []
    more = subst (λ (x : Component). filter (is_of_train t) (take (i + 1) components) ≡ filter (is_of_train t) (take i components) ++ cond (nat_eq x.train t) (x ∷ []) []) (sym is) (filter_more (is_of_train t) components i c lt)

    earlier : own_in old t ≡ filter (is_of_train t) (take i components)
    earlier = before t (omega (arith, there, takes.long))

pub have_all : (problem : Problem) (components : List Component) (i : ℕ) (each : List (List Component)) → components ≡ problem.components → length components ≤ i → HaveEach (take i components) each → HaveEach problem.components each
have_all problem components i each same past have = subst (λ (l : List Component). HaveEach l each) (take_all i components past ∙ same) have
