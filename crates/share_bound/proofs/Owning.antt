-- What the own components of a train cost along a route: as much as all components do.
use Rattle.std.proofs.Common.{◌≡◌, ℕ, ◌<◌, List, [], ◌∷◌, length, refl, ap, ◌∙◌, inl, inr, arith}
use Rattle.std.specs.Prelude.{nat_eq, filter, sum_by}
use Rattle.std.proofs.lemmas.Bool.{cases_Bool}
use Rattle.std.proofs.lemmas.List.Sums.{sum_by-cons}
use Rattle.disp_model.specs.declared.train.Component.{Component}
use Rattle.disp_model.specs.declared.problem.Problem.{Problem}
use Rattle.disp_model.specs.Shares.{cost_along}
use Rattle.problem_facts.specs.declared.components.OwnComponents.{OwnComponents}
use Rattle.problem_facts.specs.Components.{own_in, is_of_train, AreOwnOf}
use Rattle.share_bound.specs.Prices.{HasOwn}

-- the components of other trains cost nothing along it
own_along : (components : List Component) (t : ℕ) (reach : ℕ → ℕ) (route : List ℕ)
    → sum_by (cost_along t reach route) (filter (is_of_train t) components)
    ≡ sum_by (cost_along t reach route) components
own_along [] t reach route = refl
own_along (c ∷ components) t reach route = elim (cases_Bool (nat_eq c.train t)) [
  | inl own ↦
      let kept : filter (is_of_train t) (c ∷ components) ≡ c ∷ filter (is_of_train t) components = rw own refl in
      let cost = ap (λ (l : List Component). sum_by f l) kept in
      omega (
        arith,
        cost,
        own_along components t reach route,
        sum_by-cons f c (filter (is_of_train t) components),
        sum_by-cons f c components,
      )
  | inr other ↦
      let left : filter (is_of_train t) (c ∷ components) ≡ filter (is_of_train t) components = rw other refl in
      let none : f c ≡ 0 = rw other refl in
      let cost = ap (λ (l : List Component). sum_by f l) left in
      omega (arith, cost, none, own_along components t reach route, sum_by-cons f c components)
]
  where
    f : Component → ℕ
    f = cost_along t reach route

pub has_own : (problem : Problem) (own : OwnComponents) (t : ℕ) → AreOwnOf problem own
    → t < length problem.trains → HasOwn problem t (own_in own.each.items t)
has_own problem own t are lt reach route =
    ap (sum_by (cost_along t reach route)) (are.has t (omega (arith, lt, are.long)))
    ∙ own_along problem.components t reach route
