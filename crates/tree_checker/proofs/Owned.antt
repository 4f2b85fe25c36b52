-- What the own components of a train cost.
use Rattle.std.proofs.Common.{◌≡◌, ℕ, List, [], ◌∷◌, refl, ap, subst, ◌∙◌, inl, inr, arith, Option}
use Rattle.std.specs.Prelude.{nat_eq, filter}
use Rattle.std.proofs.lemmas.Bool.{cases_Bool}
use Rattle.std.proofs.lemmas.List.Sums.{sum_by-cons}
use Rattle.disp_model.specs.declared.train.Component.{Component}
use Rattle.disp_model.specs.declared.train.Operation.{Operation}
use Rattle.node_facts.specs.declared.demands.Demand.{Demand}
use Rattle.problem_facts.specs.Components.{is_of_train}
use Rattle.problem_facts.specs.Prices.{price_there, own_price}
use Rattle.tree_checker.specs.TrainCosts.{AreCosts}

-- the components of other trains cost nothing at its operations
owned_price : (components : List Component) (t : ℕ) (reach : ℕ → ℕ) (o : ℕ) → own_price (filter (is_of_train t) components) t reach o ≡ own_price components t reach o
owned_price [] t reach o = refl
owned_price (c ∷ components) t reach o = elim (cases_Bool (nat_eq c.train t)) [
  | inl own ↦
      let kept : filter (is_of_train t) (c ∷ components) ≡ c ∷ filter (is_of_train t) components = rw own refl in
      let price = ap (λ (l : List Component). own_price l t reach o) kept in
      omega (arith, price, owned_price components t reach o, sum_by-cons (price_there t reach o) c (filter (is_of_train t) components), sum_by-cons (price_there t reach o) c components)
  | inr other ↦
      let left : filter (is_of_train t) (c ∷ components) ≡ filter (is_of_train t) components = rw other refl in
      let none : price_there t reach o c ≡ 0 = rw other refl in
      let price = ap (λ (l : List Component). own_price l t reach o) left in
      omega (arith, price, none, owned_price components t reach o, sum_by-cons (price_there t reach o) c components)
]

-- so costs by the prices of a train's own components are those by the prices of all
pub own_costs : (train : List Operation) (places : List ℕ) (demands : List Demand) (components own : List Component) (t : ℕ) (reach : ℕ → ℕ) (costs : List (Option ℕ)) → own ≡ filter (is_of_train t) components
    → AreCosts train places demands (own_price own t reach) costs → AreCosts train places demands (own_price components t reach) costs
own_costs train places demands components own t reach costs is paid =
    subst (λ (price : ℕ → ℕ). AreCosts train places demands price costs) (λ i o. same o i) paid
  where
    same : (o : ℕ) → own_price own t reach o ≡ own_price components t reach o
    same o = ap (λ (l : List Component). own_price l t reach o) is ∙ owned_price components t reach o
