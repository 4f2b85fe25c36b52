-- What the components of operations cost along a route.
use Rattle.std.proofs.Common.{◌≡◌, ℕ, ◌+◌, List, [], ◌∷◌, cond, Bool, true, false, refl, sym, subst, ◌∙◌, inl, inr, arith}
use Rattle.std.specs.Prelude.{nat_eq, sum_by, ◌&&◌, ◌||◌}
use Rattle.std.specs.List.{list_any}
use Rattle.std.proofs.lemmas.Bool.{cases_Bool, eqb-true}
use Rattle.std.proofs.lemmas.List.Sums.{sum_by-cons}
use Rattle.disp_model.specs.declared.train.Operation.{Operation}
use Rattle.disp_model.specs.declared.train.Component.{Component}
use Rattle.disp_model.specs.declared.problem.Problem.{Problem}
use Rattle.disp_model.specs.Train.{GoesOn}
use Rattle.disp_model.specs.WellFormed.{IsAcyclic}
use Rattle.disp_model.specs.Cost.{cost_at}
use Rattle.disp_model.specs.Shares.{cost_along, route_cost}
use Rattle.disp_laws.proofs.Paths.{IsIn, never_again}
use Rattle.disp_laws.proofs.Shares.{sum_le, sum_plus, any_in}
use Rattle.problem_facts.specs.Prices.{price_there, own_price}
use Rattle.tree_checker.specs.TrainCosts.{price_along}

same_sums : {X : Type 0} (f g : X → ℕ) (xs : List X) → ((x : X) → f x ≡ g x) → sum_by f xs ≡ sum_by g xs
same_sums f g xs each = omega (arith, sum_le f g xs (λ x. omega (arith, each x)), sum_le g f xs (λ x. omega (arith, each x)))

no_route : (problem : Problem) (t : ℕ) (reach : ℕ → ℕ) → route_cost problem t reach [] ≡ 0
no_route problem t reach = all_zero problem.components
  where
    none : (c : Component) → cost_along t reach [] c ≡ 0
    none c = elim (cases_Bool (nat_eq c.train t)) [ inl is ↦ rw is refl | inr not ↦ rw not refl ]

    all_zero : (xs : List Component) → sum_by (cost_along t reach []) xs ≡ 0
    all_zero [] = refl
    all_zero (c ∷ xs) = omega (arith, sum_by-cons (cost_along t reach []) c xs, none c, all_zero xs)

-- a component costs along a route what it costs at the first operation, or along the rest
along_parts : (t : ℕ) (reach : ℕ → ℕ) (p : ℕ) (rest : List ℕ) (c : Component) → (IsIn p rest → ⊥) → price_there t reach p c + cost_along t reach rest c ≡ cost_along t reach (p ∷ rest) c
along_parts t reach p rest c once = by (nat_eq c.train t) (nat_eq p c.operation) refl (list_any (λ q. nat_eq q c.operation) rest) refl
  where
    by : (own here : Bool) → nat_eq p c.operation ≡ here → (later : Bool) → list_any (λ q. nat_eq q c.operation) rest ≡ later
        → cond (own && here) (cost_at c (reach c.operation)) 0 + cond (own && later) (cost_at c (reach c.operation)) 0 ≡ cond (own && (here || later)) (cost_at c (reach c.operation)) 0
    by false here at later is = refl
    by true false at later is = omega arith
    by true true at false is = omega arith
    by true true at true is = absurd (once (subst (λ (q : ℕ). IsIn q rest) (sym (eqb-true p c.operation at)) (any_in c.operation rest is)))

pub route_price : (problem : Problem) (train : List Operation) (t : ℕ) (reach : ℕ → ℕ) (p : ℕ) (rest : List ℕ) → IsAcyclic train → GoesOn train p rest → route_cost problem t reach (p ∷ rest) ≡ price_along (own_price problem.components t reach) (p ∷ rest)
route_price problem train t reach p rest acyclic goes = omega (arith, parts p rest (never_again train p rest acyclic goes), behind p rest goes)
  where
    parts : (p : ℕ) (rest : List ℕ) → (IsIn p rest → ⊥) → own_price problem.components t reach p + route_cost problem t reach rest ≡ route_cost problem t reach (p ∷ rest)
    parts p rest once =
        sum_plus (price_there t reach p) (cost_along t reach rest) problem.components
        ∙ same_sums (λ c. price_there t reach p c + cost_along t reach rest c) (cost_along t reach (p ∷ rest)) problem.components (λ c. along_parts t reach p rest c once)

    behind : (p : ℕ) (rest : List ℕ) → GoesOn train p rest → route_cost problem t reach rest ≡ price_along (own_price problem.components t reach) rest
    behind p [] goes = no_route problem t reach
    behind p (s ∷ rest) goes = omega (arith, parts s rest (never_again train s rest acyclic goes.1), behind s rest goes.1)
