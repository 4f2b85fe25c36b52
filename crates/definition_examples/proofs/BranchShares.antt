-- The share of the forked train with costs on its branches.
use Rattle.std.proofs.Common.{◌≡◌, ℕ, zero, suc, ◌+◌, ◌≤◌, List, [], ◌∷◌, Option, Some, None, refl, sym, ap, subst, ◌∙◌, arith, rules, inl, inr}
use Rattle.std.specs.Prelude.{Contains, All, IfSome}
use Rattle.std.proofs.lemmas.Option.{none-some, same_Some}
use Rattle.disp_model.specs.declared.fixing.Fixing.{Fixing}
use Rattle.disp_model.specs.declared.fixing.Fixing.TheVariants.{NotBefore}
use Rattle.disp_model.specs.declared.decision.Decision.{Decision}
use Rattle.disp_model.specs.declared.decision.Decision.TheVariants.{Skip}
use Rattle.disp_model.specs.declared.problem.Problem.{Problem}
use Rattle.disp_model.specs.declared.tree.Leaf.TheVariants.{Shares}
use Rattle.disp_model.specs.declared.tree.Verdict.TheVariants.{Optimal}
use Rattle.disp_model.specs.WellFormed.{IsWellFormed}
use Rattle.disp_model.specs.Train.{IsRoute}
use Rattle.disp_model.specs.Node.{root_of, node_at}
use Rattle.disp_model.specs.Routes.{IsAllowed, AgreesWithDecision}
use Rattle.disp_model.specs.Shares.{reached_from, IsReach, IsShareOver, route_cost, Arrival, AreWalksOn, shown_base, ShowsShare, SharesCost, HaveDistinctTrains}
use Rattle.disp_model.specs.Trees.{LeafHolds, HaveDistinct}
use Rattle.disp_laws.proofs.Shares.{one_share}
use Rattle.definition_examples.specs.Trains.{HasBranchCosts, branch_costs, forked, op_named}
use Rattle.definition_examples.specs.Trees.{first_listed}
use Rattle.definition_examples.proofs.Made.{made, of_made}
use Rattle.definition_examples.proofs.ForkedRoutes.{by_1, by_2, by_1_there, by_2_there, two_routes, none_behind_1}

abbrev late : List Fixing
late = NotBefore 0 0 5 ∷ []

abbrev costly : (names : List (List ℕ)) → IsWellFormed (forked ∷ []) branch_costs names → Problem
costly names w = made (forked ∷ []) branch_costs names w

-- when the operations are reached on either route
abbrev reach : ℕ → ℕ
reach zero = 5
reach (suc zero) = 5
reach (suc (suc zero)) = 5
reach (suc (suc (suc o))) = 8

abbrev base : (names : List (List ℕ)) → IsWellFormed (forked ∷ []) branch_costs names → List Decision → ℕ → ℕ
base names w decisions o = shown_base (node_at (costly names w) late decisions) 0 [] o

-- no route reaches the operation earlier
abbrev IsEarly : (names : List (List ℕ)) → IsWellFormed (forked ∷ []) branch_costs names → List Decision → ℕ → ℕ → Type 0
IsEarly names w decisions o total =
    (route : List ℕ) (other : ℕ) → IsRoute forked route → reached_from (base names w decisions) forked 0 route o ≡ Some other → total ≤ other

early_by_both : (names : List (List ℕ)) (w : IsWellFormed (forked ∷ []) branch_costs names) (decisions : List Decision) (o total : ℕ)
    → IfSome (reached_from (base names w decisions) forked 0 by_1 o) (λ x. total ≤ x) → IfSome (reached_from (base names w decisions) forked 0 by_2 o) (λ x. total ≤ x) → IsEarly names w decisions o total
early_by_both names w decisions o total one other route found is at = elim (two_routes route is) [
  | inl same ↦ within (reached_from (base names w decisions) forked 0 by_1 o) one (ap (λ (r : List ℕ). reached_from (base names w decisions) forked 0 r o) (sym same) ∙ at)
  | inr same ↦ within (reached_from (base names w decisions) forked 0 by_2 o) other (ap (λ (r : List ℕ). reached_from (base names w decisions) forked 0 r o) (sym same) ∙ at)
]
  where
    within : (x : Option ℕ) → IfSome x (λ y. total ≤ y) → x ≡ Some found → total ≤ found
    within None le at = absurd (none-some found at)
    within (Some y) le at = omega (arith, le, same_Some y found at)

-- ---- when each operation is reached

abbrev IsReachedAt : (names : List (List ℕ)) → IsWellFormed (forked ∷ []) branch_costs names → List Decision → ℕ → ℕ → Type 0
IsReachedAt names w decisions o total = IsReach (node_at (costly names w) late decisions) 0 (base names w decisions) o total

abbrev IsAllowedHere : (names : List (List ℕ)) → IsWellFormed (forked ∷ []) branch_costs names → List Decision → List ℕ → Type 0
IsAllowedHere names w decisions route = IsAllowed (node_at (costly names w) late decisions) 0 route

reached_0 : (names : List (List ℕ)) (w : IsWellFormed (forked ∷ []) branch_costs names) (decisions : List Decision) → IsAllowedHere names w decisions by_2 → IsReachedAt names w decisions 0 5
reached_0 names w decisions allowed = record {
  there = (by_2, allowed, refl);
  least = λ route other allowed at. early_by_both names w decisions 0 5 (omega arith) (omega arith) route other allowed.is_route at;
}

reached_1 : (names : List (List ℕ)) (w : IsWellFormed (forked ∷ []) branch_costs names) (decisions : List Decision) → IsAllowedHere names w decisions by_1 → IsReachedAt names w decisions 1 5
reached_1 names w decisions allowed = record {
  there = (by_1, allowed, refl);
  least = λ route other allowed at. early_by_both names w decisions 1 5 (omega arith) tt route other allowed.is_route at;
}

reached_2 : (names : List (List ℕ)) (w : IsWellFormed (forked ∷ []) branch_costs names) (decisions : List Decision) → IsAllowedHere names w decisions by_2 → IsReachedAt names w decisions 2 5
reached_2 names w decisions allowed = record {
  there = (by_2, allowed, refl);
  least = λ route other allowed at. early_by_both names w decisions 2 5 tt (omega arith) route other allowed.is_route at;
}

reached_3 : (names : List (List ℕ)) (w : IsWellFormed (forked ∷ []) branch_costs names) (decisions : List Decision) → IsAllowedHere names w decisions by_2 → IsReachedAt names w decisions 3 8
reached_3 names w decisions allowed = record {
  there = (by_2, allowed, refl);
  least = λ route other allowed at. early_by_both names w decisions 3 8 (omega arith) (omega arith) route other allowed.is_route at;
}

-- what holds at the operations of a route holds where one of them is
at_three : (P : ℕ → Type 0) (a b c o : ℕ) → P a → P b → P c → Contains (a ∷ b ∷ c ∷ []) o → P o
at_three P a b c o first second third (zero, lt, at) = subst P at first
at_three P a b c o first second third (suc zero, lt, at) = subst P at second
at_three P a b c o first second third (suc (suc zero), lt, at) = subst P at third
at_three P a b c o first second third (suc (suc (suc k)), lt, at) = absurd (omega (arith, lt))

reached_on_2 : (names : List (List ℕ)) (w : IsWellFormed (forked ∷ []) branch_costs names) (decisions : List Decision) → IsAllowedHere names w decisions by_2
    → (route : List ℕ) (o : ℕ) → route ≡ by_2 → Contains route o → IsReachedAt names w decisions o (reach o)
reached_on_2 names w decisions two route o same has =
    at_three (λ p. IsReachedAt names w decisions p (reach p)) 0 2 3 o (reached_0 names w decisions two) (reached_2 names w decisions two) (reached_3 names w decisions two)
    (subst (λ (r : List ℕ). Contains r o) same has)

reached_on_1 : (names : List (List ℕ)) (w : IsWellFormed (forked ∷ []) branch_costs names) (decisions : List Decision) → IsAllowedHere names w decisions by_1 → IsAllowedHere names w decisions by_2
    → (route : List ℕ) (o : ℕ) → route ≡ by_1 → Contains route o → IsReachedAt names w decisions o (reach o)
reached_on_1 names w decisions one two route o same has =
    at_three (λ p. IsReachedAt names w decisions p (reach p)) 0 1 3 o (reached_0 names w decisions two) (reached_1 names w decisions one) (reached_3 names w decisions two)
    (subst (λ (r : List ℕ). Contains r o) same has)

-- ---- nothing is decided

at_root_by_1 : (names : List (List ℕ)) (w : IsWellFormed (forked ∷ []) branch_costs names) → IsAllowedHere names w [] by_1
at_root_by_1 names w = record { is_route = by_1_there; fixings_agree = search rules; decisions_agree = search rules }

at_root_by_2 : (names : List (List ℕ)) (w : IsWellFormed (forked ∷ []) branch_costs names) → IsAllowedHere names w [] by_2
at_root_by_2 names w = record { is_route = by_2_there; fixings_agree = search rules; decisions_agree = search rules }

abbrev along : (names : List (List ℕ)) → IsWellFormed (forked ∷ []) branch_costs names → List ℕ → ℕ
along names w route = route_cost (costly names w) 0 reach route

five_at_least : (names : List (List ℕ)) (w : IsWellFormed (forked ∷ []) branch_costs names) (route : List ℕ) → IsRoute forked route → 5 ≤ along names w route
five_at_least names w route is = elim (two_routes route is) [
  | inl same ↦ subst (λ (r : List ℕ). 5 ≤ along names w r) (sym same) (omega arith)
  | inr same ↦ subst (λ (r : List ℕ). 5 ≤ along names w r) (sym same) (omega arith)
]

five_over : (names : List (List ℕ)) (w : IsWellFormed (forked ∷ []) branch_costs names) → IsShareOver (root_of (costly names w) late) 0 (base names w []) 5
five_over names w = record {
  reach = reach;
  reach_is = λ route o allowed has. elim (two_routes route allowed.is_route) [
    | inl same ↦ reached_on_1 names w [] (at_root_by_1 names w) (at_root_by_2 names w) route o same has
    | inr same ↦ reached_on_2 names w [] (at_root_by_2 names w) route o same has
  ];
  there = (by_1, at_root_by_1 names w, refl);
  least = λ route allowed. five_at_least names w route allowed.is_route;
}

five_here : (names : List (List ℕ)) (w : IsWellFormed (forked ∷ []) branch_costs names) → ShowsShare (root_of (costly names w) late) first_listed 5
five_here names w = record { arrivals = []; walks = tt; over = five_over names w }

-- a train that is listed without walks has one share
five_alone : (names : List (List ℕ)) (w : IsWellFormed (forked ∷ []) branch_costs names) (share : ℕ) → ShowsShare (root_of (costly names w) late) first_listed share → share ≡ 5
five_alone names w share shown = one_share (root_of (costly names w) late) 0 (shown_base (root_of (costly names w) late) 0 shown.arrivals) (base names w []) share 5 (bases shown.arrivals shown.walks) shown.over (five_over names w)
  where
    bases : (arrivals : List Arrival) → AreWalksOn (root_of (costly names w) late) 0 [] arrivals → (o : ℕ) → shown_base (root_of (costly names w) late) 0 arrivals o ≡ base names w [] o
    bases [] walks o = refl
    bases (a ∷ arrivals) walks o = absurd walks

pub least_share : (problem : Problem) → HasBranchCosts problem → ShowsShare (root_of problem late) first_listed 5
least_share problem has = of_made (λ p. ShowsShare (root_of p late) first_listed 5) (forked ∷ []) branch_costs five_here problem has.trains has.components

-- ---- one branch is skipped

abbrev skipping_1 : List Decision
skipping_1 = Skip (op_named 0 1) ∷ []

skipping_by_2 : (names : List (List ℕ)) (w : IsWellFormed (forked ∷ []) branch_costs names) → IsAllowedHere names w skipping_1 by_2
skipping_by_2 names w = record { is_route = by_2_there; fixings_agree = search rules; decisions_agree = of_one (λ same has. none_behind_1 has) }
  where
    of_one : AgreesWithDecision 0 by_2 (Skip (op_named 0 1)) → All (AgreesWithDecision 0 by_2) skipping_1
    of_one here zero d lt = here
    of_one here (suc k) d lt = absurd (omega (arith, lt))

only_by_2 : (names : List (List ℕ)) (w : IsWellFormed (forked ∷ []) branch_costs names) (route : List ℕ) → IsAllowedHere names w skipping_1 route → route ≡ by_2
only_by_2 names w route allowed = elim (two_routes route allowed.is_route) [
  | inl same ↦ absurd (allowed.decisions_agree 0 (Skip (op_named 0 1)) (omega arith) refl (subst (λ (r : List ℕ). Contains r 1) (sym same) (1, omega arith, refl)))
  | inr same ↦ same
]

ten_over : (names : List (List ℕ)) (w : IsWellFormed (forked ∷ []) branch_costs names) → IsShareOver (node_at (costly names w) late skipping_1) 0 (base names w skipping_1) 10
ten_over names w = record {
  reach = reach;
  reach_is = λ route o allowed has. reached_on_2 names w skipping_1 (skipping_by_2 names w) route o (only_by_2 names w route allowed) has;
  there = (by_2, skipping_by_2 names w, refl);
  least = λ route allowed. subst (λ (r : List ℕ). 10 ≤ along names w r) (sym (only_by_2 names w route allowed)) (omega arith);
}

ten_here : (names : List (List ℕ)) (w : IsWellFormed (forked ∷ []) branch_costs names) → ShowsShare (node_at (costly names w) late skipping_1) first_listed 10
ten_here names w = record { arrivals = []; walks = tt; over = ten_over names w }

pub share_left : (problem : Problem) → HasBranchCosts problem → ShowsShare (node_at problem late skipping_1) first_listed 10
share_left problem has = of_made (λ p. ShowsShare (node_at p late skipping_1) first_listed 10) (forked ∷ []) branch_costs ten_here problem has.trains has.components

-- ---- the leaf

no_walks : HaveDistinct []
no_walks i j v u less at also = absurd (none-some v at)

one_train : HaveDistinctTrains (first_listed ∷ [])
one_train i zero s u less at also = absurd (omega (arith, less))
one_train i (suc j) s u less at also = absurd (none-some u also)

five_shown : (names : List (List ℕ)) (w : IsWellFormed (forked ∷ []) branch_costs names) → LeafHolds (root_of (costly names w) late) (Optimal 5) (Shares [] (first_listed ∷ []))
five_shown names w = inr (record {
  distinct = no_walks;
  distinct_trains = one_train;
  others = λ i j v listed c at also there. absurd (none-some v at);
  sum = 0;
  sum_is = refl;
  shares = 5;
  shares_is = (5, 0, five_here names w, refl, refl);
  enough = omega arith;
})

six_not_shown : (names : List (List ℕ)) (w : IsWellFormed (forked ∷ []) branch_costs names) → LeafHolds (root_of (costly names w) late) (Optimal 6) (Shares [] (first_listed ∷ [])) → ⊥
six_not_shown names w (inl (zero, less, none)) = none (by_1, at_root_by_1 names w)
six_not_shown names w (inl (suc t, less, none)) = omega (arith, less)
six_not_shown names w (inr shown) = below shown.shares shown.shares_is shown.sum_is shown.enough
  where
    below : (shares : ℕ) → SharesCost (root_of (costly names w) late) (first_listed ∷ []) shares → shown.sum ≡ 0 → 6 ≤ shown.sum + shares → ⊥
    below shares (share, rest, shows, nothing, sum) none enough = omega (arith, five_alone names w share shows, nothing, sum, none, enough)

pub leaf_holds : (problem : Problem) → HasBranchCosts problem → LeafHolds (root_of problem late) (Optimal 5) (Shares [] (first_listed ∷ []))
leaf_holds problem has = of_made (λ p. LeafHolds (root_of p late) (Optimal 5) (Shares [] (first_listed ∷ []))) (forked ∷ []) branch_costs five_shown problem has.trains has.components

pub not_more : (problem : Problem) → HasBranchCosts problem → LeafHolds (root_of problem late) (Optimal 6) (Shares [] (first_listed ∷ [])) → ⊥
not_more problem has = of_made (λ p. LeafHolds (root_of p late) (Optimal 6) (Shares [] (first_listed ∷ [])) → ⊥) (forked ∷ []) branch_costs six_not_shown problem has.trains has.components
