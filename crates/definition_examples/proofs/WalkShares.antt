-- The share of the second of the two trains, with and without the walk across the first.
use Rattle.std.proofs.Common.{◌≡◌, ℕ, zero, suc, ◌+◌, ◌<◌, ◌≤◌, List, [], ◌∷◌, Some, refl, sym, subst, ap, ◌∙◌, arith, rules}
use Rattle.std.specs.Prelude.{Contains, max}
use Rattle.std.proofs.lemmas.Option.{same_Some}
use Rattle.disp_model.specs.declared.problem.Problem.{Problem}
use Rattle.disp_model.specs.WellFormed.{IsWellFormed}
use Rattle.disp_model.specs.Node.{Node, node_at}
use Rattle.disp_model.specs.Routes.{IsAllowed}
use Rattle.disp_model.specs.Shares.{reached_from, IsReach, IsShareOver, route_cost, Arrival, shown_base, ShowsShare}
use Rattle.definition_examples.specs.Trains.{HasTwoTrains, two_trains, two_costs, holding, a0, a1}
use Rattle.definition_examples.specs.Trees.{first_before, second_alone, second_behind}
use Rattle.definition_examples.proofs.Made.{of_made}
use Rattle.definition_examples.proofs.Holding.{both}
use Rattle.definition_examples.proofs.TwoArcs.{two, route_is}
use Rattle.definition_examples.proofs.TwoWalks.{a_then_b, opened, unfixed, ordered, free_from_zero, across}

abbrev behind : (names : List (List ℕ)) → IsWellFormed (two_trains 0) two_costs names → Node
behind names w = node_at (two 0 names w) [] first_before

-- when the train reaches its operations over given bases
abbrev reach : (ℕ → ℕ) → ℕ → ℕ
reach base zero = max 0 (base 0)
reach base (suc o) = max (max 0 (base 0) + 4) (base 1)

allowed_there : (names : List (List ℕ)) (w : IsWellFormed (two_trains 0) two_costs names) → IsAllowed (behind names w) 1 both
allowed_there names w = opened 0 names w [] first_before unfixed (ordered 0 1) 1 (omega arith)

only_both : (names : List (List ℕ)) (w : IsWellFormed (two_trains 0) two_costs names) (route : List ℕ) → IsAllowed (behind names w) 1 route → route ≡ both
only_both names w route allowed = route_is 0 names w 1 route (omega arith) allowed.is_route

reached : (names : List (List ℕ)) (w : IsWellFormed (two_trains 0) two_costs names) (base : ℕ → ℕ) (o total : ℕ) → reached_from base (holding 4 0) 0 both o ≡ Some total → IsReach (behind names w) 1 base o total
reached names w base o total at = record {
  there = (both, allowed_there names w, at);
  least = λ route other allowed found.
      let same : total ≡ other = same_Some total other (sym at ∙ subst (λ (r : List ℕ). reached_from base (holding 4 0) 0 r o ≡ Some other) (only_both names w route allowed) found) in omega (arith, same);
}

each_reached : (names : List (List ℕ)) (w : IsWellFormed (two_trains 0) two_costs names) (base : ℕ → ℕ) (o : ℕ) → Contains both o → IsReach (behind names w) 1 base o (reach base o)
each_reached names w base o (zero, lt, at) = subst (λ p. IsReach (behind names w) 1 base p (reach base p)) at (reached names w base 0 (reach base 0) refl)
each_reached names w base o (suc zero, lt, at) = subst (λ p. IsReach (behind names w) 1 base p (reach base p)) at (reached names w base 1 (reach base 1) refl)
each_reached names w base o (suc (suc k), lt, at) = absurd (omega (arith, lt))

share_over : (names : List (List ℕ)) (w : IsWellFormed (two_trains 0) two_costs names) (base : ℕ → ℕ) → IsShareOver (behind names w) 1 base (route_cost (two 0 names w) 1 (reach base) both)
share_over names w base = record {
  reach = reach base;
  reach_is = λ route o allowed has. each_reached names w base o (subst (λ (r : List ℕ). Contains r o) (only_both names w route allowed) has);
  there = (both, allowed_there names w, refl);
  least = λ route allowed. subst (λ (r : List ℕ). route_cost (two 0 names w) 1 (reach base) both ≤ route_cost (two 0 names w) 1 (reach base) r) (sym (only_both names w route allowed)) (omega arith);
}

abbrev across_a : List Arrival
across_a = record { operation = 0; total = 10 } ∷ []

listed_made : (names : List (List ℕ)) (w : IsWellFormed (two_trains 0) two_costs names) → ShowsShare (behind names w) second_behind 14
listed_made names w = record {
  arrivals = across_a;
  walks = ((a0 ∷ a1 ∷ [], refl), across 0 names w [] 0 1 (a_then_b 0 names w) (free_from_zero 0 names w) (opened 0 names w [] first_before unfixed (ordered 0 1)), tt);
  over = share_over names w (shown_base (behind names w) 1 across_a);
}

alone_made : (names : List (List ℕ)) (w : IsWellFormed (two_trains 0) two_costs names) → ShowsShare (behind names w) second_alone 4
alone_made names w = record { arrivals = []; walks = tt; over = share_over names w (shown_base (behind names w) 1 []) }

pub listed : (problem : Problem) → HasTwoTrains 0 problem → ShowsShare (node_at problem [] first_before) second_behind 14
listed problem has = of_made (λ p. ShowsShare (node_at p [] first_before) second_behind 14) (two_trains 0) two_costs listed_made problem has.trains has.components

pub alone : (problem : Problem) → HasTwoTrains 0 problem → ShowsShare (node_at problem [] first_before) second_alone 4
alone problem has = of_made (λ p. ShowsShare (node_at p [] first_before) second_alone 4) (two_trains 0) two_costs alone_made problem has.trains has.components
