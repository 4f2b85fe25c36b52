-- The plans of the examples, judged.
use Rattle.std.proofs.Common.{◌≡◌, ℕ, ◌+◌, ◌<◌, ◌≤◌, List, [], ◌∷◌, Some, refl, subst, arith}
use Rattle.std.specs.Prelude.{All}
use Rattle.std.specs.List.{Any}
use Rattle.disp_model.specs.declared.plan.Event.{Event}
use Rattle.disp_model.specs.declared.train.Operation.{Operation}
use Rattle.disp_model.specs.declared.train.Listing.{Listing}
use Rattle.disp_model.specs.declared.problem.Problem.{Problem}
use Rattle.disp_model.specs.WellFormed.{IsWellFormed}
use Rattle.disp_model.specs.Plan.{end_of}
use Rattle.disp_model.specs.Valid.{IsValid, IsReleased, KeepApart, operation_of}
use Rattle.definition_examples.specs.Trains.{HasTwoTrains, HasSwapTrains, two_trains, two_costs, swap_trains, listing, lasting}
use Rattle.definition_examples.specs.Plans.{event, listed_too_early, second_first, swap_at_once}
use Rattle.definition_examples.proofs.Made.{made, of_made}

-- two events that share a resource keep apart only where the second is released
pub too_near : (problem : Problem) (plan : List Event) (i j : ℕ) (e f : Event) (o p : Operation) (l : Listing)
    → operation_of problem e ≡ Some o → operation_of problem f ≡ Some p → o.listings ≡ l ∷ [] → p.listings ≡ l ∷ []
    → KeepApart problem plan i e j f → IsReleased (end_of problem.trains plan i e) l j f
too_near problem plan i j e f o p l at_e at_f lists_o lists_p apart =
    let shared : Any (λ (k : Listing). k.resource ≡ l.resource) p.listings = rw lists_p (0, l, omega arith, refl, refl) in
    let each : All (λ (k : Listing). Any (λ (m : Listing). m.resource ≡ k.resource) p.listings → IsReleased (end_of problem.trains plan i e) k j f) (l ∷ [])
    = subst (All (λ (k : Listing). Any (λ (m : Listing). m.resource ≡ k.resource) p.listings → IsReleased (end_of problem.trains plan i e) k j f)) lists_o (apart o p at_e at_f) in
    each 0 l (omega arith) shared

early_made : (names : List (List ℕ)) (w : IsWellFormed (two_trains 0) two_costs names) → IsValid (made (two_trains 0) two_costs names w) [] listed_too_early → ⊥
early_made names w valid =
    let problem = made (two_trains 0) two_costs names w in
    let l = listing 0 0 in
    let released : IsReleased (end_of (two_trains 0) listed_too_early 0 (event 1 0 0)) l 1 (event 0 0 4)
    = too_near problem listed_too_early 0 1 (event 1 0 0) (event 0 0 4) (lasting 4 (l ∷ []) (1 ∷ [])) (lasting 10 (l ∷ []) (1 ∷ [])) l refl refl refl refl
    (valid.apart 0 1 (event 1 0 0) (event 0 0 4) (omega arith) refl refl (omega arith)) in
    let position : 2 < 1 = released.position in
    omega arith

pub early_is_not_valid : (problem : Problem) → HasTwoTrains 0 problem → IsValid problem [] listed_too_early → ⊥
early_is_not_valid problem has = of_made (λ p. IsValid p [] listed_too_early → ⊥) (two_trains 0) two_costs early_made problem has.trains has.components

released_made : (names : List (List ℕ)) (w : IsWellFormed (two_trains 3) two_costs names) → IsValid (made (two_trains 3) two_costs names w) [] second_first → ⊥
released_made names w valid =
    let problem = made (two_trains 3) two_costs names w in
    let l = listing 0 3 in
    let released : IsReleased (end_of (two_trains 3) second_first 0 (event 1 0 0)) l 2 (event 0 0 4)
    = too_near problem second_first 0 2 (event 1 0 0) (event 0 0 4) (lasting 4 (l ∷ []) (1 ∷ [])) (lasting 10 (l ∷ []) (1 ∷ [])) l refl refl refl refl
    (valid.apart 0 2 (event 1 0 0) (event 0 0 4) (omega arith) refl refl (omega arith)) in
    let time : 4 + 3 ≤ 4 = released.time in
    omega arith

pub at_once_after_a_release_is_not_valid : (problem : Problem) → HasTwoTrains 3 problem → IsValid problem [] second_first → ⊥
at_once_after_a_release_is_not_valid problem has = of_made (λ p. IsValid p [] second_first → ⊥) (two_trains 3) two_costs released_made problem has.trains has.components

swap_made : (names : List (List ℕ)) (w : IsWellFormed swap_trains [] names) → IsValid (made swap_trains [] names w) [] swap_at_once → ⊥
swap_made names w valid =
    let problem = made swap_trains [] names w in
    let l = listing 1 0 in
    let released : IsReleased (end_of swap_trains swap_at_once 1 (event 1 0 0)) l 2 (event 0 1 5)
    = too_near problem swap_at_once 1 2 (event 1 0 0) (event 0 1 5) (lasting 5 (l ∷ []) (1 ∷ [])) (lasting 5 (l ∷ []) []) l refl refl refl refl
    (valid.apart 1 2 (event 1 0 0) (event 0 1 5) (omega arith) refl refl (omega arith)) in
    let position : 3 < 2 = released.position in
    omega arith

pub a_swap_is_not_valid : (problem : Problem) → HasSwapTrains problem → IsValid problem [] swap_at_once → ⊥
a_swap_is_not_valid problem has = of_made (λ p. IsValid p [] swap_at_once → ⊥) swap_trains [] swap_made problem has.trains has.components
