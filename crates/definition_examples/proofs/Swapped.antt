-- Two orders against each other make a cycle of length 0 of the two trains that swap.
use Rattle.std.proofs.Common.{◌≡◌, inl, inr, ℕ, zero, suc, ◌<◌, List, [], ◌∷◌, refl, sym, ap, arith, rules}
use Rattle.std.specs.Prelude.{Contains}
use Rattle.disp_model.specs.Node.{node_at}
use Rattle.disp_model.specs.declared.decision.Decision.TheVariants.{First}
use Rattle.disp_model.specs.declared.problem.Problem.{Problem}
use Rattle.disp_model.specs.WellFormed.{IsWellFormed}
use Rattle.disp_model.specs.Fixing.{after}
use Rattle.disp_model.specs.Valid.{train_at}
use Rattle.disp_model.specs.Train.{IsRoute}
use Rattle.disp_model.specs.Routes.{IsAllowed, IsForced}
use Rattle.disp_model.specs.Arcs.{IsArc, Conflicts, release_of}
use Rattle.disp_model.specs.Walks.{IsCycle}
use Rattle.disp_model.specs.Nodes.{IsDead}
use Rattle.definition_examples.specs.Trains.{HasSwapTrains, swap_trains, listing, op_named, a1, b1}
use Rattle.definition_examples.specs.Trees.{both_started, against}
use Rattle.definition_examples.proofs.Made.{made, of_made}
use Rattle.definition_examples.proofs.Holding.{both, only_route, route_there}

abbrev swap : (names : List (List ℕ)) → IsWellFormed swap_trains [] names → Problem
swap names w = made swap_trains [] names w

swap_route : (names : List (List ℕ)) (w : IsWellFormed swap_trains [] names) (t : ℕ) (route : List ℕ) → t < 2 → IsRoute (train_at (swap names w) t) route → route ≡ both
swap_route names w zero route lt h = only_route 5 (listing 0 0 ∷ []) 5 (listing 1 0 ∷ []) route h
swap_route names w (suc zero) route lt h = only_route 5 (listing 1 0 ∷ []) 5 (listing 0 0 ∷ []) route h
swap_route names w (suc (suc t)) route lt h = absurd (omega (arith, lt))

swap_open : (names : List (List ℕ)) (w : IsWellFormed swap_trains [] names) (t : ℕ) → t < 2 → IsAllowed (node_at (swap names w) both_started against) t both
swap_open names w zero lt = record { is_route = route_there 5 (listing 0 0 ∷ []) 5 (listing 1 0 ∷ []); fixings_agree = search rules; decisions_agree = search rules }
swap_open names w (suc zero) lt = record { is_route = route_there 5 (listing 1 0 ∷ []) 5 (listing 0 0 ∷ []); fixings_agree = search rules; decisions_agree = search rules }
swap_open names w (suc (suc t)) lt = absurd (omega (arith, lt))

has_first : (route : List ℕ) → route ≡ both → Contains route 0
has_first route same = rw same (0, omega arith, refl)

has_second : (route : List ℕ) → route ≡ both → Contains route 1
has_second route same = rw same (1, omega arith, refl)

first_forced : (names : List (List ℕ)) (w : IsWellFormed swap_trains [] names) (t : ℕ) → t < 2 → IsForced (node_at (swap names w) both_started against) (op_named t 0)
first_forced names w t lt = record {
  train = lt;
  allowed = (both, swap_open names w t lt);
  each_has = λ route allowed. has_first route (swap_route names w t route lt allowed.is_route);
}

second_forced : (names : List (List ℕ)) (w : IsWellFormed swap_trains [] names) (t : ℕ) → t < 2 → IsForced (node_at (swap names w) both_started against) (op_named t 1)
second_forced names w t lt = record {
  train = lt;
  allowed = (both, swap_open names w t lt);
  each_has = λ route allowed. has_second route (swap_route names w t route lt allowed.is_route);
}

freed : (names : List (List ℕ)) (w : IsWellFormed swap_trains [] names) (s t : ℕ) → s < 2 → t < 2 → Contains against (First (op_named s 0) (op_named t 1))
    → Conflicts (swap names w) (op_named s 0) (op_named t 1) → release_of (swap names w) (op_named s 0) (op_named t 1) ≡ 0 → IsArc (node_at (swap names w) both_started against) (op_named s 1) (op_named t 1) 0
freed names w s t lt_s lt_t decided conflicts none = record {
  from_forced = second_forced names w s lt_s;
  to_forced = second_forced names w t lt_t;
  kind = inr (inr (record {
    holder = op_named s 0;
    decided = decided;
    forced = first_forced names w s lt_s;
    conflicts = conflicts;
    goes_to = (refl, λ route allowed. ap (after 0) (swap_route names w s route lt_s allowed.is_route));
    length_is = sym none;
  }));
}

a_to_b_made : (names : List (List ℕ)) (w : IsWellFormed swap_trains [] names) → IsArc (node_at (swap names w) both_started against) a1 b1 0
a_to_b_made names w = freed names w 0 1 (omega arith) (omega arith) (0, omega arith, refl) (record { trains = λ e. omega (arith, e); shared = λ e. grind (arith, e) }) refl

b_to_a_made : (names : List (List ℕ)) (w : IsWellFormed swap_trains [] names) → IsArc (node_at (swap names w) both_started against) b1 a1 0
b_to_a_made names w = freed names w 1 0 (omega arith) (omega arith) (1, omega arith, refl) (record { trains = λ e. omega (arith, e); shared = λ e. grind (arith, e) }) refl

pub a_to_b : (problem : Problem) → HasSwapTrains problem → IsArc (node_at problem both_started against) a1 b1 0
a_to_b problem has = of_made (λ p. IsArc (node_at p both_started against) a1 b1 0) swap_trains [] a_to_b_made problem has.trains has.components

pub b_to_a : (problem : Problem) → HasSwapTrains problem → IsArc (node_at problem both_started against) b1 a1 0
b_to_a problem has = of_made (λ p. IsArc (node_at p both_started against) b1 a1 0) swap_trains [] b_to_a_made problem has.trains has.components

pub cycle : (problem : Problem) → HasSwapTrains problem → IsCycle (node_at problem both_started against) (a1 ∷ b1 ∷ [])
cycle problem has = ((0, a_to_b problem has), (0, b_to_a problem has))

pub dead : (problem : Problem) → HasSwapTrains problem → IsDead (node_at problem both_started against)
dead problem has = inr (inl (a1 ∷ b1 ∷ [], cycle problem has))
