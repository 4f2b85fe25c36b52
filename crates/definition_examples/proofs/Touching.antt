-- The two trains where the second is not to start before a time.
use Rattle.std.proofs.Common.{◌≡◌, ℕ, zero, suc, ◌+◌, ◌<◌, ◌≤◌, List, [], ◌∷◌, Bool, true, false, cond, refl, sym, ap, subst, ◌∙◌, arith, rules, inl}
use Rattle.std.specs.Prelude.{nat_eq, max, ◌&&◌}
use Rattle.disp_model.specs.declared.train.Op.{Op}
use Rattle.disp_model.specs.declared.fixing.Fixing.{Fixing}
use Rattle.disp_model.specs.declared.fixing.Fixing.TheVariants.{NotBefore}
use Rattle.disp_model.specs.declared.decision.Choice.TheVariants.{Order}
use Rattle.disp_model.specs.declared.problem.Problem.{Problem}
use Rattle.disp_model.specs.WellFormed.{IsWellFormed}
use Rattle.disp_model.specs.Fixing.{after}
use Rattle.disp_model.specs.Node.{root_of}
use Rattle.disp_model.specs.Walks.{lower_of, IsLongest}
use Rattle.disp_model.specs.Choices.{IsEnd, Clears, IsOpenOrder, IsOpen}
use Rattle.disp_laws.proofs.Picked.{one_longest}
use Rattle.disp_laws.proofs.EarliestEnds.{one_end_time}
use Rattle.definition_examples.specs.Trains.{HasTwoTrains, two_trains, two_costs, op_named, a0, b0}
use Rattle.definition_examples.proofs.Made.{of_made}
use Rattle.definition_examples.proofs.Heights.{IsHeight, longest}
use Rattle.definition_examples.proofs.TwoArcs.{two, IsOpen as HaveRoutes, lasts, free_arcs, route_is, none_decided}
use Rattle.definition_examples.proofs.TwoWalks.{opened, undecided, forced, free_longest, a_then_b, once}
use Rattle.definition_examples.proofs.TwoBounds.{height, rises, own_rises}

abbrev put_off : ℕ → List Fixing
put_off time = NotBefore 1 0 time ∷ []

have_routes : (release time : ℕ) (names : List (List ℕ)) (w : IsWellFormed (two_trains release) two_costs names) → HaveRoutes (root_of (two release names w) (put_off time))
have_routes release time names w = opened release names w (put_off time) [] (λ t. search rules) undecided

put_off_or_not : (time : ℕ) (b : Bool) → max 0 (cond b (max time 0) 0) ≤ time
put_off_or_not time true = omega arith
put_off_or_not time false = omega arith

lower_is : (release time : ℕ) (names : List (List ℕ)) (w : IsWellFormed (two_trains release) two_costs names) (t o : ℕ) → lower_of (two release names w) (put_off time) (op_named t o) ≤ height 0 10 time (time + 4) (op_named t o)
lower_is release time names w zero zero = omega arith
lower_is release time names w zero (suc zero) = omega arith
lower_is release time names w zero (suc (suc o)) = omega arith
lower_is release time names w (suc zero) zero = omega arith
lower_is release time names w (suc zero) (suc zero) = omega arith
lower_is release time names w (suc zero) (suc (suc o)) = omega (arith, put_off_or_not time (nat_eq 0 (suc (suc o))))
lower_is release time names w (suc (suc t)) zero = put_off_or_not time (nat_eq 1 (suc (suc t)) && true)
lower_is release time names w (suc (suc t)) (suc o) = omega (arith, put_off_or_not time (nat_eq 1 (suc (suc t)) && nat_eq 0 (suc o)))

heights : (release time : ℕ) (names : List (List ℕ)) (w : IsWellFormed (two_trains release) two_costs names) → IsHeight (root_of (two release names w) (put_off time)) (height 0 10 time (time + 4))
heights release time names w = record {
  lower = λ o. lower_is release time names w o.train o.op;
  arcs = λ u v arc_length arc. own_rises (height 0 10 time (time + 4)) (rises 0 10 time (time + 4) (omega arith) (omega arith)) u v arc_length (free_arcs release names w (put_off time) u v arc_length arc);
}

-- how long an operation has to wait, and its train's first takes
record Runs (release time : ℕ) (names : List (List ℕ)) (w : IsWellFormed (two_trains release) two_costs names) (t from : ℕ) : Type 0 where
  pub there : t < 2
  pub starts : lower_of (two release names w) (put_off time) (op_named t 0) ≡ from
  pub first : height 0 10 time (time + 4) (op_named t 0) ≡ from
  pub second : height 0 10 time (time + 4) (op_named t 1) ≡ from + lasts t

first_longest : (release time : ℕ) (names : List (List ℕ)) (w : IsWellFormed (two_trains release) two_costs names) (t from : ℕ) → Runs release time names w t from → IsLongest (root_of (two release names w) (put_off time)) (op_named t 0) from
first_longest release time names w t from runs =
    let node = root_of (two release names w) (put_off time) in
    let o = op_named t 0 in
    subst (IsLongest node o) runs.first
    (longest node (height 0 10 time (time + 4)) (heights release time names w) (o ∷ []) o ([], refl) (once (o ∷ []) (tt, tt))
    (forced release names w (put_off time) [] (have_routes release time names w) t 0 runs.there (omega arith), runs.starts ∙ sym runs.first))

second_longest : (release time : ℕ) (names : List (List ℕ)) (w : IsWellFormed (two_trains release) two_costs names) (t from : ℕ) → Runs release time names w t from → IsLongest (root_of (two release names w) (put_off time)) (op_named t 1) (from + lasts t)
second_longest release time names w t from runs =
    let node = root_of (two release names w) (put_off time) in
    let routes = have_routes release time names w in
    subst (IsLongest node (op_named t 1)) runs.second
    (longest node (height 0 10 time (time + 4)) (heights release time names w) (op_named t 0 ∷ op_named t 1 ∷ []) (op_named t 1) (op_named t 0 ∷ [], refl)
    (once (op_named t 0 ∷ op_named t 1 ∷ []) (((λ e. zero_is_one (ap (λ (x : Op). x.op) e)), tt), (tt, tt))) (
      forced release names w (put_off time) [] routes t 0 runs.there (omega arith),
      (lasts t, free_longest release names w (put_off time) routes t runs.there, ap (λ (n : ℕ). n + lasts t) runs.starts ∙ sym runs.second),
    ))
  where
    zero_is_one : ◌≡◌ {A = ℕ} 0 1 → ⊥
    zero_is_one e = omega (arith, e)

ends : (release time : ℕ) (names : List (List ℕ)) (w : IsWellFormed (two_trains release) two_costs names) (t from : ℕ) → Runs release time names w t from → IsEnd (root_of (two release names w) (put_off time)) (op_named t 0) (from + lasts t)
ends release time names w t from runs =
    inl (op_named t 1, (refl, λ route allowed. ap (after 0) (route_is release names w t route runs.there allowed.is_route)), second_longest release time names w t from runs)

a_runs : (release time : ℕ) (names : List (List ℕ)) (w : IsWellFormed (two_trains release) two_costs names) → Runs release time names w 0 0
a_runs release time names w = record { there = omega arith; starts = omega arith; first = refl; second = refl }

b_runs : (release time : ℕ) (names : List (List ℕ)) (w : IsWellFormed (two_trains release) two_costs names) → Runs release time names w 1 time
b_runs release time names w = record { there = omega arith; starts = omega arith; first = refl; second = refl }

-- A0 clears B0 from its end with the release time on, and not where they touch
clears : (release time : ℕ) (names : List (List ℕ)) (w : IsWellFormed (two_trains release) two_costs names) → 10 + release ≤ time → 10 < time → Clears (root_of (two release names w) (put_off time)) a0 b0
clears release time names w in_time below = record {
  end = 0 + lasts 0;
  end_is = ends release time names w 0 0 (a_runs release time names w);
  start = time;
  start_is = first_longest release time names w 1 time (b_runs release time names w);
  in_time = omega (arith, in_time, (a_then_b release names w).released);
  below = omega (arith, below);
}

not_clear : (release time : ℕ) (names : List (List ℕ)) (w : IsWellFormed (two_trains release) two_costs names) → (10 + release ≤ time → 10 < time → ⊥) → Clears (root_of (two release names w) (put_off time)) a0 b0 → ⊥
not_clear release time names w early c =
    let node = root_of (two release names w) (put_off time) in
    let from = forced release names w (put_off time) [] (have_routes release time names w) 0 0 (omega arith) (omega arith) in
    let end = one_end_time node a0 c.end (0 + lasts 0) from c.end_is (ends release time names w 0 0 (a_runs release time names w)) in
    let start = one_longest node b0 c.start time c.start_is (first_longest release time names w 1 time (b_runs release time names w)) in
    early (omega (arith, end, start, c.in_time, (a_then_b release names w).released)) (omega (arith, end, start, c.below))

not_clear_back : (release time : ℕ) (names : List (List ℕ)) (w : IsWellFormed (two_trains release) two_costs names) → Clears (root_of (two release names w) (put_off time)) b0 a0 → ⊥
not_clear_back release time names w c =
    let node = root_of (two release names w) (put_off time) in
    let start = one_longest node a0 c.start 0 c.start_is (first_longest release time names w 0 0 (a_runs release time names w)) in
    omega (arith, start, c.below)

opened_order : (release time : ℕ) (names : List (List ℕ)) (w : IsWellFormed (two_trains release) two_costs names) → (10 + release ≤ time → 10 < time → ⊥) → IsOpenOrder (root_of (two release names w) (put_off time)) a0 b0
opened_order release time names w early = record {
  trains = omega arith;
  from_forced = forced release names w (put_off time) [] (have_routes release time names w) 0 0 (omega arith) (omega arith);
  to_forced = forced release names w (put_off time) [] (have_routes release time names w) 1 0 (omega arith) (omega arith);
  conflicts = (a_then_b release names w).conflicts;
  undecided = none_decided a0 b0;
  undecided_back = none_decided b0 a0;
  not_clear = not_clear release time names w early;
  not_clear_back = not_clear_back release time names w;
}

pub touching_is_open : (problem : Problem) → HasTwoTrains 0 problem → IsOpen (root_of problem (NotBefore 1 0 10 ∷ [])) (Order a0 b0)
touching_is_open problem has =
    of_made (λ p. IsOpen (root_of p (NotBefore 1 0 10 ∷ [])) (Order a0 b0)) (two_trains 0) two_costs (λ names w. opened_order 0 10 names w (λ in_time below. omega (arith, below))) problem has.trains has.components

pub later_is_cleared : (problem : Problem) → HasTwoTrains 0 problem → Clears (root_of problem (NotBefore 1 0 11 ∷ [])) a0 b0
later_is_cleared problem has =
    of_made (λ p. Clears (root_of p (NotBefore 1 0 11 ∷ [])) a0 b0) (two_trains 0) two_costs (λ names w. clears 0 11 names w (omega arith) (omega arith)) problem has.trains has.components

pub released_is_open : (problem : Problem) → HasTwoTrains 3 problem → IsOpen (root_of problem (NotBefore 1 0 11 ∷ [])) (Order a0 b0)
released_is_open problem has =
    of_made (λ p. IsOpen (root_of p (NotBefore 1 0 11 ∷ [])) (Order a0 b0)) (two_trains 3) two_costs (λ names w. opened_order 3 11 names w (λ in_time below. omega (arith, in_time))) problem has.trains has.components

pub waited_is_cleared : (problem : Problem) → HasTwoTrains 3 problem → Clears (root_of problem (NotBefore 1 0 13 ∷ [])) a0 b0
waited_is_cleared problem has =
    of_made (λ p. Clears (root_of p (NotBefore 1 0 13 ∷ [])) a0 b0) (two_trains 3) two_costs (λ names w. clears 3 13 names w (omega arith) (omega arith)) problem has.trains has.components
