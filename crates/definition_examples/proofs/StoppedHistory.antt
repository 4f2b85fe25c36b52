-- The history of an edition that is stopped at once, since its budget is 0.
use Rattle.std.proofs.Common.{◌≡◌, ◌⊎◌, inl, inr, ℕ, zero, suc, ◌+◌, ◌<◌, ◌≤◌, List, [], ◌∷◌, Some, None, refl, sym, subst, ap, ◌∙◌, arith}
use Rattle.std.specs.Prelude.{slice_get, ◌==◌}
use Rattle.std.proofs.lemmas.Option.{none-some, same_Some, cond_some, slice_get-get_or}
use Rattle.definition_examples.specs.Histories.{fixed_rule}
use Rattle.disp_model.specs.Node.{root_of, node_at}
use Rattle.disp_model.specs.declared.decision.Decision.{Decision}
use Rattle.disp_model.specs.declared.plan.Event.{Event}
use Rattle.disp_model.specs.declared.problem.Problem.{Problem}
use Rattle.disp_model.specs.declared.entry.Entry.TheVariants.{Stopped}
use Rattle.disp_model.specs.WellFormed.{IsWellFormed}
use Rattle.disp_model.specs.Plan.{end_of}
use Rattle.disp_model.specs.Valid.{IsValid, IsReleased}
use Rattle.disp_model.specs.Routes.{Starts}
use Rattle.disp_model.specs.Walks.{IsLongest}
use Rattle.disp_model.specs.Nodes.{IsDead, HasLate, IsForcedBound}
use Rattle.disp_model.specs.Earliest.{op_of, PicksNone}
use Rattle.disp_model.specs.Replay.{above_leaf, grown_by}
use Rattle.disp_model.specs.Legal.{IsLegal, IsLegalStop, HasLive}
use Rattle.definition_examples.specs.Trains.{HasTwoTrains, two_trains, two_costs, op_named, listing, lasting}
use Rattle.definition_examples.specs.Plans.{event}
use Rattle.definition_examples.specs.Histories.{stopped}
use Rattle.definition_examples.proofs.Made.{of_made}
use Rattle.definition_examples.proofs.Heights.{longest, no_cycle}
use Rattle.definition_examples.proofs.JudgedPlans.{too_near}
use Rattle.definition_examples.proofs.JudgedTrees.{has_route}
use Rattle.definition_examples.proofs.JudgedHistories.{legal}
use Rattle.definition_examples.proofs.TwoArcs.{two, IsOpen, free_arcs}
use Rattle.definition_examples.proofs.TwoWalks.{opened, unfixed, undecided, free_from_zero, forced, once, walk_from}
use Rattle.definition_examples.proofs.TwoBounds.{height, rises, free_height, free_bound, bound_is_one, longest_is_one}
use Rattle.definition_examples.proofs.Picks.{own_ranks}
use Rattle.definition_examples.proofs.SettledHistory.{no_upper}

open_free : (names : List (List ℕ)) (w : IsWellFormed (two_trains 0) two_costs names) → IsOpen (root_of (two 0 names w) [])
open_free names w = opened 0 names w [] [] unfixed undecided

-- ---- the root is not dead

not_late : (names : List (List ℕ)) (w : IsWellFormed (two_trains 0) two_costs names) → HasLate (root_of (two 0 names w) []) → ⊥
not_late names w late = none-some late.upper (sym (no_upper names w late.operation.train late.operation.op) ∙ late.upper_is)

alive : (names : List (List ℕ)) (w : IsWellFormed (two_trains 0) two_costs names) → IsDead (root_of (two 0 names w) []) → ⊥
alive names w dead =
    elim dead [
      | inl none ↦ has_route 0 names w [] [] (open_free names w) none
      | inr more ↦ elim more [
        | inl cycle ↦ no_cycle (root_of (two 0 names w) []) (λ o. o.op) (λ u v arc_length arc. own_ranks u v arc_length (free_arcs 0 names w [] u v arc_length arc)) cycle
        | inr late ↦ not_late names w late
      ]
    ]

-- ---- no plan of earliest starts is valid there: A0 and B0 both start at 0

a0_released : (names : List (List ℕ)) (w : IsWellFormed (two_trains 0) two_costs names) (plan : List Event) (i j : ℕ) → i < j → slice_get plan i ≡ Some (event 0 0 0) → slice_get plan j ≡ Some (event 1 0 0)
    → IsValid (two 0 names w) [] plan → ⊥
a0_released names w plan i j lt at_a at_b valid =
    let l = listing 0 0 in
    let released : IsReleased (end_of (two_trains 0) plan i (event 0 0 0)) l j (event 1 0 0)
    = too_near (two 0 names w) plan i j (event 0 0 0) (event 1 0 0) (lasting 10 (l ∷ []) (1 ∷ [])) (lasting 4 (l ∷ []) (1 ∷ [])) l refl refl refl refl
    (valid.apart i j (event 0 0 0) (event 1 0 0) lt at_a at_b (λ e. omega (arith, e))) in
    let lasts : 0 + 10 ≤ (end_of (two_trains 0) plan i (event 0 0 0)).time = valid.durations i (event 0 0 0) at_a in
    let time : (end_of (two_trains 0) plan i (event 0 0 0)).time + 0 ≤ 0 = released.time in
    omega (arith, lasts, time)

b0_released : (names : List (List ℕ)) (w : IsWellFormed (two_trains 0) two_costs names) (plan : List Event) (i j : ℕ) → i < j → slice_get plan i ≡ Some (event 1 0 0) → slice_get plan j ≡ Some (event 0 0 0)
    → IsValid (two 0 names w) [] plan → ⊥
b0_released names w plan i j lt at_b at_a valid =
    let l = listing 0 0 in
    let released : IsReleased (end_of (two_trains 0) plan i (event 1 0 0)) l j (event 0 0 0)
    = too_near (two 0 names w) plan i j (event 1 0 0) (event 0 0 0) (lasting 4 (l ∷ []) (1 ∷ [])) (lasting 10 (l ∷ []) (1 ∷ [])) l refl refl refl refl
    (valid.apart i j (event 1 0 0) (event 0 0 0) lt at_b at_a (λ e. omega (arith, e))) in
    let lasts : 0 + 4 ≤ (end_of (two_trains 0) plan i (event 1 0 0)).time = valid.durations i (event 1 0 0) at_b in
    let time : (end_of (two_trains 0) plan i (event 1 0 0)).time + 0 ≤ 0 = released.time in
    omega (arith, lasts, time)

clash : (names : List (List ℕ)) (w : IsWellFormed (two_trains 0) two_costs names) (plan : List Event) (i j : ℕ) → (i < j) ⊎ ((i ≡ j) ⊎ (j < i)) → slice_get plan i ≡ Some (event 0 0 0) → slice_get plan j ≡ Some (event 1 0 0)
    → IsValid (two 0 names w) [] plan → ⊥
clash names w plan i j (inl lt) at_a at_b valid = a0_released names w plan i j lt at_a at_b valid
clash names w plan i j (inr (inr lt)) at_a at_b valid = b0_released names w plan j i lt at_b at_a valid
clash names w plan i j (inr (inl same)) at_a at_b valid =
    let one : event 0 0 0 ≡ event 1 0 0 = same_Some (event 0 0 0) (event 1 0 0) (sym at_a ∙ ap (slice_get plan) same ∙ at_b) in
    let train : 0 ≡ 1 = ap (λ (e : Event). e.train) one in
    omega (arith, train)

event_is : (e : Event) (t o time : ℕ) → e.train ≡ t → e.operation ≡ o → e.time ≡ time → e ≡ event t o time
event_is e t o time same_t same_o same_time =
    subst (λ s. e ≡ event s o time) same_t (subst (λ p. e ≡ event e.train p time) same_o (subst (λ x. e ≡ event e.train e.operation x) same_time refl))

op_of_is : (e : Event) (t o : ℕ) → Starts (op_named t o) e → op_of e ≡ op_named t o
op_of_is e t o starts = subst (λ s. op_of e ≡ op_named s o) starts.train (subst (λ p. op_of e ≡ op_named e.train p) starts.operation refl)

starts_at_0 : (names : List (List ℕ)) (w : IsWellFormed (two_trains 0) two_costs names) (t : ℕ) → t < 2 → height 0 10 0 4 (op_named t 0) ≡ 0 → IsLongest (root_of (two 0 names w) []) (op_named t 0) 0
starts_at_0 names w t lt low_height =
    let problem = two 0 names w in
    let h = height 0 10 0 4 in
    let low = free_from_zero 0 names w in
    let is = free_height 0 names w [] low h (rises 0 10 0 4 (omega arith) (omega arith)) in
    let at = forced 0 names w [] [] (open_free names w) t 0 lt (omega arith) in
    subst (λ n. IsLongest (root_of problem []) (op_named t 0) n) low_height
    (longest (root_of problem []) h is (op_named t 0 ∷ []) (op_named t 0) ([], refl) (once (op_named t 0 ∷ []) (tt, tt)) (walk_from (root_of problem []) (op_named t 0) [] (h (op_named t 0)) low at (sym low_height)))

stands_at_0 : (names : List (List ℕ)) (w : IsWellFormed (two_trains 0) two_costs names) (p : PicksNone (root_of (two 0 names w) [])) (t : ℕ) → t < 2 → height 0 10 0 4 (op_named t 0) ≡ 0 → (i : ℕ) × (slice_get p.plan i ≡ Some (event t 0 0))
stands_at_0 names w p t lt low_height =
    let run = p.earliest.each_run (op_named t 0) (forced 0 names w [] [] (open_free names w) t 0 lt (omega arith)) in
    let e = run.0 in
    let op : op_of e ≡ op_named t 0 = op_of_is e t 0 run.2 in
    let long : IsLongest (root_of (two 0 names w) []) (op_named t 0) e.time = subst (λ o. IsLongest (root_of (two 0 names w) []) o e.time) op (p.earliest.none_else e run.1).1 in
    let time : e.time ≡ 0 = longest_is_one (root_of (two 0 names w) []) (op_named t 0) e.time 0 long (starts_at_0 names w t lt low_height) in
    let is : e ≡ event t 0 0 = event_is e t 0 0 run.2.train run.2.operation time in
    (run.1.0, slice_get-get_or p.plan run.1.0 e run.1.1 ∙ ap Some (run.1.2 ∙ is))

trichotomy : (i j : ℕ) → (i < j) ⊎ ((i ≡ j) ⊎ (j < i))
trichotomy zero zero = inr (inl refl)
trichotomy zero (suc j) = inl (omega arith)
trichotomy (suc i) zero = inr (inr (omega arith))
trichotomy (suc i) (suc j) =
    elim (trichotomy i j) [
      | inl lt ↦ inl (omega (arith, lt))
      | inr more ↦ elim more [ inl same ↦ inr (inl (ap suc same)) | inr lt ↦ inr (inr (omega (arith, lt))) ]
    ]

not_ready : (names : List (List ℕ)) (w : IsWellFormed (two_trains 0) two_costs names) → PicksNone (root_of (two 0 names w) []) → ⊥
not_ready names w p =
    let of_a = stands_at_0 names w p 0 (omega arith) refl in
    let of_b = stands_at_0 names w p 1 (omega arith) refl in
    clash names w p.plan of_a.0 of_b.0 (trichotomy of_a.0 of_b.0) of_a.1 of_b.1 p.valid

-- ---- the one leaf

root_alone : (problem : Problem) (node : ℕ) (above : List Decision) → above_leaf node (grown_by problem []).places ≡ Some above → [] ≡ above
root_alone problem node above there = (cond_some (0 == node) [] above there).1

live_bound : (names : List (List ℕ)) (w : IsWellFormed (two_trains 0) two_costs names) (node : ℕ) (above : List Decision) (bound : ℕ) → HasLive (two 0 names w) (fixed_rule 0) [] node above bound → bound ≡ 14
live_bound names w node above bound live =
    let root : [] ≡ above = root_alone (two 0 names w) node above live.there in
    let is : IsForcedBound (root_of (two 0 names w) []) bound = subst (λ (ds : List Decision). IsForcedBound (node_at (two 0 names w) [] ds) bound) (sym root) live.live.bound_is in
    bound_is_one (root_of (two 0 names w) []) bound 14 is (free_bound 0 names w [] (free_from_zero 0 names w) (open_free names w))

stop : (names : List (List ℕ)) (w : IsWellFormed (two_trains 0) two_costs names) → IsLegalStop (two 0 names w) (fixed_rule 0) [] 0 0 14
stop names w = record {
  working = record { newest_is = refl; working = refl };
  spent_is = refl;
  budget_is = refl;
  some_live = (
    0,
    [],
    record {
      there = refl;
      live = record { alive = alive names w; bound_is = free_bound 0 names w [] (free_from_zero 0 names w) (open_free names w); below = (None, refl, tt) };
    },
  );
  least = λ node above other live. let same : other ≡ 14 = live_bound names w node above other live in omega (arith, same);
  none_ready = λ node above other live picked.
      not_ready names w (subst (λ (ds : List Decision). PicksNone (node_at (two 0 names w) [] ds)) (sym (root_alone (two 0 names w) node above live.there)) picked);
}

pub stopped_is_legal : (problem : Problem) → HasTwoTrains 0 problem → IsLegal problem (fixed_rule 0) (stopped 0 14)
stopped_is_legal problem has =
    legal problem 0 (stopped 0 14) (of_made (λ p. IsLegalStop p (fixed_rule 0) [] 0 0 14) (two_trains 0) two_costs stop problem has.trains has.components, tt)

bound_is_14 : (bound : ℕ) (names : List (List ℕ)) (w : IsWellFormed (two_trains 0) two_costs names) → IsLegalStop (two 0 names w) (fixed_rule 0) [] 0 0 bound → bound ≡ 14
bound_is_14 bound names w s = live_bound names w s.some_live.0 s.some_live.1 bound s.some_live.2

pub stopped_with_14 : (problem : Problem) (bound : ℕ) → HasTwoTrains 0 problem → IsLegal problem (fixed_rule 0) (stopped 0 bound) → bound ≡ 14
stopped_with_14 problem bound has each =
    of_made (λ p. IsLegalStop p (fixed_rule 0) [] 0 0 bound → bound ≡ 14) (two_trains 0) two_costs (bound_is_14 bound) problem has.trains has.components (each 0 (Stopped 0 0 bound) refl)
