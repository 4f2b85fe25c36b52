-- With the second of the two trains decided first, the earliest plan is valid, and nothing is picked.
use Rattle.std.proofs.Common.{◌≡◌, ◌≢◌, ◌⊎◌, inl, inr, ℕ, zero, suc, ◌<◌, List, [], ◌∷◌, take, drop, None, refl, ap, ◌∙◌, arith, rules}
use Rattle.std.specs.List.{AllByRecursion}
use Rattle.disp_model.specs.Node.{node_at}
use Rattle.disp_model.specs.declared.train.Op.{Op}
use Rattle.disp_model.specs.declared.plan.Event.{Event}
use Rattle.disp_model.specs.declared.problem.Problem.{Problem}
use Rattle.disp_model.specs.WellFormed.{IsWellFormed}
use Rattle.disp_model.specs.Valid.{IsValid}
use Rattle.disp_model.specs.Routes.{IsForced}
use Rattle.disp_model.specs.Arcs.{IsArc, HasArc}
use Rattle.disp_model.specs.Walks.{IsLongest}
use Rattle.disp_model.specs.Earliest.{op_of, ComesBefore, IsReady, IsNext, IsEarliest, IsFixedPick}
use Rattle.definition_examples.specs.Trains.{HasTwoTrains, two_trains, two_costs, op_named, a0, a1, b0, b1}
use Rattle.definition_examples.specs.Plans.{event, second_first}
use Rattle.definition_examples.specs.Trees.{second_before}
use Rattle.definition_examples.proofs.Made.{of_made}
use Rattle.definition_examples.proofs.Pairs.{Places, at_each, at_pair}
use Rattle.definition_examples.proofs.Heights.{longest, no_cycle}
use Rattle.definition_examples.proofs.TwoArcs.{two, IsOpen, IsOwn, IsOrdered, IsFreed, ordered_arcs}
use Rattle.definition_examples.proofs.TwoWalks.{b_then_a, opened, unfixed, ordered, free_from_zero, forced, once, walk_from, own_walk, across, through, freed_longest}
use Rattle.definition_examples.proofs.TwoBounds.{height, b_first, b_first_height}
use Rattle.definition_examples.proofs.Picks.{of_each, one_route, each_stands, second_each, own_to, own_to_first, starts_again, next_of_sorted, AreDifferent}

open_second : (names : List (List ℕ)) (w : IsWellFormed (two_trains 0) two_costs names) → IsOpen (node_at (two 0 names w) [] second_before)
open_second names w = opened 0 names w [] second_before unfixed (ordered 1 0)

arcs : (names : List (List ℕ)) (w : IsWellFormed (two_trains 0) two_costs names) (u v : Op) (arc_length : ℕ) → IsArc (node_at (two 0 names w) [] second_before) u v arc_length
    → IsOwn u v arc_length ⊎ (IsOrdered (two 0 names w) 1 0 u v arc_length ⊎ IsFreed (two 0 names w) 1 0 u v arc_length)
arcs names w u v arc_length arc = ordered_arcs 0 names w [] 1 0 u v arc_length (omega arith) (open_second names w) arc

-- ---- no cycle: B0, B1, A0, A1 is an order of all arcs

abbrev rank : Op → ℕ
rank o = height 2 3 0 1 o

own_up : (t : ℕ) → t < 2 → rank (op_named t 0) < rank (op_named t 1)
own_up zero lt = omega arith
own_up (suc zero) lt = omega arith
own_up (suc (suc t)) lt = absurd (omega (arith, lt))

ranks : (names : List (List ℕ)) (w : IsWellFormed (two_trains 0) two_costs names) (u v : Op) (arc_length : ℕ) → IsArc (node_at (two 0 names w) [] second_before) u v arc_length → rank u < rank v
ranks names w u v arc_length arc =
    elim (arcs names w u v arc_length arc) [
      | inl own ↦ rw own.from_is (rw own.to_is (own_up own.train own.within))
      | inr more ↦ elim more [
        | inl order ↦ rw order.from_is (rw order.to_is (omega arith))
        | inr freed ↦ rw freed.from_is (rw freed.to_is (omega arith))
      ]
    ]

-- ---- each event is the next

op_differs : (s o t p : ℕ) → o ≢ p → op_named s o ≡ op_named t p → ⊥
op_differs s o t p ne e = ne (ap (λ (x : Op). x.op) e)

train_differs : (s o t p : ℕ) → s ≢ t → op_named s o ≡ op_named t p → ⊥
train_differs s o t p ne e = ne (ap (λ (x : Op). x.train) e)

b0_ready : (names : List (List ℕ)) (w : IsWellFormed (two_trains 0) two_costs names) → IsReady (node_at (two 0 names w) [] second_before) [] (event 1 0 0)
b0_ready names w o (arc_length, arc) =
    elim (arcs names w o b0 arc_length arc) [
      | inl own ↦ absurd (own_to_first o 1 arc_length own)
      | inr more ↦ elim more [
        | inl order ↦ absurd (train_differs 1 0 0 0 (λ e. omega (arith, e)) order.to_is)
        | inr freed ↦ absurd (train_differs 1 0 0 0 (λ e. omega (arith, e)) freed.to_is)
      ]
    ]

b1_ready : (names : List (List ℕ)) (w : IsWellFormed (two_trains 0) two_costs names) → IsReady (node_at (two 0 names w) [] second_before) (event 1 0 0 ∷ []) (event 1 1 4)
b1_ready names w o (arc_length, arc) =
    elim (arcs names w o b1 arc_length arc) [
      | inl own ↦ (event 1 0 0, (0, omega arith, refl), starts_again 1 0 0 o (own_to o 1 arc_length own))
      | inr more ↦ elim more [
        | inl order ↦ absurd (op_differs 1 1 0 0 (λ e. omega (arith, e)) order.to_is)
        | inr freed ↦ absurd (op_differs 1 1 0 0 (λ e. omega (arith, e)) freed.to_is)
      ]
    ]

a0_ready : (names : List (List ℕ)) (w : IsWellFormed (two_trains 0) two_costs names) → IsReady (node_at (two 0 names w) [] second_before) (event 1 0 0 ∷ event 1 1 4 ∷ []) (event 0 0 4)
a0_ready names w o (arc_length, arc) =
    elim (arcs names w o a0 arc_length arc) [
      | inl own ↦ absurd (own_to_first o 0 arc_length own)
      | inr more ↦ elim more [
        | inl order ↦ (event 1 0 0, (0, omega arith, refl), starts_again 1 0 0 o order.from_is)
        | inr freed ↦ (event 1 1 4, (1, omega arith, refl), starts_again 1 1 4 o freed.from_is)
      ]
    ]

a1_ready : (names : List (List ℕ)) (w : IsWellFormed (two_trains 0) two_costs names) → IsReady (node_at (two 0 names w) [] second_before) (event 1 0 0 ∷ event 1 1 4 ∷ event 0 0 4 ∷ []) (event 0 1 14)
a1_ready names w o (arc_length, arc) =
    elim (arcs names w o a1 arc_length arc) [
      | inl own ↦ (event 0 0 4, (2, omega arith, refl), starts_again 0 0 4 o (own_to o 0 arc_length own))
      | inr more ↦ elim more [
        | inl order ↦ absurd (op_differs 0 1 0 0 (λ e. omega (arith, e)) order.to_is)
        | inr freed ↦ absurd (op_differs 0 1 0 0 (λ e. omega (arith, e)) freed.to_is)
      ]
    ]

-- A0 is not ready before B1 stands, since an arc leads from B1 to it
a0_waits : (names : List (List ℕ)) (w : IsWellFormed (two_trains 0) two_costs names) → IsReady (node_at (two 0 names w) [] second_before) (event 1 0 0 ∷ []) (event 0 0 4) → ⊥
a0_waits names w ready =
    let arc : HasArc (node_at (two 0 names w) [] second_before) b1 a0 = (0, (freed_longest 0 names w [] 1 0 (b_then_a 0 names w) (open_second names w)).there) in
    let stood = ready b1 arc in
    let is_b0 : event 1 0 0 ≡ stood.0 = of_each (λ f. event 1 0 0 ≡ f) (event 1 0 0 ∷ []) (refl, tt) stood.0 stood.1 in
    let operation : 0 ≡ 1 = ap (λ (e : Event). e.operation) is_b0 ∙ stood.2.operation in
    omega (arith, operation)

b1_next : (names : List (List ℕ)) (w : IsWellFormed (two_trains 0) two_costs names)
    → IsNext (node_at (two 0 names w) [] second_before) (event 1 0 0 ∷ []) (event 1 1 4 ∷ event 0 0 4 ∷ event 0 1 14 ∷ []) (event 1 1 4)
b1_next names w = record {
  ready = b1_ready names w;
  first = λ f there is_ready.
      of_each (λ g. IsReady (node_at (two 0 names w) [] second_before) (event 1 0 0 ∷ []) g → (g ≡ event 1 1 4) ⊎ ComesBefore (event 1 1 4) g) (event 1 1 4 ∷ event 0 0 4 ∷ event 0 1 14 ∷ [])
      ((λ r. inl refl), ((λ r. absurd (a0_waits names w r)), ((λ r. inr (inl (omega arith))), tt))) f there is_ready;
}

second_ordered : (names : List (List ℕ)) (w : IsWellFormed (two_trains 0) two_costs names)
    → Places (λ i e. IsNext (node_at (two 0 names w) [] second_before) (take i second_first) (drop i second_first) e) 0 second_first
second_ordered names w =
    let problem = two 0 names w in (
      next_of_sorted (node_at problem [] second_before) [] second_first (event 1 0 0) (b0_ready names w) (inl refl, (inr (inl (omega arith)), (inr (inl (omega arith)), (inr (inl (omega arith)), tt)))),
      (
        b1_next names w,
        (
          next_of_sorted (node_at problem [] second_before) (event 1 0 0 ∷ event 1 1 4 ∷ []) (event 0 0 4 ∷ event 0 1 14 ∷ []) (event 0 0 4) (a0_ready names w) (inl refl, (inr (inl (omega arith)), tt)),
          (
            next_of_sorted (node_at problem [] second_before) (event 1 0 0 ∷ event 1 1 4 ∷ event 0 0 4 ∷ []) (event 0 1 14 ∷ []) (event 0 1 14) (a1_ready names w) (inl refl, tt),
            tt,
          ),
        ),
      ),
    )

-- ---- the earliest plan

second_starts : (names : List (List ℕ)) (w : IsWellFormed (two_trains 0) two_costs names)
    → AllByRecursion (λ e. IsForced (node_at (two 0 names w) [] second_before) (op_of e) × IsLongest (node_at (two 0 names w) [] second_before) (op_of e) e.time) second_first
second_starts names w =
    let problem = two 0 names w in
    let low = free_from_zero 0 names w in
    let open_all = open_second names w in
    let pair = b_then_a 0 names w in
    let h = b_first 0 in
    let is = b_first_height 0 names w [] low open_all in
    let at_b0 = forced 0 names w [] second_before open_all 1 0 (omega arith) (omega arith) in (
      (at_b0, longest (node_at problem [] second_before) h is (b0 ∷ []) b0 ([], refl) (once (b0 ∷ []) (search rules)) (walk_from (node_at problem [] second_before) b0 [] 0 low at_b0 refl)),
      (
        (forced 0 names w [] second_before open_all 1 1 (omega arith) (omega arith), longest (node_at problem [] second_before) h is (b0 ∷ b1 ∷ []) b1 (b0 ∷ [], refl) (once (b0 ∷ b1 ∷ []) (search rules)) (own_walk 0 names w [] 1 0 1 pair low open_all (omega arith))),
        (
          (forced 0 names w [] second_before open_all 0 0 (omega arith) (omega arith), longest (node_at problem [] second_before) h is (b0 ∷ b1 ∷ a0 ∷ []) a0 (b0 ∷ b1 ∷ [], refl) (once (b0 ∷ b1 ∷ a0 ∷ []) (search rules)) (across 0 names w [] 1 0 pair low open_all)),
          (
            (forced 0 names w [] second_before open_all 0 1 (omega arith) (omega arith), longest (node_at problem [] second_before) h is (b0 ∷ b1 ∷ a0 ∷ a1 ∷ []) a1 (b0 ∷ b1 ∷ a0 ∷ [], refl) (once (b0 ∷ b1 ∷ a0 ∷ a1 ∷ []) (search rules)) (through 0 names w [] 1 0 pair low open_all)),
            tt,
          ),
        ),
      ),
    )

second_different : AreDifferent second_first
second_different = search rules

second_earliest : (names : List (List ℕ)) (w : IsWellFormed (two_trains 0) two_costs names) → IsEarliest (node_at (two 0 names w) [] second_before) second_first
second_earliest names w =
    let problem = two 0 names w in
    let open_all = open_second names w in
    record {
      one_route = one_route 0 names w [] second_before open_all;
      no_cycle = no_cycle (node_at problem [] second_before) rank (ranks names w);
      each_run = each_stands 0 names w [] second_before open_all second_first second_each;
      none_else = of_each (λ e. IsForced (node_at problem [] second_before) (op_of e) × IsLongest (node_at problem [] second_before) (op_of e) e.time) second_first (second_starts names w);
      none_twice = λ i j e f lt at_i at_j. at_pair (λ k x l y. op_of x ≢ op_of y) 0 second_first second_different i j e f lt at_i at_j;
      ordered = at_each (λ i e. IsNext (node_at problem [] second_before) (take i second_first) (drop i second_first) e) second_first (second_ordered names w);
    }

second_valid : (names : List (List ℕ)) (w : IsWellFormed (two_trains 0) two_costs names) → IsValid (two 0 names w) [] second_first
second_valid names w = search rules

pub nothing_is_picked : (problem : Problem) → HasTwoTrains 0 problem → IsFixedPick (node_at problem [] second_before) None
nothing_is_picked problem has =
    of_made (λ p. IsFixedPick (node_at p [] second_before) None) (two_trains 0) two_costs
    (λ names w. record { plan = second_first; earliest = second_earliest names w; valid = second_valid names w }) problem has.trains has.components
