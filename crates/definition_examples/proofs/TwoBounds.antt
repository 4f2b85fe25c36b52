-- The heights of the two trains' operations under each order, and the bounds.
use Rattle.std.proofs.Common.{◌≡◌, inl, inr, ℕ, zero, suc, ◌+◌, ◌-◌, ◌*◌, ◌<◌, ◌≤◌, List, [], ◌∷◌, refl, sym, ap, ◌∙◌, arith, rules, Bool, true, false, cond}
use Rattle.std.specs.Prelude.{nat_le}
use Rattle.disp_model.specs.Node.{Node, root_of, node_at}
use Rattle.disp_model.specs.declared.train.Op.{Op}
use Rattle.disp_model.specs.declared.train.Component.{Component}
use Rattle.disp_model.specs.declared.fixing.Fixing.{Fixing}
use Rattle.disp_model.specs.declared.decision.Decision.{Decision}
use Rattle.disp_model.specs.declared.problem.Problem.{Problem}
use Rattle.disp_model.specs.WellFormed.{IsWellFormed}
use Rattle.disp_model.specs.Cost.{cost_at}
use Rattle.disp_model.specs.Arcs.{release_of}
use Rattle.disp_model.specs.Walks.{IsLongest}
use Rattle.disp_model.specs.Nodes.{IsForcedBound, AddsForced, ForcedAddUp, component_op}
use Rattle.definition_examples.specs.Trains.{HasTwoTrains, two_trains, two_costs, op_named, a0, a1, b0, b1, each_unit}
use Rattle.definition_examples.specs.Trees.{first_before, second_before}
use Rattle.definition_examples.proofs.Made.{of_made}
use Rattle.definition_examples.proofs.Heights.{IsHeight, longest}
use Rattle.definition_examples.proofs.TwoArcs.{two, lasts, IsOpen, IsOwn, one_order, free_arcs, ordered_arcs}
use Rattle.definition_examples.proofs.TwoWalks.{IsPair, IsFromZero, a_then_b, b_then_a, opened, unfixed, undecided, ordered, free_from_zero, forced, once, free_walk, own_walk, through}

-- ---- a bound is one number

pub longest_is_one : (node : Node) (o : Op) (x y : ℕ) → IsLongest node o x → IsLongest node o y → x ≡ y
longest_is_one node o x y one other =
    let up : y ≤ x = one.none_longer other.reached.0 y other.reached.1 other.reached.2 other.reached.3 in
    let down : x ≤ y = other.none_longer one.reached.0 x one.reached.1 one.reached.2 one.reached.3 in
    omega (arith, up, down)

adds_one : (node : Node) (c : Component) (x y : ℕ) → AddsForced node c x → AddsForced node c y → x ≡ y
adds_one node c x y (inl (s, s_forced, s_longest, s_is)) (inl (t, t_forced, t_longest, t_is)) =
    s_is ∙ ap (cost_at c) (longest_is_one node (component_op c) s t s_longest t_longest) ∙ sym t_is
adds_one node c x y (inl (s, s_forced, s_longest, s_is)) (inr (free, is)) = absurd (free s_forced)
adds_one node c x y (inr (free, is)) (inl (t, t_forced, t_longest, t_is)) = absurd (free t_forced)
adds_one node c x y (inr (free, is)) (inr (other, too)) = is ∙ sym too

adds_up_one : (node : Node) (cs : List Component) (x y : ℕ) → ForcedAddUp node cs x → ForcedAddUp node cs y → x ≡ y
adds_up_one node [] x y h k = h ∙ sym k
adds_up_one node (c ∷ cs) x y (a, rest, adds, more, is) (b, other, adds_too, more_too, is_too) =
    let first : a ≡ b = adds_one node c a b adds adds_too in
    let later : rest ≡ other = adds_up_one node cs rest other more more_too in
    omega (arith, first, later, is, is_too)

pub bound_is_one : (node : Node) (x y : ℕ) → IsForcedBound node x → IsForcedBound node y → x ≡ y
bound_is_one node x y h k = adds_up_one node node.problem.components x y h k

-- ---- heights

abbrev pub height_at : ℕ → ℕ → ℕ → ℕ → ℕ → ℕ → ℕ
height_at w x y z zero zero = w
height_at w x y z zero (suc o) = x
height_at w x y z (suc t) zero = y
height_at w x y z (suc t) (suc o) = z

-- the heights of A0, A1, B0 and B1
abbrev pub height : ℕ → ℕ → ℕ → ℕ → Op → ℕ
height w x y z o = height_at w x y z o.train o.op

abbrev pub Rises : (Op → ℕ) → Type 0
Rises h = (t : ℕ) → t < 2 → h (op_named t 0) + lasts t ≤ h (op_named t 1)

pub rises : (w x y z : ℕ) → w + 10 ≤ x → y + 4 ≤ z → Rises (height w x y z)
rises w x y z a b zero lt = a
rises w x y z a b (suc zero) lt = b
rises w x y z a b (suc (suc t)) lt = absurd (omega (arith, lt))

pub own_rises : (h : Op → ℕ) → Rises h → (u v : Op) (arc_length : ℕ) → IsOwn u v arc_length → h u + arc_length ≤ h v
own_rises h up u v arc_length own = rw own.from_is (rw own.to_is (rw own.length_is (up own.train own.within)))

pub free_height : (release : ℕ) (names : List (List ℕ)) (w : IsWellFormed (two_trains release) two_costs names) (fixings : List Fixing) → IsFromZero (two release names w) fixings
    → (h : Op → ℕ) → Rises h → IsHeight (root_of (two release names w) fixings) h
free_height release names w fixings low h up = record {
  lower = λ o. let zero_low = low o in omega (arith, zero_low);
  arcs = λ u v arc_length arc. own_rises h up u v arc_length (free_arcs release names w fixings u v arc_length arc);
}

pub ordered_height : (release : ℕ) (names : List (List ℕ)) (w : IsWellFormed (two_trains release) two_costs names) (fixings : List Fixing) (s t : ℕ) → IsPair release (two release names w) s t
    → IsFromZero (two release names w) fixings → IsOpen (node_at (two release names w) fixings (one_order s t))
    → (h : Op → ℕ) → Rises h → h (op_named s 0) + (lasts s + release) ≤ h (op_named t 0) → h (op_named s 1) + release ≤ h (op_named t 0) → IsHeight (node_at (two release names w) fixings (one_order s t)) h
ordered_height release names w fixings s t pair low open_all h up order_up freed_up = record {
  lower = λ o. let zero_low = low o in omega (arith, zero_low);
  arcs = λ u v arc_length arc.
      elim (ordered_arcs release names w fixings s t u v arc_length pair.first open_all arc) [
        | inl own ↦ own_rises h up u v arc_length own
        | inr more ↦ elim more [
          | inl order ↦
              let long : arc_length ≡ lasts s + release = order.length_is ∙ ap (λ (m : ℕ). m + release_of (two release names w) (op_named s 0) (op_named t 0)) pair.min_is ∙ ap (λ (r : ℕ). lasts s + r) pair.released in
              rw order.from_is (rw order.to_is (rw long order_up))
          | inr freed ↦
              let long : arc_length ≡ release = freed.length_is ∙ pair.released in
              rw freed.from_is (rw freed.to_is (rw long freed_up))
        ]
      ];
}

-- the heights under each order
abbrev pub a_first : ℕ → Op → ℕ
a_first r = height 0 10 (10 + r) ((10 + r) + 4)

abbrev pub b_first : ℕ → Op → ℕ
b_first r = height (4 + r) ((4 + r) + 10) 0 4

pub a_first_height : (release : ℕ) (names : List (List ℕ)) (w : IsWellFormed (two_trains release) two_costs names) (fixings : List Fixing) → IsFromZero (two release names w) fixings
    → IsOpen (node_at (two release names w) fixings first_before) → IsHeight (node_at (two release names w) fixings first_before) (a_first release)
a_first_height release names w fixings low open_all =
    ordered_height release names w fixings 0 1 (a_then_b release names w) low open_all (a_first release)
    (rises 0 10 (10 + release) ((10 + release) + 4) (omega arith) (omega arith)) (omega arith) (omega arith)

pub b_first_height : (release : ℕ) (names : List (List ℕ)) (w : IsWellFormed (two_trains release) two_costs names) (fixings : List Fixing) → IsFromZero (two release names w) fixings
    → IsOpen (node_at (two release names w) fixings second_before) → IsHeight (node_at (two release names w) fixings second_before) (b_first release)
b_first_height release names w fixings low open_all =
    ordered_height release names w fixings 1 0 (b_then_a release names w) low open_all (b_first release)
    (rises (4 + release) ((4 + release) + 10) 0 4 (omega arith) (omega arith)) (omega arith) (omega arith)

-- ---- bounds

each_counts : (b : Bool) (x : ℕ) → x ≡ 1 * (x - 0) + cond b 0 0
each_counts true x = omega arith
each_counts false x = omega arith

pub unit_cost : (t o x : ℕ) → x ≡ cost_at (each_unit t o) x
unit_cost t o x = each_counts (nat_le 0 x) x

two_bound : (release : ℕ) (names : List (List ℕ)) (w : IsWellFormed (two_trains release) two_costs names) (fixings : List Fixing) (decisions : List Decision) (x y : ℕ)
    → IsOpen (node_at (two release names w) fixings decisions) → IsLongest (node_at (two release names w) fixings decisions) a1 x → IsLongest (node_at (two release names w) fixings decisions) b1 y
    → IsForcedBound (node_at (two release names w) fixings decisions) (x + (y + 0))
two_bound release names w fixings decisions x y open_all of_a of_b = (
  x,
  y + 0,
  inl (x, forced release names w fixings decisions open_all 0 1 (omega arith) (omega arith), of_a, unit_cost 0 1 x),
  (y, 0, inl (y, forced release names w fixings decisions open_all 1 1 (omega arith) (omega arith), of_b, unit_cost 1 1 y), refl, refl),
  refl,
)

pub free_bound : (release : ℕ) (names : List (List ℕ)) (w : IsWellFormed (two_trains release) two_costs names) (fixings : List Fixing) → IsFromZero (two release names w) fixings
    → IsOpen (root_of (two release names w) fixings) → IsForcedBound (root_of (two release names w) fixings) 14
free_bound release names w fixings low open_all =
    let problem = two release names w in
    let h = height 0 10 0 4 in
    let is = free_height release names w fixings low h (rises 0 10 0 4 (omega arith) (omega arith)) in
    two_bound release names w fixings [] 10 4 open_all
    (longest (root_of problem fixings) h is (a0 ∷ a1 ∷ []) a1 (a0 ∷ [], refl) (once (a0 ∷ a1 ∷ []) (search rules)) (free_walk release names w fixings low open_all 0 (omega arith)))
    (longest (root_of problem fixings) h is (b0 ∷ b1 ∷ []) b1 (b0 ∷ [], refl) (once (b0 ∷ b1 ∷ []) (search rules)) (free_walk release names w fixings low open_all 1 (omega arith)))

pub a_first_bound : (release : ℕ) (names : List (List ℕ)) (w : IsWellFormed (two_trains release) two_costs names) (fixings : List Fixing) → IsFromZero (two release names w) fixings
    → IsOpen (node_at (two release names w) fixings first_before) → IsForcedBound (node_at (two release names w) fixings first_before) (10 + (((10 + release) + 4) + 0))
a_first_bound release names w fixings low open_all =
    let problem = two release names w in
    let h = a_first release in
    let pair = a_then_b release names w in
    let is = a_first_height release names w fixings low open_all in
    two_bound release names w fixings first_before 10 ((10 + release) + 4) open_all
    (longest (node_at problem fixings first_before) h is (a0 ∷ a1 ∷ []) a1 (a0 ∷ [], refl) (once (a0 ∷ a1 ∷ []) (search rules)) (own_walk release names w fixings 0 1 0 pair low open_all (omega arith)))
    (longest (node_at problem fixings first_before) h is (a0 ∷ a1 ∷ b0 ∷ b1 ∷ []) b1 (a0 ∷ a1 ∷ b0 ∷ [], refl) (once (a0 ∷ a1 ∷ b0 ∷ b1 ∷ []) (search rules)) (through release names w fixings 0 1 pair low open_all))

pub b_first_bound : (release : ℕ) (names : List (List ℕ)) (w : IsWellFormed (two_trains release) two_costs names) (fixings : List Fixing) → IsFromZero (two release names w) fixings
    → IsOpen (node_at (two release names w) fixings second_before) → IsForcedBound (node_at (two release names w) fixings second_before) (((4 + release) + 10) + (4 + 0))
b_first_bound release names w fixings low open_all =
    let problem = two release names w in
    let h = b_first release in
    let pair = b_then_a release names w in
    let is = b_first_height release names w fixings low open_all in
    two_bound release names w fixings second_before ((4 + release) + 10) 4 open_all
    (longest (node_at problem fixings second_before) h is (b0 ∷ b1 ∷ a0 ∷ a1 ∷ []) a1 (b0 ∷ b1 ∷ a0 ∷ [], refl) (once (b0 ∷ b1 ∷ a0 ∷ a1 ∷ []) (search rules)) (through release names w fixings 1 0 pair low open_all))
    (longest (node_at problem fixings second_before) h is (b0 ∷ b1 ∷ []) b1 (b0 ∷ [], refl) (once (b0 ∷ b1 ∷ []) (search rules)) (own_walk release names w fixings 1 0 1 pair low open_all (omega arith)))

-- ---- on a problem

pub free_is_14 : (problem : Problem) → HasTwoTrains 0 problem → IsForcedBound (root_of problem []) 14
free_is_14 problem has =
    of_made (λ p. IsForcedBound (root_of p []) 14) (two_trains 0) two_costs
    (λ names w. free_bound 0 names w [] (free_from_zero 0 names w) (opened 0 names w [] [] unfixed undecided)) problem has.trains has.components

pub only_14 : (problem : Problem) (bound : ℕ) → HasTwoTrains 0 problem → IsForcedBound (root_of problem []) bound → bound ≡ 14
only_14 problem bound has is = bound_is_one (root_of problem []) bound 14 is (free_is_14 problem has)

a_first_at : (release : ℕ) (problem : Problem) → HasTwoTrains release problem → IsForcedBound (node_at problem [] first_before) (10 + (((10 + release) + 4) + 0))
a_first_at release problem has =
    of_made (λ p. IsForcedBound (node_at p [] first_before) (10 + (((10 + release) + 4) + 0))) (two_trains release) two_costs
    (λ names w. a_first_bound release names w [] (free_from_zero release names w) (opened release names w [] first_before unfixed (ordered 0 1))) problem has.trains has.components

b_first_at : (release : ℕ) (problem : Problem) → HasTwoTrains release problem → IsForcedBound (node_at problem [] second_before) (((4 + release) + 10) + (4 + 0))
b_first_at release problem has =
    of_made (λ p. IsForcedBound (node_at p [] second_before) (((4 + release) + 10) + (4 + 0))) (two_trains release) two_costs
    (λ names w. b_first_bound release names w [] (free_from_zero release names w) (opened release names w [] second_before unfixed (ordered 1 0))) problem has.trains has.components

pub first_is_24 : (problem : Problem) → HasTwoTrains 0 problem → IsForcedBound (node_at problem [] first_before) 24
first_is_24 problem has = a_first_at 0 problem has

pub second_is_18 : (problem : Problem) → HasTwoTrains 0 problem → IsForcedBound (node_at problem [] second_before) 18
second_is_18 problem has = b_first_at 0 problem has

pub first_is_27 : (problem : Problem) → HasTwoTrains 3 problem → IsForcedBound (node_at problem [] first_before) 27
first_is_27 problem has = a_first_at 3 problem has

pub second_is_21 : (problem : Problem) → HasTwoTrains 3 problem → IsForcedBound (node_at problem [] second_before) 21
second_is_21 problem has = b_first_at 3 problem has

pub only_27 : (problem : Problem) (bound : ℕ) → HasTwoTrains 3 problem → IsForcedBound (node_at problem [] first_before) bound → bound ≡ 27
only_27 problem bound has is = bound_is_one (node_at problem [] first_before) bound 27 is (first_is_27 problem has)

pub only_21 : (problem : Problem) (bound : ℕ) → HasTwoTrains 3 problem → IsForcedBound (node_at problem [] second_before) bound → bound ≡ 21
only_21 problem bound has is = bound_is_one (node_at problem [] second_before) bound 21 is (second_is_21 problem has)
