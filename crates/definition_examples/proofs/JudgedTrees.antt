-- The trees of the examples, judged.
use Rattle.std.proofs.Common.{◌≡◌, ◌≢◌, inl, inr, ℕ, ◌+◌, ◌≤◌, List, [], ◌∷◌, Some, refl, sym, subst, ap, ◌∙◌, arith, rules}
use Rattle.std.specs.Prelude.{slice_get}
use Rattle.std.proofs.lemmas.Option.{same_Some}
use Rattle.disp_model.specs.Node.{Node, node_at}
use Rattle.disp_model.specs.declared.train.Op.{Op}
use Rattle.disp_model.specs.declared.train.Component.{Component}
use Rattle.disp_model.specs.declared.fixing.Fixing.{Fixing}
use Rattle.disp_model.specs.declared.decision.Decision.{Decision}
use Rattle.disp_model.specs.declared.problem.Problem.{Problem}
use Rattle.disp_model.specs.declared.tree.ComponentWalk.{ComponentWalk}
use Rattle.disp_model.specs.declared.tree.Verdict.TheVariants.{Optimal}
use Rattle.disp_model.specs.WellFormed.{IsWellFormed}
use Rattle.disp_model.specs.Cost.{cost_at}
use Rattle.disp_model.specs.Routes.{HasNoRoute}
use Rattle.disp_model.specs.Walks.{IsWalk}
use Rattle.disp_model.specs.Nodes.{component_op, IsDead}
use Rattle.disp_model.specs.Trees.{WalkCosts, HaveDistinct, CostsEnough, IsLateWalk, Accepts}
use Rattle.definition_examples.specs.Trains.{HasTwoTrains, two_trains, two_costs, op_named, a0, a1, b0, b1, each_unit}
use Rattle.definition_examples.specs.Trees.{walk_to, first_before, second_before, order_tree, counted_twice, late_tree}
use Rattle.definition_examples.specs.Histories.{a0_at_0}
use Rattle.definition_examples.proofs.Made.{of_made}
use Rattle.definition_examples.proofs.Pairs.{PairPlaces, at_pair}
use Rattle.definition_examples.proofs.Heights.{IsHeight, longest, walk_below}
use Rattle.definition_examples.proofs.TwoArcs.{two, IsOpen}
use Rattle.definition_examples.proofs.TwoWalks.{IsFromZero, a_then_b, b_then_a, opened, unfixed, started, ordered, free_from_zero, started_from_zero, once, own_walk, across, through}
use Rattle.definition_examples.proofs.TwoBounds.{unit_cost, b_first, b_first_height}

distinct : (walks : List ComponentWalk) → PairPlaces (λ i v j w. v.component ≢ w.component) 0 walks → HaveDistinct walks
distinct walks h i j v w lt at_i at_j = at_pair (λ k x l y. x.component ≢ y.component) 0 walks h i j v w lt at_i at_j

abbrev first_walks : List ComponentWalk
first_walks = walk_to 0 (a0 ∷ a1 ∷ []) ∷ walk_to 1 (a0 ∷ a1 ∷ b0 ∷ b1 ∷ []) ∷ []

abbrev second_walks : List ComponentWalk
second_walks = walk_to 0 (b0 ∷ b1 ∷ a0 ∷ a1 ∷ []) ∷ walk_to 1 (b0 ∷ b1 ∷ []) ∷ []

-- the leaf of the first train first reaches 24
first_enough : (names : List (List ℕ)) (w : IsWellFormed (two_trains 0) two_costs names) (fixings : List Fixing) (cost : ℕ) → IsFromZero (two 0 names w) fixings
    → IsOpen (node_at (two 0 names w) fixings first_before) → cost ≤ 24 → CostsEnough (node_at (two 0 names w) fixings first_before) first_walks cost
first_enough names w fixings cost low open_all le =
    let problem = two 0 names w in
    let pair = a_then_b 0 names w in
    let of_a : WalkCosts (node_at problem fixings first_before) (walk_to 0 (a0 ∷ a1 ∷ [])) 10 = record {
      component = each_unit 0 1;
      there = refl;
      ends = (a0 ∷ [], refl);
      total = 10;
      is_walk = own_walk 0 names w fixings 0 1 0 pair low open_all (omega arith);
      cost_is = unit_cost 0 1 10;
    } in
    let of_b : WalkCosts (node_at problem fixings first_before) (walk_to 1 (a0 ∷ a1 ∷ b0 ∷ b1 ∷ [])) 14 = record {
      component = each_unit 1 1;
      there = refl;
      ends = (a0 ∷ a1 ∷ b0 ∷ [], refl);
      total = 14;
      is_walk = through 0 names w fixings 0 1 pair low open_all;
      cost_is = unit_cost 1 1 14;
    } in
    record {
      distinct = distinct first_walks (search rules);
      sum = 24;
      sum_is = (10, 14, of_a, (14, 0, of_b, refl, refl), refl);
      enough = le;
    }

-- the leaf of the second train first reaches 18
second_enough : (names : List (List ℕ)) (w : IsWellFormed (two_trains 0) two_costs names) (fixings : List Fixing) (cost : ℕ) → IsFromZero (two 0 names w) fixings
    → IsOpen (node_at (two 0 names w) fixings second_before) → cost ≤ 18 → CostsEnough (node_at (two 0 names w) fixings second_before) second_walks cost
second_enough names w fixings cost low open_all le =
    let problem = two 0 names w in
    let pair = b_then_a 0 names w in
    let of_a : WalkCosts (node_at problem fixings second_before) (walk_to 0 (b0 ∷ b1 ∷ a0 ∷ a1 ∷ [])) 14 = record {
      component = each_unit 0 1;
      there = refl;
      ends = (b0 ∷ b1 ∷ a0 ∷ [], refl);
      total = 14;
      is_walk = through 0 names w fixings 1 0 pair low open_all;
      cost_is = unit_cost 0 1 14;
    } in
    let of_b : WalkCosts (node_at problem fixings second_before) (walk_to 1 (b0 ∷ b1 ∷ [])) 4 = record {
      component = each_unit 1 1;
      there = refl;
      ends = (b0 ∷ [], refl);
      total = 4;
      is_walk = own_walk 0 names w fixings 1 0 1 pair low open_all (omega arith);
      cost_is = unit_cost 1 1 4;
    } in
    record {
      distinct = distinct second_walks (search rules);
      sum = 18;
      sum_is = (14, 4, of_a, (4, 0, of_b, refl, refl), refl);
      enough = le;
    }

accepted_made : (names : List (List ℕ)) (w : IsWellFormed (two_trains 0) two_costs names) → Accepts (two 0 names w) [] (Optimal 18) order_tree
accepted_made names w =
    let low = free_from_zero 0 names w in (
      (a_then_b 0 names w).conflicts,
      refl,
      (
        inr (first_enough names w [] 18 low (opened 0 names w [] first_before unfixed (ordered 0 1)) (omega arith)),
        (inr (second_enough names w [] 18 low (opened 0 names w [] second_before unfixed (ordered 1 0)) (omega arith)), tt),
      ),
    )

pub accepted : (problem : Problem) → HasTwoTrains 0 problem → Accepts problem [] (Optimal 18) order_tree
accepted problem has = of_made (λ p. Accepts p [] (Optimal 18) order_tree) (two_trains 0) two_costs accepted_made problem has.trains has.components

-- ---- too little

-- a walk costs no more than the height of the operation of its component
cost_below : (node : Node) (h : Op → ℕ) → IsHeight node h
    → (w : ComponentWalk) (cost t o : ℕ) → slice_get node.problem.components w.component ≡ Some (each_unit t o) → WalkCosts node w cost → cost ≤ h (op_named t o)
cost_below node h is w cost t o at costs =
    let same : costs.component ≡ each_unit t o = same_Some costs.component (each_unit t o) (sym costs.there ∙ at) in
    let below : costs.total ≤ h (component_op costs.component) = walk_below node h is w.walk costs.total (component_op costs.component) costs.is_walk costs.ends in
    let limit : costs.total ≤ h (op_named t o) = subst (λ (c : Component). costs.total ≤ h (component_op c)) same below in
    let cost_is : cost ≡ costs.total = costs.cost_is ∙ ap (λ (c : Component). cost_at c costs.total) same ∙ sym (unit_cost t o costs.total) in
    omega (arith, limit, cost_is)

pub has_route : (release : ℕ) (names : List (List ℕ)) (w : IsWellFormed (two_trains release) two_costs names) (fixings : List Fixing) (decisions : List Decision) → IsOpen (node_at (two release names w) fixings decisions) → HasNoRoute (node_at (two release names w) fixings decisions) → ⊥
has_route release names w fixings decisions open_all (t, lt, none) = none (0 ∷ 1 ∷ [], open_all t lt)

second_at_most_18 : (names : List (List ℕ)) (w : IsWellFormed (two_trains 0) two_costs names) (fixings : List Fixing) (cost : ℕ) → IsFromZero (two 0 names w) fixings
    → IsOpen (node_at (two 0 names w) fixings second_before) → CostsEnough (node_at (two 0 names w) fixings second_before) second_walks cost → cost ≤ 18
second_at_most_18 names w fixings cost low open_all enough =
    let problem = two 0 names w in
    let is = b_first_height 0 names w fixings low open_all in
    let sums = enough.sum_is in
    let of_a : sums.0 ≤ 14 = cost_below (node_at problem fixings second_before) (b_first 0) is (walk_to 0 (b0 ∷ b1 ∷ a0 ∷ a1 ∷ [])) sums.0 0 1 refl sums.2 in
    let of_b : sums.3.0 ≤ 4 = cost_below (node_at problem fixings second_before) (b_first 0) is (walk_to 1 (b0 ∷ b1 ∷ [])) sums.3.0 1 1 refl sums.3.2 in
    let nil : sums.3.1 ≡ 0 = sums.3.3 in
    let rest : sums.1 ≡ sums.3.0 + sums.3.1 = sums.3.4 in
    let all : enough.sum ≡ sums.0 + sums.1 = sums.4 in
    let reach : cost ≤ enough.sum = enough.enough in
    omega (arith, of_a, of_b, nil, rest, all, reach)

not_19 : (names : List (List ℕ)) (w : IsWellFormed (two_trains 0) two_costs names) → Accepts (two 0 names w) [] (Optimal 19) order_tree → ⊥
not_19 names w (conflicts, children, (first, (second, done))) =
    let low = free_from_zero 0 names w in
    let open_all = opened 0 names w [] second_before unfixed (ordered 1 0) in
    elim second [
      | inl none ↦ has_route 0 names w [] second_before open_all none
      | inr enough ↦ let less : 19 ≤ 18 = second_at_most_18 names w [] 19 low open_all enough in omega (arith, less)
    ]

pub too_much : (problem : Problem) → HasTwoTrains 0 problem → Accepts problem [] (Optimal 19) order_tree → ⊥
too_much problem has = of_made (λ p. Accepts p [] (Optimal 19) order_tree → ⊥) (two_trains 0) two_costs not_19 problem has.trains has.components

-- ---- one component twice

not_twice : (names : List (List ℕ)) (w : IsWellFormed (two_trains 0) two_costs names) → Accepts (two 0 names w) [] (Optimal 18) counted_twice → ⊥
not_twice names w (conflicts, children, (first, (second, done))) =
    elim second [
      | inl none ↦ has_route 0 names w [] second_before (opened 0 names w [] second_before unfixed (ordered 1 0)) none
      | inr enough ↦ enough.distinct 0 1 (walk_to 0 (b0 ∷ b1 ∷ a0 ∷ a1 ∷ [])) (walk_to 0 (b0 ∷ b1 ∷ a0 ∷ a1 ∷ [])) (omega arith) refl refl refl
    ]

pub one_component_twice : (problem : Problem) → HasTwoTrains 0 problem → Accepts problem [] (Optimal 18) counted_twice → ⊥
one_component_twice problem has = of_made (λ p. Accepts p [] (Optimal 18) counted_twice → ⊥) (two_trains 0) two_costs not_twice problem has.trains has.components

-- ---- too late

pub late_walk_made : (names : List (List ℕ)) (w : IsWellFormed (two_trains 0) two_costs names) → IsLateWalk (node_at (two 0 names w) (a0_at_0 ∷ []) second_before) (b0 ∷ b1 ∷ a0 ∷ [])
late_walk_made names w = record {
  end = a0;
  ends = (b0 ∷ b1 ∷ [], refl);
  total = 4;
  is_walk = across 0 names w (a0_at_0 ∷ []) 1 0 (b_then_a 0 names w) (started_from_zero 0 names w) (opened 0 names w (a0_at_0 ∷ []) second_before started (ordered 1 0));
  upper = 0;
  upper_is = refl;
  late = omega arith;
}

pub late_walk : (problem : Problem) → HasTwoTrains 0 problem → IsLateWalk (node_at problem (a0_at_0 ∷ []) second_before) (b0 ∷ b1 ∷ a0 ∷ [])
late_walk problem has = of_made (λ p. IsLateWalk (node_at p (a0_at_0 ∷ []) second_before) (b0 ∷ b1 ∷ a0 ∷ [])) (two_trains 0) two_costs late_walk_made problem has.trains has.components

pub late_made : (names : List (List ℕ)) (w : IsWellFormed (two_trains 0) two_costs names) → Accepts (two 0 names w) (a0_at_0 ∷ []) (Optimal 24) late_tree
late_made names w = (
  (a_then_b 0 names w).conflicts,
  refl,
  (
    inr (first_enough names w (a0_at_0 ∷ []) 24 (started_from_zero 0 names w) (opened 0 names w (a0_at_0 ∷ []) first_before started (ordered 0 1)) (omega arith)),
    (inr (late_walk_made names w), tt),
  ),
)

pub late_accepted : (problem : Problem) → HasTwoTrains 0 problem → Accepts problem (a0_at_0 ∷ []) (Optimal 24) late_tree
late_accepted problem has = of_made (λ p. Accepts p (a0_at_0 ∷ []) (Optimal 24) late_tree) (two_trains 0) two_costs late_made problem has.trains has.components

dead_late_made : (names : List (List ℕ)) (w : IsWellFormed (two_trains 0) two_costs names) → IsDead (node_at (two 0 names w) (a0_at_0 ∷ []) second_before)
dead_late_made names w =
    let problem = two 0 names w in
    let low = started_from_zero 0 names w in
    let open_all = opened 0 names w (a0_at_0 ∷ []) second_before started (ordered 1 0) in
    let is = b_first_height 0 names w (a0_at_0 ∷ []) low open_all in
    let walk : IsWalk (node_at problem (a0_at_0 ∷ []) second_before) (b0 ∷ b1 ∷ a0 ∷ []) 4 = across 0 names w (a0_at_0 ∷ []) 1 0 (b_then_a 0 names w) low open_all in
    inr (inr (record {
      operation = a0;
      total = 4;
      longest = longest (node_at problem (a0_at_0 ∷ []) second_before) (b_first 0) is (b0 ∷ b1 ∷ a0 ∷ []) a0 (b0 ∷ b1 ∷ [], refl) (once (b0 ∷ b1 ∷ a0 ∷ []) (search rules)) walk;
      upper = 0;
      upper_is = refl;
      late = omega arith;
    }))

pub dead_late : (problem : Problem) → HasTwoTrains 0 problem → IsDead (node_at problem (a0_at_0 ∷ []) second_before)
dead_late problem has = of_made (λ p. IsDead (node_at p (a0_at_0 ∷ []) second_before)) (two_trains 0) two_costs dead_late_made problem has.trains has.components
