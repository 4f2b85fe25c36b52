-- The routes of all trains, as they are read and kept, and the numbers of their first operations.
use Rattle.std.proofs.Common.{◌≡◌, ℕ, ◌+◌, ◌^◌, ◌<◌, List, [], ◌∷◌, ◌++◌, length, get_or, Some, refl, sym, ap, subst, ◌∙◌, inl, inr, arith}
use Rattle.std.specs.Prelude.{slice_get}
use Rattle.std.proofs.lemmas.Option.{slice_get_read}
use Rattle.std.proofs.lemmas.List.{length-append, get_or_default}
use Rattle.std.proofs.lemmas.List.Sums.{sum_by_more, sum_by-take-le}
use Rattle.disp_model.specs.declared.train.Operation.{Operation}
use Rattle.disp_model.specs.declared.fixing.Fixing.{Fixing}
use Rattle.disp_model.specs.declared.decision.Decision.{Decision}
use Rattle.disp_model.specs.declared.problem.Problem.{Problem}
use Rattle.disp_model.specs.Numbers.{number_of}
use Rattle.disp_model.specs.Valid.{train_at}
use Rattle.disp_model.specs.Node.{Node, node_at}
use Rattle.disp_model.specs.Routes.{HasRoute}
use Rattle.disp_laws.proofs.HorizonBounds.{get_within}
use Rattle.disp_laws.proofs.Numbered.{below_count}
use Rattle.train_orders.proofs.Places.{get_push_cases}
use Rattle.route_sets.specs.declared.routes.Routes.{Routes}
use Rattle.route_sets.specs.Sets.{op_of_train, AreRoutesOf}
use Rattle.train_orders.specs.Orders.{IsOrder}
use Rattle.event_arcs.specs.declared.owns.Own.{Own}
use Rattle.event_arcs.specs.declared.placed.Placed.{Placed}
use Rattle.event_arcs.specs.Owned.{own_at, AreByTrain}
use Rattle.event_arcs.specs.Placed.{IsPlaced, ArePlacedTo, ArePlaced, IsFirstWithout}
use Rattle.event_arcs.proofs.Owning.{own_routes}

-- ---- what is read

pub placed_at : (node : Node) (each : List Placed) (t : ℕ) (placed : Placed) → ArePlaced node each → t < length each → placed ≡ get_or each t placed → IsPlaced node t placed
placed_at node each t placed are lt is = are.at t placed (slice_get_read each (length each) t placed refl lt is)

-- the order that is kept with the routes is one of the train
pub kept_order : (node : Node) (t : ℕ) (placed : Placed) → IsPlaced node t placed → IsOrder (train_at node.problem t) placed.routes.order.items
kept_order node t placed is = is.are_routes.is_order (is.are_routes.left.1 is.has_route)

pub first_small : (node : Node) (t : ℕ) (placed : Placed) → t < length node.problem.trains → IsPlaced node t placed → placed.first < 2 ^ 31
first_small node t placed there is =
    let entered = (node.problem.well_formed.acyclic t [] there).entered in
    omega (arith, is.first_is, below_count node.problem (op_of_train t 0) there entered, node.problem.well_formed.operations_fit)

-- ---- the numbers of the first operations

pub first_of_next : (problem : Problem) (t : ℕ) → t < length problem.trains → number_of problem (op_of_train (t + 1) 0) ≡ number_of problem (op_of_train t 0) + length (train_at problem t)
first_of_next problem t there = omega (arith, sum_by_more (λ (train : List Operation). length train) problem.trains t [] there)

pub first_within : (problem : Problem) (t : ℕ) → number_of problem (op_of_train t 0) < 2 ^ 31
first_within problem t = omega (arith, sum_by-take-le (λ (train : List Operation). length train) problem.trains t, problem.well_formed.operations_fit)

-- ---- the routes of one more train

-- the routes by what is the train's own are those by all fixings and decisions
pub routes_by_own : (problem : Problem) (fixings own_fixings : List Fixing) (decisions own_decisions : List Decision) (owns : List Own) (t : ℕ) (own : Own) (routes : Routes) → AreByTrain fixings decisions owns → t < length owns
    → own ≡ get_or owns t own → own_fixings ≡ own.fixings → own_decisions ≡ own.decisions
    → AreRoutesOf (node_at problem own_fixings own_decisions) t routes → AreRoutesOf (node_at problem fixings decisions) t routes
routes_by_own problem fixings own_fixings decisions own_decisions owns t own routes are lt is fixings_is decisions_is says =
    let read : own_at owns t ≡ own = get_or_default owns t (record { fixings = []; decisions = [] }) own lt ∙ sym is in
    let first : own_fixings ≡ (own_at owns t).fixings = fixings_is ∙ ap (λ (o : Own). o.fixings) (sym read) in
    let second : own_decisions ≡ (own_at owns t).decisions = decisions_is ∙ ap (λ (o : Own). o.decisions) (sym read) in
    own_routes problem fixings (own_at owns t).fixings decisions (own_at owns t).decisions t (λ route. are.of_fixings t route lt) (λ route. are.of_decisions t route lt) routes
    (subst (λ (l : List Fixing). AreRoutesOf (node_at problem l (own_at owns t).decisions) t routes) first
    (subst (λ (l : List Decision). AreRoutesOf (node_at problem own_fixings l) t routes) second says))

pub placed_more : (node : Node) (t : ℕ) (each new : List Placed) (placed : Placed) → t < length node.problem.trains → ArePlacedTo node t each → IsPlaced node t placed → new ≡ each ++ placed ∷ [] → ArePlacedTo node (t + 1) new
placed_more node t each new placed there are is new_is = record {
  long = ap length new_is ∙ omega (arith, length-append each (placed ∷ []), are.long);
  there = omega (arith, there);
  at = λ u other at. elim (get_push_cases each placed other u (subst (λ (l : List Placed). slice_get l u ≡ Some other) new_is at)) [
    | inl before ↦ are.at u other before
    | inr now ↦
        let u_is : t ≡ u = omega (arith, now.0, are.long) in
        subst (λ (p : Placed). IsPlaced node u p) now.1 (subst (λ (n : ℕ). IsPlaced node n placed) u_is is)
  ];
}

pub first_without : (node : Node) (t : ℕ) (each : List Placed) → t < length node.problem.trains → ArePlacedTo node t each → (HasRoute node t → ⊥) → IsFirstWithout node t
first_without node t each there are none = record {
  there = there;
  none = none;
  before = λ u lt. let found = get_within each u (omega (arith, lt, are.long)) in (are.at u found.0 found.1).has_route;
}

pub all_have_routes : (node : Node) (each : List Placed) → ArePlaced node each → (t : ℕ) → t < length node.problem.trains → HasRoute node t
all_have_routes node each are t there = let found = get_within each t (omega (arith, there, are.long)) in (are.at t found.0 found.1).has_route
