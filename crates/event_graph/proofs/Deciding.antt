-- What a decided order makes of what is kept.
use Rattle.std.proofs.Common.{◌≡◌, ◌∙◌, ℕ, ◌-◌, ◌≤◌, List, [], ◌∷◌, ◌++◌, length, take, Bool, Some, refl, sym, ap, subst, inl, inr, arith}
use Rattle.std.specs.Prelude.{◌↔◌, Contains, IsTrue}
use Rattle.std.proofs.lemmas.List.{length-append, take-append-le, take_all, append-nil}
use Rattle.std.proofs.lemmas.List.Elements.{All-push, All-pop, All-contains, All-weaker, Contains-push, Contains-push_cases, Contains-append_left}
use Rattle.disp_model.specs.declared.train.Op.{Op}
use Rattle.disp_model.specs.declared.decision.Decision.{Decision}
use Rattle.disp_model.specs.declared.decision.Decision.TheVariants.{First}
use Rattle.disp_model.specs.Numbers.{number_of}
use Rattle.disp_model.specs.Node.{Node, with_decision}
use Rattle.disp_model.specs.Routes.{AgreesWithDecision, IsForced}
use Rattle.disp_model.specs.Walks.{HasCycle}
use Rattle.incremental_paths.specs.declared.arc.Arc.{Arc}
use Rattle.timed_paths.specs.Timed.{Timed}
use Rattle.event_arcs.specs.declared.owns.Own.{Own}
use Rattle.event_arcs.specs.declared.placed.Placed.{Placed}
use Rattle.event_arcs.specs.Listed.{AreArcsOf}
use Rattle.event_windows.specs.Operations.{HasOperation}
use Rattle.event_arcs.specs.Ordering.{AddsOrder}
use Rattle.event_arcs.specs.Owned.{AreByTrain}
use Rattle.event_arcs.specs.Placed.{IsPlaced, ArePlaced}
use Rattle.event_arcs.proofs.Numbering.{forced_is_op}
use Rattle.event_arcs.proofs.Offsets.{all_have_routes}
use Rattle.event_arcs.proofs.Cycling.{same_cycles}
use Rattle.disp_laws.proofs.LeavesStay.{HaveRoutes}
use Rattle.event_graph.specs.declared.orders.Pair.{Pair}
use Rattle.event_graph.specs.Pairs.{IsDecidedAt, HasOrder}
use Rattle.event_graph.specs.States.{pair_of, AreOrdersOf, GraphState, IsStateAt, without_last_of}
use Rattle.event_graph.specs.declared.parts.Parts.{Parts}
use Rattle.event_graph.specs.declared.changes.Change.TheVariants.{Nothing, Order}
use Rattle.event_graph.specs.declared.faults.ExtendNo.{ExtendNo}
use Rattle.event_graph.specs.declared.faults.ExtendNo.TheVariants.{NoRoute, Cycle, Memory}
use Rattle.event_graph.specs.Joined.{MayJoin, IsCycleOr}
use Rattle.event_graph.specs.Kept.{MayDecide, MayAddOrder, IsRefusedAt, Decides}
use Rattle.event_graph.proofs.Narrowing.{IsApart, route_after, routes_after}
use Rattle.event_graph.proofs.Extending.{with_order, first_apart}

-- ---- routes that the decision is not about

pub placed_after : (node : Node) (d : Decision) (t : ℕ) (placed : Placed) → IsApart d t → IsPlaced node t placed → IsPlaced (with_decision node d) t placed
placed_after node d t placed apart is = record { first_is = is.first_is; are_routes = routes_after node d t placed.routes apart is.are_routes; has_route = route_after node d t apart is.has_route }

pub order_placed : (node : Node) (a b : Op) (each : List Placed) → ArePlaced node each → ArePlaced (with_decision node (First a b)) each
order_placed node a b each are = record { long = are.long; there = are.there; at = λ t placed here. placed_after node (First a b) t placed (first_apart a b t) (are.at t placed here) }

pub order_own : (node : Node) (a b : Op) (owns : List Own) → AreByTrain node.fixings node.decisions owns → AreByTrain node.fixings (with_decision node (First a b)).decisions owns
order_own node a b owns are = record {
  of_fixings = are.of_fixings;
  of_decisions = λ t route there. (
    λ all. (are.of_decisions t route there).0 (All-pop (AgreesWithDecision t route) (node.decisions ++ First a b ∷ []) node.decisions (Some (First a b)) refl all).0,
    λ own. All-push (AgreesWithDecision t route) node.decisions (First a b) ((are.of_decisions t route there).1 own) tt,
  );
}

pub placed_then : (node : Node) (ops : List Op) (each : List Placed) (paths : Timed) (d : Decision) → MayAddOrder node ops each paths d → ArePlaced (with_decision node d) each
placed_then node ops each paths d may = by may.is_order
  where
    by : (a : Op) × (b : Op) × (d ≡ First a b) → ArePlaced (with_decision node d) each
    by (a, b, is) = subst (λ (e : Decision). ArePlaced (with_decision node e) each) (sym is) (order_placed node a b each may.placed)

-- ---- its arcs

pub order_joins : (node : Node) (ops : List Op) (each : List Placed) (paths : Timed) (d : Decision) (arcs : List Arc) → MayAddOrder node ops each paths d → AddsOrder (with_decision node d) d [] arcs → MayJoin (with_decision node d) ops paths arcs
order_joins node ops each paths d arcs may adds = by may.is_order
  where
    by : (a : Op) × (b : Op) × (d ≡ First a b) → MayJoin (with_decision node d) ops paths arcs
    by (a, b, is) = record {
      ops_are = may.ops_are;
      lowers_are = record { long = may.lowers_are.long; at = may.lowers_are.at };
      edition = may.edition;
      arcs_are = subst (λ (e : Decision). AreArcsOf (with_decision node e) (paths.arcs ++ arcs)) (sym is)
          (with_order node a b paths.arcs arcs (λ t there. route_after node (First a b) t (first_apart a b t) (all_have_routes node each may.placed t there)) may.arcs_are
          (subst (λ (e : Decision). AddsOrder (with_decision node e) e [] arcs) is adds));
    }

-- ---- its place among the orders

pub one_more : (node : Node) (a b : Op) (pairs : List Pair) → AreOrdersOf node pairs → AreOrdersOf (with_decision node (First a b)) (pairs ++ pair_of node.problem a b ∷ [])
one_more node a b pairs are = record {
  decided = All-push (IsDecidedAt next) pairs (pair_of node.problem a b) (All-weaker (IsDecidedAt node) (IsDecidedAt next) (λ pair there. Contains-append_left node.decisions (First a b ∷ []) (First pair.first pair.second) there) pairs are.decided)
      (Contains-push node.decisions (First a b));
  listed = λ c d there one other. elim (Contains-push_cases node.decisions (First a b) (First c d) there) [
    | inl early ↦ Contains-append_left pairs (pair_of node.problem a b ∷ []) (pair_of node.problem c d) (are.listed c d early one other)
    | inr is ↦ subst (λ (p : Pair). Contains (pairs ++ pair_of node.problem a b ∷ []) p) (same c d is) (Contains-push pairs (pair_of node.problem a b))
  ];
}
  where
    next : Node
    next = with_decision node (First a b)

    first_of : Decision → Op
    first_of (First c d) = c
    first_of other = a

    second_of : Decision → Op
    second_of (First c d) = d
    second_of other = b

    same : (c d : Op) → First a b ≡ First c d → pair_of node.problem a b ≡ pair_of node.problem c d
    same c d is = ap (λ (e : Decision). pair_of node.problem (first_of e) (second_of e)) is

pub none_more : (node : Node) (a b : Op) (pairs : List Pair) → (HasOperation node.problem a → HasOperation node.problem b → ⊥) → AreOrdersOf node pairs → AreOrdersOf (with_decision node (First a b)) pairs
none_more node a b pairs none are = record {
  decided = All-weaker (IsDecidedAt node) (IsDecidedAt (with_decision node (First a b))) (λ pair there. Contains-append_left node.decisions (First a b ∷ []) (First pair.first pair.second) there) pairs are.decided;
  listed = λ c d there one other. elim (Contains-push_cases node.decisions (First a b) (First c d) there) [
    | inl early ↦ are.listed c d early one other
    | inr is ↦ absurd (none (subst (HasOperation node.problem) (sym (ap first_of is)) one) (subst (HasOperation node.problem) (sym (ap second_of is)) other))
  ];
}
  where
    first_of : Decision → Op
    first_of (First c d) = c
    first_of other = a

    second_of : Decision → Op
    second_of (First c d) = d
    second_of other = b

-- ---- the arcs that are added

pub back_to : {X : Type 0} → (old more : List X) → without_last_of (length more) (old ++ more) ≡ old
back_to old more = ap (λ (n : ℕ). take n (old ++ more)) (let same : length (old ++ more) - length more ≡ length old = omega (arith, length-append old more) in same) ∙ take-append-le (length old) old more (omega arith) ∙ take_all (length old) old (omega arith)

pub added : (node : Node) (old more new : List Arc) (count : ℕ) → new ≡ old ++ more → count ≡ length more → AreArcsOf node (old ++ more) → (HasCycle node → ⊥) → AreArcsOf node new × (HasCycle node → ⊥) × (count ≤ length new) × (without_last_of count new ≡ old)
added node old more new count is counted are none = (
  subst (AreArcsOf node) (sym is) are,
  none,
  omega (arith, counted, ap (λ (l : List Arc). length l) is, length-append old more),
  ap (λ (l : List Arc). without_last_of count l) is ∙ ap (λ (n : ℕ). without_last_of n (old ++ more)) counted ∙ back_to old more,
)

-- ---- what is kept then

abbrev pub HasAdded : Node → List Arc → List Arc → ℕ → Type 0
HasAdded node old new count = AreArcsOf node new × (HasCycle node → ⊥) × (count ≤ length new) × (without_last_of count new ≡ old)

pub order_decides : (node : Node) (a b : Op) (owns : List Own) (each : List Placed) (pairs : List Pair) (arcs : List Arc) (pair : Pair) (new_pairs : List Pair) (new_arcs : List Arc) (count : ℕ)
    → IsStateAt node (record { owns = owns; each = each; pairs = pairs; arcs = arcs }) → pair ≡ pair_of node.problem a b → new_pairs ≡ pairs ++ pair ∷ [] → HasAdded (with_decision node (First a b)) arcs new_arcs count
    → Decides (with_decision node (First a b)) (Order count) (record { owns = owns; each = each; pairs = pairs; arcs = arcs }) (record { owns = owns; each = each; pairs = new_pairs; arcs = new_arcs })
order_decides node a b owns each pairs arcs pair new_pairs new_arcs count state is pushed (are, none, within, back) = record {
  at = record {
    owns_long = state.owns_long;
    own = order_own node a b owns state.own;
    placed = order_placed node a b each state.placed;
    orders = subst (AreOrdersOf (with_decision node (First a b))) (sym (pushed ∙ ap (λ (p : Pair). pairs ++ p ∷ []) is)) (one_more node a b pairs state.orders);
    arcs = are;
    no_cycle = none;
  };
  may = (omega (arith, ap (λ (ps : List Pair). length ps) pushed, length-append pairs (pair ∷ [])), within);
  back = ap (λ (ps : List Pair). record { owns = owns; each = each; pairs = ps; arcs = without_last_of count new_arcs }) (ap (λ (ps : List Pair). without_last_of 1 ps) pushed ∙ back_to pairs (pair ∷ []))
      ∙ ap (λ (l : List Arc). record { owns = owns; each = each; pairs = pairs; arcs = l }) back;
}

pub nothing_decides : (node : Node) (a b : Op) (state : GraphState) → IsStateAt node state → (HasOperation node.problem a → HasOperation node.problem b → ⊥) → Decides (with_decision node (First a b)) Nothing state state
nothing_decides node a b state is none = record {
  at = record {
    owns_long = is.owns_long;
    own = order_own node a b state.owns is.own;
    placed = order_placed node a b state.each is.placed;
    orders = none_more node a b state.pairs none is.orders;
    arcs = arcs;
    no_cycle = λ has. is.no_cycle ((same_cycles node state.arcs is.arcs).0 ((same_cycles next state.arcs arcs).1 has));
  };
  may = tt;
  back = refl;
}
  where
    next : Node
    next = with_decision node (First a b)

    apart : (c d : Op) → First a b ≡ First c d → IsForced next c → IsForced next d → ⊥
    apart c d same one other = none (subst (HasOperation node.problem) (sym (ap first_of same)) (forced_is_op next c one)) (subst (HasOperation node.problem) (sym (ap second_of same)) (forced_is_op next d other))
      where
        first_of : Decision → Op
        first_of (First c d) = c
        first_of other = a

        second_of : Decision → Op
        second_of (First c d) = d
        second_of other = b

    adds : AddsOrder next (First a b) [] []
    adds = record { kept = λ arc there. there; sound = λ decided sound. sound; leads = λ c d same one other conflicts. absurd (apart c d same one other) }

    arcs : AreArcsOf next state.arcs
    arcs = subst (AreArcsOf next) (append-nil state.arcs) (with_order node a b state.arcs [] (λ t there. route_after node (First a b) t (first_apart a b t) (all_have_routes node state.each is.placed t there)) is.arcs adds)

pub refused_at : (node : Node) (why : ExtendNo) → HaveRoutes node → IsCycleOr node why → IsRefusedAt node why
refused_at node (NoRoute t) have says = absurd says
refused_at node (Cycle ops) have says = (have, says)
refused_at node Memory have says = tt

pub back_again : (owns : List Own) (each : List Placed) (pairs pushed popped : List Pair) (pair : Pair) (arcs now : List Arc) → pushed ≡ pairs ++ pair ∷ [] → popped ≡ take (length pushed - 1) pushed → now ≡ arcs
    → ◌≡◌ {A = GraphState} (record { owns = owns; each = each; pairs = popped; arcs = now }) (record { owns = owns; each = each; pairs = pairs; arcs = arcs })
back_again owns each pairs pushed popped pair arcs now up down same =
    ap (λ (ps : List Pair). record { owns = owns; each = each; pairs = ps; arcs = now }) (down ∙ ap (λ (ps : List Pair). without_last_of 1 ps) up ∙ back_to pairs (pair ∷ []))
    ∙ ap (λ (l : List Arc). record { owns = owns; each = each; pairs = pairs; arcs = l }) same

pub may_add : (node : Node) (ops : List Op) (parts : Parts) (each : List Placed) (a b : Op) → MayDecide node ops parts → each ≡ parts.each.items → MayAddOrder node ops each parts.paths (First a b)
may_add node ops parts each a b may is = record {
  is_order = (a, b, refl);
  ops_are = may.ops_are;
  lowers_are = may.lowers_are;
  edition = may.edition;
  placed = subst (ArePlaced node) (sym is) may.state.placed;
  arcs_are = may.state.arcs;
}

-- ---- whether it is decided

pub has_decided : (node : Node) (pairs : List Pair) (number : ℕ) (a b : Op) (has : Bool) → AreOrdersOf node pairs → HasOperation node.problem a → HasOperation node.problem b → number ≡ number_of node.problem a → IsTrue has ↔ HasOrder pairs number a b
    → IsTrue has ↔ Contains node.decisions (First a b)
has_decided node pairs number a b has are one other is says = (λ yes. by (says.0 yes), λ decided. says.1 (pair_of node.problem a b, are.listed a b decided one other, record { from_is = sym is; first_is = refl; second_is = refl }))
  where
    by : HasOrder pairs number a b → Contains node.decisions (First a b)
    by (pair, there, order) = subst (λ (d : Decision). Contains node.decisions d) (ap (λ (o : Op). First o pair.second) order.first_is ∙ ap (λ (o : Op). First a o) order.second_is) (All-contains (IsDecidedAt node) pairs pair are.decided there)
