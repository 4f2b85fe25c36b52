-- What is arranged is the plan of earliest starts of each node that the paths show.
use Rattle.std.proofs.Common.{◌≡◌, ℕ, zero, suc, ◌<◌, ◌≤◌, List, [], ◌∷◌, ◌++◌, length, get_or, take, drop, map, Some, refl, sym, ap, subst, ◌∙◌, arith, inl, inr, Contains}
use Rattle.std.specs.Prelude.{All, slice_get, ◌⊎◌}
use Rattle.std.specs.List.Sorted.{IsPermutation}
use Rattle.std.proofs.lemmas.Bool.{cases_lt}
use Rattle.std.proofs.lemmas.Option.{none-some, same_Some}
use Rattle.std.proofs.lemmas.List.{append-nil}
use Rattle.std.proofs.lemmas.List.Elements.{All-contains}
use Rattle.std.proofs.lemmas.List.Sorted.{IsPermutation-sym, Contains-permutation}
use Rattle.disp_model.specs.declared.train.Op.{Op}
use Rattle.disp_model.specs.declared.plan.Event.{Event}
use Rattle.disp_model.specs.declared.problem.Problem.{Problem}
use Rattle.disp_model.specs.Numbers.{number_of}
use Rattle.disp_model.specs.Valid.{train_at}
use Rattle.disp_model.specs.Node.{Node}
use Rattle.disp_model.specs.Routes.{IsForced, Starts}
use Rattle.disp_model.specs.Arcs.{HasArc}
use Rattle.disp_model.specs.Walks.{ClosesTo, HasCycle}
use Rattle.disp_model.specs.Walks as of_node
use Rattle.disp_model.specs.Earliest.{op_of, ComesBefore, IsReady, IsNext, IsEarliest}
use Rattle.disp_laws.proofs.Paths.{IsIn, is_in, contains_in}
use Rattle.disp_laws.proofs.Numbered.{numbers_apart}
use Rattle.disp_laws.proofs.Picked.{same_op}
use Rattle.disp_laws.proofs.LongestWalks.{Among, Once, from_once}
use Rattle.disp_laws.proofs.EarliestExists.{in_some_order}
use Rattle.disp_laws.proofs.EarliestPlans.{taken_get, get_taken}
use Rattle.incremental_paths.specs.declared.arc.Arc.{Arc}
use Rattle.incremental_paths.specs.Walks.{JoinsPair, IsLongestLength, FollowsArcs, last_node_from}
use Rattle.incremental_paths.specs.Network.{Network}
use Rattle.plan_builder.specs.declared.stop.Stop.{Stop}
use Rattle.plan_builder.specs.Shown.{FitTrains, AreOnlyRoutes, StandsFor, ShowsNode}
use Rattle.plan_builder.specs.Stops.{IsStop, ops_from, AreOnce, IsBlocked, IsFirstFree, AreStopsArranged}
use Rattle.plan_builder.proofs.Counting.{one_place, once_moved, once_named}
use Rattle.plan_builder.proofs.Places.{stands_in, stands_at, stands_from, dropped_stands, mapped_at, from_mapped_at}
use Rattle.plan_builder.proofs.Listing.{ops_among, among_ops, ops_once, route_once, route_inside}

abbrev ops_of : List Stop → List Op
ops_of stops = map (λ s. op_of s.event) stops

-- ---- stops and their operations

among_stops : (stops : List Stop) (s : Stop) → Contains stops s → Among (op_of s.event) (ops_of stops)
among_stops [] s (k, lt, is) = absurd (omega (arith, lt))
among_stops (r ∷ stops) s (zero, lt, is) = inl (ap (λ (x : Stop). op_of x.event) is)
among_stops (r ∷ stops) s (suc k, lt, is) = inr (among_stops stops s (k, omega (arith, lt), is))

stop_among : (stops : List Stop) (o : Op) → Among o (ops_of stops) → (s : Stop) × Contains stops s × (op_of s.event ≡ o)
stop_among [] o there = absurd there
stop_among (r ∷ stops) o (inl same) = (r, (0, omega arith, refl), same)
stop_among (r ∷ stops) o (inr there) = let later = stop_among stops o there in (later.0, (suc later.1.0, omega (arith, later.1.1), later.1.2), later.2)

module _ (problem : Problem) (network : Network) (routes : List (List ℕ)) (fit : FitTrains problem.trains routes) (stops : List Stop) (ops : ops_of stops ≡ ops_from 0 routes) (each : All (IsStop problem network) stops) where
  pub on_route : (s : Stop) → Contains stops s → (s.event.train < length problem.trains) × Contains (get_or routes s.event.train []) s.event.operation
  on_route s there =
      let stands = ops_among 0 routes (op_of s.event) (subst (Among (op_of s.event)) ops (among_stops stops s there)) in
      let same : stands.0 ≡ s.event.train = omega (arith, stands.2) in
      (omega (arith, stands.1, fit.count, stands.2), contains_in s.event.operation (get_or routes s.event.train []) (subst (λ (k : ℕ). IsIn s.event.operation (get_or routes k [])) same stands.3))

  pub inside : (s : Stop) → Contains stops s → s.event.operation < length (train_at problem s.event.train)
  inside s there =
      let on = on_route s there in route_inside (train_at problem s.event.train) (get_or routes s.event.train []) (fit.each s.event.train on.0) s.event.operation on.1

  pub stop_of : (o : Op) → o.train < length problem.trains → Contains (get_or routes o.train []) o.op → (s : Stop) × Contains stops s × (op_of s.event ≡ o)
  stop_of o lt there =
      stop_among stops o (subst (Among o) (sym ops) (among_ops 0 routes o (o.train, omega (arith, lt, fit.count), omega arith, is_in o.op (get_or routes o.train []) there)))

  pub told_apart : (s r : Stop) → Contains stops s → Contains stops r → s.node ≡ r.node → op_of s.event ≡ op_of r.event
  told_apart s r one other same =
      let first = All-contains (IsStop problem network) stops s each one in
      let second = All-contains (IsStop problem network) stops r each other in
      numbers_apart problem (op_of s.event) (op_of r.event) (on_route s one).0 (inside s one) (on_route r other).0 (inside r other) (sym first.node ∙ same ∙ second.node)

  pub stops_once : AreOnce stops
  stops_once =
      let once = ops_once 0 routes (λ k u lt. route_once (train_at problem k) u (get_or routes k []) (problem.well_formed.acyclic k [] (omega (arith, lt, fit.count))) (fit.each k (omega (arith, lt, fit.count)))) in
      let apart = from_once (ops_of stops) (subst Once (sym ops) once) in
      once_named (λ s. op_of s.event) stops told_apart (λ i j s r lt one other same.
      apart i j (op_of r.event) lt (mapped_at (λ (s : Stop). op_of s.event) stops i s one ∙ ap (λ (o : Op). Some o) same) (mapped_at (λ (s : Stop). op_of s.event) stops j r other))

-- ---- what is arranged

first_at : (arcs : List Arc) (plan rest : List Stop) (i : ℕ) (s : Stop) → AreStopsArranged arcs plan rest → slice_get plan i ≡ Some s → IsFirstFree arcs (drop i plan ++ rest) s
first_at arcs [] rest i s arranged at = absurd (none-some s at)
first_at arcs (r ∷ plan) rest zero s arranged at = subst (IsFirstFree arcs (r ∷ plan ++ rest)) (same_Some r s at) arranged.0
first_at arcs (r ∷ plan) rest (suc i) s arranged at = first_at arcs plan rest i s arranged.1 at

module _ (node : Node) (network : Network) (routes : List (List ℕ)) (fit : FitTrains node.problem.trains routes) (stops : List Stop) (ops : ops_of stops ≡ ops_from 0 routes) (each : All (IsStop node.problem network) stops)
    (plan : List Stop) (moved : IsPermutation stops plan) (arranged : AreStopsArranged network.arcs plan []) (only : AreOnlyRoutes node routes) (shows : ShowsNode node network) where
  once : AreOnce plan
  once = once_moved stops plan moved (stops_once node.problem network routes fit stops ops each)

  stop_at : (i : ℕ) (s : Stop) → slice_get plan i ≡ Some s → Contains stops s
  stop_at i s at = Contains-permutation plan stops s (IsPermutation-sym stops plan moved) (stands_in plan i s at)

  is_stop_at : (i : ℕ) (s : Stop) → slice_get plan i ≡ Some s → IsStop node.problem network s
  is_stop_at i s at = All-contains (IsStop node.problem network) stops s each (stop_at i s at)

  forced_at : (i : ℕ) (s : Stop) → slice_get plan i ≡ Some s → IsForced node (op_of s.event)
  forced_at i s at =
      let on = on_route node.problem network routes fit stops ops each s (stop_at i s at) in
      let one = only s.event.train on.0 in
      record {
        train = on.0;
        allowed = (get_or routes s.event.train [], one.allowed);
        each_has = λ route allowed. subst (λ (r : List ℕ). Contains r s.event.operation) (sym (one.alone route allowed)) on.1;
      }

  -- the place of a forced operation
  place_of : (o : Op) → IsForced node o → (i : ℕ) × (s : Stop) × (slice_get plan i ≡ Some s) × (op_of s.event ≡ o)
  place_of o forced =
      let found = stop_of node.problem network routes fit stops ops each o forced.train (forced.each_has (get_or routes o.train []) (only o.train forced.train).allowed) in
      let at = stands_at plan found.0 (Contains-permutation stops plan found.0 moved found.1) in
      (at.0, found.0, at.1, found.2)

  number_at : (i : ℕ) (s : Stop) (o : Op) → slice_get plan i ≡ Some s → op_of s.event ≡ o → s.node ≡ number_of node.problem o
  number_at i s o at own = (is_stop_at i s at).node ∙ ap (number_of node.problem) own

  one_place_each : (i j : ℕ) (s r : Stop) → slice_get plan i ≡ Some s → slice_get plan j ≡ Some r → op_of s.event ≡ op_of r.event → i ≡ j
  one_place_each i j s r at there same = one_place plan i j s r once at there (number_at i s (op_of r.event) at same ∙ sym (number_at j r (op_of r.event) there refl))

  first_free_at : (i : ℕ) (s : Stop) → slice_get plan i ≡ Some s → IsFirstFree network.arcs (drop i plan) s
  first_free_at i s at = subst (λ (l : List Stop). IsFirstFree network.arcs l s) (append-nil (drop i plan)) (first_at network.arcs plan [] i s arranged at)

  -- ---- arcs lead to later places

  joined_order : (i j : ℕ) (s r : Stop) → slice_get plan i ≡ Some s → slice_get plan j ≡ Some r → JoinsPair network.arcs s.node r.node → i < j
  joined_order i j s r at there joined = elim (cases_lt i j) [
    | inl lt ↦ lt
    | inr le ↦ absurd ((first_free_at j r there).free (s, stands_from plan j i s le at, joined))
  ]

  stands_for : (arc : Arc) → Contains network.arcs arc → StandsFor node arc
  stands_for arc there = All-contains (StandsFor node) network.arcs arc shows.sound there

  joined_place : (u v : ℕ) → JoinsPair network.arcs u v → (i : ℕ) × (s : Stop) × (slice_get plan i ≡ Some s) × (s.node ≡ v)
  joined_place u v (k, arc, lt, is, (from, to)) =
      let own = stands_for arc (k, lt, is) in
      let at = place_of own.v own.there.1.to_forced in
      (at.0, at.1, at.2, number_at at.0 at.1 own.v at.2 at.3 ∙ sym own.to_is ∙ to)

  follows_order : (u : ℕ) (rest : List ℕ) (i j : ℕ) (s r : Stop) → slice_get plan i ≡ Some s → s.node ≡ u → slice_get plan j ≡ Some r → FollowsArcs network.arcs u rest → last_node_from u rest ≡ r.node → i ≤ j
  follows_order u [] i j s r at own there follows ends = let same = one_place plan i j s r once at there (own ∙ ends) in omega (arith, same)
  follows_order u (v ∷ rest) i j s r at own there follows ends =
      let next = joined_place u v follows.0 in
      let joined = subst (λ (n : ℕ). JoinsPair network.arcs n next.1.node) (sym own) (subst (JoinsPair network.arcs u) (sym next.3) follows.0) in
      omega (arith, joined_order i next.0 s next.1 at next.2 joined, follows_order v rest next.0 j next.1 r next.2 next.3 there follows.1 ends)

  arc_order : (u v : Op) (i j : ℕ) (s r : Stop) → HasArc node u v → slice_get plan i ≡ Some s → op_of s.event ≡ u → slice_get plan j ≡ Some r → op_of r.event ≡ v → i < j
  arc_order u v i j s r arc at own there other =
      let way = shows.complete u v arc in
      let begin = number_at i s u at own in
      let next = joined_place (number_of node.problem u) way.next way.follows.0 in
      let joined = subst (λ (n : ℕ). JoinsPair network.arcs n next.1.node) (sym begin) (subst (JoinsPair network.arcs (number_of node.problem u)) (sym next.3) way.follows.0) in
      omega (arith, joined_order i next.0 s next.1 at next.2 joined, follows_order way.next way.rest next.0 j next.1 r next.2 next.3 there way.follows.1 (way.ends ∙ sym (number_at j r v there other)))

  closes_order : (first u : Op) (rest : List Op) (i j : ℕ) (s r : Stop) → ClosesTo node first u rest → slice_get plan i ≡ Some s → op_of s.event ≡ first → slice_get plan j ≡ Some r → op_of r.event ≡ u → j < i
  closes_order first u [] i j s r closes at own there other = arc_order u first j i r s closes there other at own
  closes_order first u (v ∷ rest) i j s r closes at own there other =
      let next = place_of v closes.0.1.to_forced in
      omega (arith, arc_order u v j next.0 r next.1 closes.0 there other next.2 next.3, closes_order first v rest i next.0 s next.1 closes.1 at own next.2 next.3)

  no_cycle : HasCycle node → ⊥
  no_cycle ([], cycle) = cycle
  no_cycle (u ∷ [], cycle) = cycle
  no_cycle (u ∷ v ∷ rest, cycle) =
      let at = place_of u cycle.0.1.from_forced in omega (arith, closes_order u u (v ∷ rest) at.0 at.0 at.1 at.1 cycle at.2 at.3 at.2 at.3)

  -- ---- the events

  abbrev events : List Event
  events = map (λ (s : Stop). s.event) plan

  event_from : (i : ℕ) (e : Event) → slice_get events i ≡ Some e → (s : Stop) × (slice_get plan i ≡ Some s) × (s.event ≡ e)
  event_from i e at = from_mapped_at (λ (s : Stop). s.event) plan i e at

  event_at : (i : ℕ) (s : Stop) → slice_get plan i ≡ Some s → slice_get events i ≡ Some s.event
  event_at i s at = mapped_at (λ (s : Stop). s.event) plan i s at

  starts : (o : Op) (s : Stop) → op_of s.event ≡ o → Starts o s.event
  starts o s own = record { train = ap (λ (x : Op). x.train) own; operation = ap (λ (x : Op). x.op) own }

  ready_at : (i : ℕ) (s : Stop) → slice_get plan i ≡ Some s → IsReady node (take i events) s.event
  ready_at i s at o arc =
      let from = place_of o arc.1.from_forced in
      let before = arc_order o (op_of s.event) from.0 i from.1 s arc from.2 from.3 at refl in
      (from.1.event, stands_in (take i events) from.0 from.1.event (taken_get events i from.0 from.1.event before (event_at from.0 from.1 from.2)), starts o from.1 from.3)

  -- what is ready waits for none of those that are left
  free_at : (i j : ℕ) (s : Stop) → slice_get plan j ≡ Some s → IsReady node (take i events) s.event → IsBlocked network.arcs (drop i plan) s → ⊥
  free_at i j s there ready (other, left, (k, arc, lt, is, (from, to))) =
      let joins = stands_for arc (k, lt, is) in
      let at = dropped_stands plan i other left in
      let begin = place_of joins.u joins.there.1.from_forced in
      let end = place_of joins.v joins.there.1.to_forced in
      let first = one_place plan at.0 begin.0 other begin.1 once at.2 begin.2 (sym from ∙ joins.from_is ∙ sym (number_at begin.0 begin.1 joins.u begin.2 begin.3)) in
      let last = one_place plan j end.0 s end.1 once there end.2 (sym to ∙ joins.to_is ∙ sym (number_at end.0 end.1 joins.v end.2 end.3)) in
      let own : op_of s.event ≡ joins.v = ap (λ (x : Stop). op_of x.event) (same_Some s end.1 (sym there ∙ ap (slice_get plan) last ∙ end.2)) ∙ end.3 in
      let stood = ready joins.u (subst (HasArc node joins.u) (sym own) joins.there) in
      let place = stands_at (take i events) stood.0 stood.1 in
      let taken = get_taken events i place.0 stood.0 place.1 in
      let stop = event_from place.0 stood.0 taken.1 in
      let same = one_place_each place.0 begin.0 stop.0 begin.1 stop.1 begin.2 (ap op_of stop.2 ∙ same_op joins.u stood.0 stood.2 ∙ sym begin.3) in
      omega (arith, taken.0, at.1, first, same)

  next_at : (i : ℕ) (s : Stop) → slice_get plan i ≡ Some s → IsNext node (take i events) (drop i events) s.event
  next_at i s at = record {
    ready = ready_at i s at;
    first = λ f left ready. by_stop f ready (dropped_stands events i f left);
  }
    where
      by_stop : (f : Event) → IsReady node (take i events) f → (j : ℕ) × (i ≤ j) × (slice_get events j ≡ Some f) → (f ≡ s.event) ⊎ ComesBefore s.event f
      by_stop f ready (j, le, there) = by_order (event_from j f there)
        where
          by_order : (r : Stop) × (slice_get plan j ≡ Some r) × (r.event ≡ f) → (f ≡ s.event) ⊎ ComesBefore s.event f
          by_order (r, place, is) = elim (in_some_order f s.event) [
            | inl same ↦ inl same
            | inr order ↦ elim order [
              | inl before ↦ absurd ((first_free_at i s at).first r (stands_from plan i j r le place)
                  (free_at i j r place (subst (IsReady node (take i events)) (sym is) ready)) (subst (λ (e : Event). ComesBefore e s.event) (sym is) before))
              | inr behind ↦ inr behind
            ]
          ]

  -- ---- the plan

  pub shown : IsEarliest node (map (λ s. s.event) plan)
  shown = record {
    one_route = λ t lt. (get_or routes t [], only t lt);
    no_cycle = no_cycle;
    each_run = λ o forced. (let at = place_of o forced in (at.1.event, stands_in events at.0 at.1.event (event_at at.0 at.1 at.2), starts o at.1 at.3));
    none_else = λ e there. in_plan e (stands_at events e there);
    none_twice = λ i j e f lt at there same. (
        let one = event_from i e at in
        let other = event_from j f there in
        omega (arith, lt, one_place_each i j one.0 other.0 one.1 other.1 (ap op_of one.2 ∙ same ∙ sym (ap op_of other.2))));
    ordered = λ i e at. (let found = event_from i e at in subst (IsNext node (take i events) (drop i events)) found.2 (next_at i found.0 found.1));
  }
    where
      in_plan : (e : Event) → (i : ℕ) × (slice_get events i ≡ Some e) → IsForced node (op_of e) × of_node.IsLongest node (op_of e) e.time
      in_plan e (i, at) = by_stop (event_from i e at)
        where
          by_stop : (s : Stop) × (slice_get plan i ≡ Some s) × (s.event ≡ e) → IsForced node (op_of e) × of_node.IsLongest node (op_of e) e.time
          by_stop (s, place, is) =
              let stop = is_stop_at i s place in
              let forced = forced_at i s place in
              let own = subst (λ (n : ℕ). IsLongestLength network.lowers network.arcs n s.event.time) stop.node stop.longest in
              (subst (λ (f : Event). IsForced node (op_of f)) is forced, subst (λ (f : Event). of_node.IsLongest node (op_of f) f.time) is (shows.longest (op_of s.event) s.event.time forced own))
