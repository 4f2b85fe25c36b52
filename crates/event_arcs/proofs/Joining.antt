-- The arcs of a train, from each operation that all routes have to the next one.
use Rattle.std.proofs.Common.{◌≡◌, ℕ, zero, suc, ◌+◌, ◌<◌, ◌≤◌, List, [], ◌∷◌, ◌++◌, length, take, get_or, Option, Some, None, refl, sym, ap, subst, ◌∙◌, inl, inr, arith}
use Rattle.std.specs.Prelude.{Contains, IfSome, slice_get, ◌⊎◌}
use Rattle.std.proofs.lemmas.Bool.{cases_lt}
use Rattle.std.proofs.lemmas.Option.{none-some, same_Some}
use Rattle.std.proofs.lemmas.List.{append_assoc, get_or_default}
use Rattle.std.proofs.lemmas.List.Elements.{All-push, Contains-append_left, Contains-append_right}
use Rattle.disp_model.specs.declared.train.Op.{Op}
use Rattle.disp_model.specs.declared.train.Operation.{Operation}
use Rattle.disp_model.specs.declared.problem.Problem.{Problem}
use Rattle.disp_model.specs.WellFormed.{LeadsTo}
use Rattle.disp_model.specs.Train.{IsRoute}
use Rattle.disp_model.specs.Numbers.{number_of}
use Rattle.disp_model.specs.Valid.{train_at}
use Rattle.disp_model.specs.Node.{Node}
use Rattle.disp_model.specs.Routes.{IsForced, IsAllowed}
use Rattle.disp_model.specs.Arcs.{IsTrainArc}
use Rattle.disp_laws.proofs.Paths.{IsIn, is_in}
use Rattle.disp_laws.proofs.LeastSums.{Parted, parted, train_arc_exists}
use Rattle.disp_laws.proofs.LongestArcs.{one_train_arc}
use Rattle.disp_laws.proofs.LongestWalks.{forced_within}
use Rattle.disp_laws.proofs.Arcs.{passes_leads}
use Rattle.disp_laws.proofs.Composed.{in_front_or_back, front_leads, back_leads, arcs_compose}
use Rattle.train_orders.specs.Orders.{IsBehind, IsOrder}
use Rattle.train_orders.proofs.Places.{at_contains}
use Rattle.train_orders.proofs.Ordered.{at_taken, taken_more, one_place}
use Rattle.route_sets.specs.declared.routes.Routes.{Routes}
use Rattle.route_sets.specs.Sets.{op_of_train, AreRoutesOf}
use Rattle.incremental_paths.specs.declared.arc.Arc.{Arc}
use Rattle.incremental_paths.proofs.Members.{joined, longest_ge}
use Rattle.incremental_paths.proofs.Walking.{Follows_part, steps_part}
use Rattle.event_arcs.specs.Listed.{IsArcOf, LeadsOver, AreArcsOf}
use Rattle.event_arcs.specs.Chained.{Extends, LeadsAlong, LeadsOnceGrown, LeadsByRoutes, IsOrderGiven, EndsAt, StandsFrom, IsChained, AddsChain, AddsChains}
use Rattle.event_arcs.proofs.Leading.{leads_then}

-- ---- lists that grow

pub leads_kept : (old new : List Arc) (u v least : ℕ) → ((arc : Arc) → Contains old arc → Contains new arc) → LeadsOver old u v least → LeadsOver new u v least
leads_kept old new u v least kept way = record {
  next = way.next;
  rest = way.rest;
  follows = Follows_part old new kept u (way.next ∷ way.rest) way.follows;
  ends = way.ends;
  long = omega (arith, way.long, steps_part old new kept u (way.next ∷ way.rest));
}

-- a listed arc leads along itself
pub leads_by : (arcs : List Arc) (arc : Arc) (least : ℕ) → Contains arcs arc → least ≤ arc.length → LeadsOver arcs arc.from arc.to least
leads_by arcs arc least there le = record {
  next = arc.to;
  rest = [];
  follows = (joined arcs arc arc.from arc.to there refl refl, tt);
  ends = refl;
  long = omega (arith, le, longest_ge arcs arc arc.from arc.to there refl refl);
}

pub extends_none : (node : Node) (arcs : List Arc) → Extends node arcs arcs
extends_none node arcs = record { kept = λ arc there. there; sound = λ all. all }

pub extends_then : (node : Node) (one two three : List Arc) → Extends node one two → Extends node two three → Extends node one three
extends_then node one two three first second = record { kept = λ arc there. second.kept arc (first.kept arc there); sound = λ all. second.sound (first.sound all) }

pub extends_push : (node : Node) (arcs : List Arc) (arc : Arc) → IsArcOf node arc → Extends node arcs (arcs ++ arc ∷ [])
extends_push node arcs arc is = record { kept = λ other there. Contains-append_left arcs (arc ∷ []) other there; sound = λ all. All-push (IsArcOf node) arcs arc all is }

pub pushed_there : (arcs : List Arc) (arc : Arc) → Contains (arcs ++ arc ∷ []) arc
pushed_there arcs arc = Contains-append_right arcs (arc ∷ []) arc (0, omega arith, refl)

-- ---- an order of the train

stands_before : (train : List Operation) (order : List ℕ) (n i o s : ℕ) → IsBehind train order → LeadsTo train n o s → slice_get order i ≡ Some o → Contains (take i order) s
stands_before train order zero i o s behind leads here = behind.behind i o s here leads
stands_before train order (suc n) i o s behind leads here =
    let place = at_contains (take i order) leads.0 (behind.behind i o leads.0 here leads.1) in
    let at = at_taken order i place.0 leads.0 place.1 in
    let far = stands_before train order n place.0 leads.0 s behind leads.2 at.1 in
    taken_more order i place.0 s (omega (arith, at.0)) far

pub order_within : (train : List Operation) (order : List ℕ) (k d : ℕ) → IsOrder train order → k < length order → get_or order k d < length train
order_within train order k d is lt = is.is_behind.within (get_or order k d) (k, lt, get_or_default order k (get_or order k d) d lt)

-- what leads to an operation stands behind it
leads_up : (train : List Operation) (order : List ℕ) (n i j o s : ℕ) → IsOrder train order → LeadsTo train n o s → slice_get order i ≡ Some o → slice_get order j ≡ Some s → j < i
leads_up train order n i j o s is leads from to =
    let place = at_contains (take i order) s (stands_before train order n i o s is.is_behind leads from) in
    let at = at_taken order i place.0 s place.1 in
    let same = one_place train order place.0 j s is at.1 to in
    omega (arith, at.0, same)

arc_up : (node : Node) (t : ℕ) (order : List ℕ) (i j o s n : ℕ) → IsOrder (train_at node.problem t) order → IsTrainArc node (op_of_train t o) (op_of_train t s) n → slice_get order i ≡ Some o → slice_get order j ≡ Some s → j < i
arc_up node t order i j o s n is arc from to =
    let way = passes_leads (train_at node.problem t) arc.reached.0 o s n arc.reached.1.is_route arc.reached.2 in
    leads_up (train_at node.problem t) order way.0 i j o s is way.1 from to

-- of two forced operations one leads to the other
pub either_leads : (node : Node) (t o s : ℕ) → IsForced node (op_of_train t o) → IsForced node (op_of_train t s) → (o ≡ s → ⊥) → ((n : ℕ) × LeadsTo (train_at node.problem t) n o s) ⊎ ((n : ℕ) × LeadsTo (train_at node.problem t) n s o)
either_leads node t o s one other apart = by_route one.allowed.0 one.allowed.1
  where
    by_parts : (route : List ℕ) → IsAllowed node t route → Parted s route → ((n : ℕ) × LeadsTo (train_at node.problem t) n o s) ⊎ ((n : ℕ) × LeadsTo (train_at node.problem t) n s o)
    by_parts route allowed part =
        let train = train_at node.problem t in
        let is = subst (IsRoute train) part.is allowed.is_route in
        let on = subst (IsIn o) part.is (is_in o route (one.each_has route allowed)) in
        elim (in_front_or_back o part.before (s ∷ part.rest) on) [
          | inl early ↦ inl (front_leads train o s part.before part.rest is early)
          | inr late ↦ elim late [ inl same ↦ absurd (apart (sym same)) | inr far ↦ inr (back_leads train o s part.before part.rest is far) ]
        ]

    by_route : (route : List ℕ) → IsAllowed node t route → ((n : ℕ) × LeadsTo (train_at node.problem t) n o s) ⊎ ((n : ℕ) × LeadsTo (train_at node.problem t) n s o)
    by_route route allowed = by_parts route allowed (parted s route (is_in s route (other.each_has route allowed)))

-- a forced operation that stands behind another one has an arc to it
pub arc_down : (node : Node) (t : ℕ) (order : List ℕ) (i j o s : ℕ) → IsOrder (train_at node.problem t) order → IsForced node (op_of_train t o) → IsForced node (op_of_train t s)
    → slice_get order i ≡ Some o → slice_get order j ≡ Some s → j < i → (sum : ℕ) × IsTrainArc node (op_of_train t o) (op_of_train t s) sum
arc_down node t order i j o s is one other from to lt = elim (either_leads node t o s one other apart) [
  | inl way ↦ train_arc_exists node (op_of_train t o) (op_of_train t s) way.0 refl way.1 one other
  | inr way ↦ let up = leads_up (train_at node.problem t) order way.0 j i s o is way.1 to from in absurd (omega (arith, up, lt))
]
  where
    apart : o ≡ s → ⊥
    apart same = let places = one_place (train_at node.problem t) order i j s is (subst (λ (x : ℕ). slice_get order i ≡ Some x) same from) to in omega (arith, places, lt)

-- ---- a step down the order

-- an operation from a place on is at it, or further on
at_or_on : (node : Node) (t : ℕ) (order : List ℕ) (place q o : ℕ) → slice_get order place ≡ Some q → StandsFrom node t order place o → (q ≡ o) ⊎ StandsFrom node t order (place + 1) o
at_or_on node t order place q o here stands = elim (cases_lt place stands.at) [
  | inl further ↦ inr (record { at = stands.at; from = omega (arith, further); here = stands.here; forced = stands.forced })
  | inr at ↦
      let same : stands.at ≡ place = omega (arith, at, stands.from) in
      inl (same_Some q o (sym here ∙ subst (λ (k : ℕ). slice_get order k ≡ Some o) same stands.here))
]

on_from : (node : Node) (t : ℕ) (order : List ℕ) (place o : ℕ) → StandsFrom node t order (place + 1) o → StandsFrom node t order place o
on_from node t order place o stands = record { at = stands.at; from = omega (arith, stands.from); here = stands.here; forced = stands.forced }

last_on : (node : Node) (t : ℕ) (order : List ℕ) (place : ℕ) (last : Option ℕ) → IfSome last (StandsFrom node t order (place + 1)) → IfSome last (StandsFrom node t order place)
last_on node t order place None stands = tt
last_on node t order place (Some o) stands = on_from node t order place o stands

-- over an operation that is not forced
pub chained_past : (node : Node) (t : ℕ) (order : List ℕ) (place q : ℕ) (base arcs : List Arc) (last : Option ℕ) → slice_get order place ≡ Some q → (IsForced node (op_of_train t q) → ⊥)
    → IsChained node t order (place + 1) base arcs last → IsChained node t order place base arcs last
chained_past node t order place q base arcs last here not chained = record {
  extends = chained.extends;
  last_stands = last_on node t order place last chained.last_stands;
  to_last = λ o stands. chained.to_last o (on o stands);
  between = λ o s sum one other arc. chained.between o s sum (on o one) (on s other) arc;
}
  where
    on : (o : ℕ) → StandsFrom node t order place o → StandsFrom node t order (place + 1) o
    on o stands = elim (at_or_on node t order place q o here stands) [
      | inl same ↦ absurd (not (subst (λ (x : ℕ). IsForced node (op_of_train t x)) (sym same) stands.forced))
      | inr further ↦ further
    ]

-- the first forced operation
pub chained_first : (node : Node) (t : ℕ) (order : List ℕ) (place q : ℕ) (base arcs : List Arc) → IsOrder (train_at node.problem t) order → slice_get order place ≡ Some q → IsForced node (op_of_train t q)
    → IsChained node t order (place + 1) base arcs None → IsChained node t order place base arcs (Some q)
chained_first node t order place q base arcs is here forced chained = record {
  extends = chained.extends;
  last_stands = record { at = place; from = omega arith; here = here; forced = forced };
  to_last = λ o stands. record { end = q; is_last = refl; leads = inl (only o stands) };
  between = λ o s sum one other arc. absurd (none o s sum one other arc);
}
  where
    only : (o : ℕ) → StandsFrom node t order place o → o ≡ q
    only o stands = elim (at_or_on node t order place q o here stands) [
      | inl same ↦ sym same
      | inr further ↦ let ends = chained.to_last o further in absurd (none-some ends.end ends.is_last)
    ]

    none : (o s sum : ℕ) → StandsFrom node t order place o → StandsFrom node t order place s → IsTrainArc node (op_of_train t o) (op_of_train t s) sum → ⊥
    none o s sum one other arc =
        let up = arc_up node t order one.at other.at o s sum is arc one.here other.here in
        let same = one_place (train_at node.problem t) order one.at other.at q is (subst (λ (x : ℕ). slice_get order one.at ≡ Some x) (only o one) one.here) (subst (λ (x : ℕ). slice_get order other.at ≡ Some x) (only s other) other.here) in
        omega (arith, up, same)

abbrev chain_arc : ℕ → ℕ → ℕ → ℕ → Arc
chain_arc first p q sum = record { from = first + p; to = first + q; length = sum }

-- a list that stands for the arcs of a node leads as those of each of its trains
pub leads_as_before : (before node : Node) (t : ℕ) (routes : Routes) (given : List Arc) → before.problem ≡ node.problem → AreRoutesOf before t routes → AreArcsOf before given → LeadsByRoutes node t routes given
leads_as_before before node t routes given same are arcs = record {
  before = before;
  are_routes = are;
  leads = λ o q sum one other arc.
      subst (λ (p : Problem). LeadsOver given (number_of p (op_of_train t o)) (number_of p (op_of_train t q)) sum) same (arcs.complete (op_of_train t o) (op_of_train t q) sum (record { from_forced = one; to_forced = other; kind = inl arc }));
}

-- the list leads from one forced operation to another already
pub joins_given : (node : Node) (u v : Op) (sum : ℕ) (given arcs : List Arc) → LeadsAlong node given u v sum → LeadsOnceGrown node u v sum (given ++ arcs) (given ++ arcs)
joins_given node u v sum given arcs way = record {
  extends = extends_none node (given ++ arcs);
  leads = leads_kept given (given ++ arcs) (number_of node.problem u) (number_of node.problem v) sum (λ arc there. Contains-append_left given arcs arc there) way;
}

-- the arc from one forced operation to another is added
pub joins_push : (node : Node) (t p q first sum : ℕ) (given arcs new : List Arc) → first ≡ number_of node.problem (op_of_train t 0) → IsForced node (op_of_train t p) → IsForced node (op_of_train t q)
    → IsTrainArc node (op_of_train t p) (op_of_train t q) sum → new ≡ arcs ++ record { from = first + p; to = first + q; length = sum } ∷ [] → LeadsOnceGrown node (op_of_train t p) (op_of_train t q) sum (given ++ arcs) (given ++ new)
joins_push node t p q first sum given arcs new first_is one other step new_is = record {
  extends = subst (Extends node (given ++ arcs)) (sym behind) (extends_push node (given ++ arcs) added is_arc);
  leads = subst (λ (n : ℕ). LeadsOver (given ++ new) n (number_of node.problem (op_of_train t q)) sum) from_is (subst (λ (n : ℕ). LeadsOver (given ++ new) (first + p) n sum) to_is listed);
}
  where
    added : Arc
    added = chain_arc first p q sum

    behind : given ++ new ≡ (given ++ arcs) ++ added ∷ []
    behind = ap (λ (l : List Arc). given ++ l) new_is ∙ sym (append_assoc given arcs (added ∷ []))

    from_is : first + p ≡ number_of node.problem (op_of_train t p)
    from_is = omega (arith, first_is)

    to_is : first + q ≡ number_of node.problem (op_of_train t q)
    to_is = omega (arith, first_is)

    is_arc : IsArcOf node added
    is_arc = record { u = op_of_train t p; v = op_of_train t q; arc_length = sum; joins = record { from_forced = one; to_forced = other; kind = inl step }; from_is = from_is; to_is = to_is; no_longer = omega arith }

    listed : LeadsOver (given ++ new) (first + p) (first + q) sum
    listed = leads_by (given ++ new) added sum (subst (λ (l : List Arc). Contains l added) (sym behind) (pushed_there (given ++ arcs) added)) (omega arith)

-- a forced operation behind a forced one
pub chained_on : (node : Node) (t : ℕ) (order : List ℕ) (place p q sum : ℕ) (base arcs new : List Arc) → IsOrder (train_at node.problem t) order → slice_get order place ≡ Some q → IsForced node (op_of_train t q)
    → IsTrainArc node (op_of_train t p) (op_of_train t q) sum → LeadsOnceGrown node (op_of_train t p) (op_of_train t q) sum arcs new → IsChained node t order (place + 1) base arcs (Some p) → IsChained node t order place base new (Some q)
chained_on node t order place p q sum base arcs new is here forced step joins chained = record {
  extends = extends_then node base arcs new chained.extends joins.extends;
  last_stands = record { at = place; from = omega arith; here = here; forced = forced };
  to_last = to_q;
  between = between;
}
  where
    at_p : StandsFrom node t order (place + 1) p
    at_p = chained.last_stands

    by_step : LeadsAlong node new (op_of_train t p) (op_of_train t q) sum
    by_step = joins.leads

    kept : (o s least : ℕ) → LeadsAlong node arcs (op_of_train t o) (op_of_train t s) least → LeadsAlong node new (op_of_train t o) (op_of_train t s) least
    kept o s least way = leads_kept arcs new (number_of node.problem (op_of_train t o)) (number_of node.problem (op_of_train t s)) least joins.extends.kept way

    through : (o : ℕ) → StandsFrom node t order (place + 1) o → (total : ℕ) × IsTrainArc node (op_of_train t o) (op_of_train t q) total × LeadsAlong node new (op_of_train t o) (op_of_train t q) total
    through o stands = by_end (chained.to_last o stands)
      where
        by_end : EndsAt node t arcs (Some p) o → (total : ℕ) × IsTrainArc node (op_of_train t o) (op_of_train t q) total × LeadsAlong node new (op_of_train t o) (op_of_train t q) total
        by_end ends =
            let end = same_Some p ends.end ends.is_last in
            elim ends.leads [
              | inl same ↦
                  let o_is : o ≡ p = same ∙ sym end in
                  (sum, subst (λ (x : ℕ). IsTrainArc node (op_of_train t x) (op_of_train t q) sum) (sym o_is) step, subst (λ (x : ℕ). LeadsAlong node new (op_of_train t x) (op_of_train t q) sum) (sym o_is) by_step)
              | inr far ↦
                  let arc = subst (λ (x : ℕ). IsTrainArc node (op_of_train t o) (op_of_train t x) far.0) (sym end) far.1 in
                  let way = kept o p far.0 (subst (λ (x : ℕ). LeadsAlong node arcs (op_of_train t o) (op_of_train t x) far.0) (sym end) far.2) in (
                    far.0 + sum,
                    arcs_compose node (op_of_train t o) (op_of_train t p) (op_of_train t q) far.0 sum at_p.forced arc step,
                    leads_then new (number_of node.problem (op_of_train t o)) (number_of node.problem (op_of_train t p)) (number_of node.problem (op_of_train t q)) far.0 sum way by_step,
                  )
            ]

    to_q : (o : ℕ) → StandsFrom node t order place o → EndsAt node t new (Some q) o
    to_q o stands = elim (at_or_on node t order place q o here stands) [
      | inl same ↦ record { end = q; is_last = refl; leads = inl (sym same) }
      | inr further ↦ record { end = q; is_last = refl; leads = inr (through o further) }
    ]

    between : (o s least : ℕ) → StandsFrom node t order place o → StandsFrom node t order place s → IsTrainArc node (op_of_train t o) (op_of_train t s) least → LeadsAlong node new (op_of_train t o) (op_of_train t s) least
    between o s least one other arc = elim (at_or_on node t order place q s here other) [
      | inl same ↦ elim (at_or_on node t order place q o here one) [
        | inl too ↦
            let up = arc_up node t order one.at other.at o s least is arc one.here other.here in
            let places = one_place (train_at node.problem t) order one.at other.at q is (subst (λ (x : ℕ). slice_get order one.at ≡ Some x) (sym too) one.here) (subst (λ (x : ℕ). slice_get order other.at ≡ Some x) (sym same) other.here) in
            absurd (omega (arith, up, places))
        | inr further ↦
            let way = through o further in
            let length_is = one_train_arc node (op_of_train t o) (op_of_train t q) way.0 least way.1 (subst (λ (x : ℕ). IsTrainArc node (op_of_train t o) (op_of_train t x) least) (sym same) arc) in
            subst (λ (x : ℕ). LeadsAlong node new (op_of_train t o) (op_of_train t x) least) same (subst (λ (n : ℕ). LeadsAlong node new (op_of_train t o) (op_of_train t q) n) length_is way.2)
      ]
      | inr further ↦ elim (at_or_on node t order place q o here one) [
        | inl too ↦
            let up = arc_up node t order place further.at o s least is arc (subst (λ (x : ℕ). slice_get order place ≡ Some x) too here) further.here in
            absurd (omega (arith, up, further.from))
        | inr ahead ↦ kept o s least (chained.between o s least ahead further arc)
      ]
    ]

-- ---- the arcs of a train, and of all

pub chain_done : (node : Node) (t : ℕ) (routes : Routes) (order : List ℕ) (first place : ℕ) (base arcs : List Arc) (last : Option ℕ) → IsOrderGiven node t routes order first → place ≤ 0 → IsChained node t order place base arcs last → AddsChain node t base arcs
chain_done node t routes order first place base arcs last given low chained = record { extends = chained.extends; leads = leads }
  where
    stands : (o : ℕ) → IsForced node (op_of_train t o) → StandsFrom node t order place o
    stands o forced =
        let at = at_contains order o (given.is_order.has o (forced_within node (op_of_train t o) forced)) in
        record { at = at.0; from = omega (arith, low); here = at.1; forced = forced }

    own : (u v : Op) (sum : ℕ) → u.train ≡ t → v.train ≡ t → IsForced node u → IsForced node v → IsTrainArc node u v sum → LeadsAlong node arcs u v sum
    own u v sum same too one other arc =
        let u_is : u ≡ op_of_train t u.op = ap (λ (n : ℕ). op_of_train n u.op) same in
        let v_is : v ≡ op_of_train t v.op = ap (λ (n : ℕ). op_of_train n v.op) too in
        let at = stands u.op (subst (IsForced node) u_is one) in
        let to = stands v.op (subst (IsForced node) v_is other) in
        let half = subst (λ (x : Op). IsTrainArc node x v sum) u_is arc in
        let way = chained.between u.op v.op sum at to (subst (λ (x : Op). IsTrainArc node (op_of_train t u.op) x sum) v_is half) in
        subst (λ (x : Op). LeadsAlong node arcs x v sum) (sym u_is) (subst (λ (x : Op). LeadsAlong node arcs (op_of_train t u.op) x sum) (sym v_is) way)

    leads : (u v : Op) (sum : ℕ) → u.train ≡ t → IsForced node u → IsForced node v → IsTrainArc node u v sum → LeadsAlong node arcs u v sum
    leads u v sum same one other arc = own u v sum same (sym arc.same_train ∙ same) one other arc

pub chains_more : (node : Node) (count : ℕ) (old mid new : List Arc) → AddsChains node count old mid → AddsChain node count mid new → AddsChains node (count + 1) old new
chains_more node count old mid new before own = record {
  extends = extends_then node old mid new before.extends own.extends;
  leads = λ u v sum lt one other arc. elim (cases_lt u.train count) [
    | inl earlier ↦ leads_kept mid new (number_of node.problem u) (number_of node.problem v) sum own.extends.kept (before.leads u v sum earlier one other arc)
    | inr late ↦ own.leads u v sum (omega (arith, lt, late)) one other arc
  ];
}
