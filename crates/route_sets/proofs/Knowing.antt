-- What the marks of a pass say of the allowed routes of a train.
use Rattle.std.proofs.Common.{◌≡◌, ℕ, suc, ◌+◌, ◌-◌, ◌^◌, ◌<◌, ◌≤◌, List, [], ◌∷◌, ◌++◌, length, Option, Some, None, refl, sym, ap, subst, ◌∙◌, inl, inr, arith, append_assoc}
use Rattle.std.specs.Prelude.{◌↔◌, IsSome, nat_eq, slice_get, Contains, MatchOption, sum_by}
use Rattle.std.specs.List.{IsDistinct}
use Rattle.std.proofs.lemmas.Bool.{false≢true, cases_lt, eq-eqb}
use Rattle.std.proofs.lemmas.Option.{none-some, same_Some}
use Rattle.std.proofs.lemmas.List.{get_or_past}
use Rattle.std.proofs.lemmas.List.Elements.{Contains-append_right}
use Rattle.std.proofs.lemmas.List.Sums.{sum_by-append}
use Rattle.std.proofs.lemmas.Map.Steps.{length-le_from_distinct_below}
use Rattle.disp_model.specs.declared.train.Operation.{Operation}
use Rattle.disp_model.specs.Train.{IsExit, duration_of}
use Rattle.disp_model.specs.WellFormed.{IsAcyclic}
use Rattle.disp_model.specs.Fixing.{after}
use Rattle.disp_model.specs.Valid.{train_at}
use Rattle.disp_model.specs.Node.{Node}
use Rattle.disp_model.specs.Routes.{IsAllowed, HasRoute, IsForced}
use Rattle.disp_model.specs.Arcs.{Passes, IsTrainArc}
use Rattle.disp_laws.proofs.Paths.{IsIn, is_in, contains_in}
use Rattle.disp_laws.proofs.RouteSearch.{each_within, not_among, any_is_in}
use Rattle.disp_laws.proofs.Branching.{route_from}
use Rattle.disp_laws.proofs.LeastSums.{Parted, parted, not_before_on_route}
use Rattle.disp_laws.proofs.Composed.{in_front_or_back, after_behind}
use Rattle.train_orders.specs.Orders.{IsOrder}
use Rattle.train_orders.proofs.Places.{at_contains, contains_at}
use Rattle.train_orders.proofs.Ordered.{contains_here, one_place}
use Rattle.route_sets.specs.declared.asks.Ask.{Ask}
use Rattle.route_marks.specs.declared.marks.Mark.{Mark}
use Rattle.route_sets.specs.Sweeps.{HasWay}
use Rattle.route_marks.specs.Ways.{StepsAlong, Goes, IsRowWalk, Chain, IsLeastOnRows, IsOnEach, last_of}
use Rattle.route_marks.specs.Marks.{IsLaid, IsMark, mark_at, HasMarks, HasSums, sum_at}
use Rattle.route_sets.specs.Sets.{op_of_train, IsOnSome, IsMarkOf, AreMarksInOrder}
use Rattle.route_marks.proofs.Keeping.{earlier}
use Rattle.route_sets.proofs.Walking.{IsTrimmedFor, row_at, route_is_walk, walk_is_route}
use Rattle.route_marks.proofs.Chaining.{chain_walk, walk_parts, goes_on, goes_below, chain_above, last_here, chain_place}
use Rattle.route_marks.proofs.Passing.{matched}

-- ---- an order is no longer than its train

pub record IsApart (xs : List ℕ) (n : ℕ) : Type 0 where
  pub below : (q : ℕ) → IsIn q xs → q < n
  pub once : (i j o : ℕ) → slice_get xs i ≡ Some o → slice_get xs j ≡ Some o → i ≡ j

distinct : (xs : List ℕ) → ((i j o : ℕ) → slice_get xs i ≡ Some o → slice_get xs j ≡ Some o → i ≡ j) → IsDistinct nat_eq xs
unfolding IsDistinct
distinct [] once = tt
distinct (x ∷ xs) once = (
  not_among x xs (λ there. let found = at_contains xs x (contains_in x xs there) in let same : 0 ≡ suc found.0 = once 0 (suc found.0) x refl found.1 in omega (arith, same)),
  distinct xs (λ i j o first second. let same : suc i ≡ suc j = once (suc i) (suc j) o first second in omega (arith, same)),
)

pub order_fits : (train : List Operation) (order : List ℕ) → IsOrder train order → length order ≤ length train
order_fits train order is =
    length-le_from_distinct_below order (length train) (distinct order (λ i j o first second. one_place train order i j o is first second)) (λ q there. is.is_behind.within q (contains_in q order (any_is_in q order there)))

-- ---- rows that a sweep keeps are laid

pub laid : (node : Node) (t : ℕ) (asks : List Ask) (order : List ℕ) (rows : List (List ℕ)) (k : ℕ) → IsTrimmedFor node t asks order rows k (last_of order) → HasWay (train_at node.problem t) asks order (last_of order) → length (train_at node.problem t) < 2 ^ 31
    → IsLaid (train_at node.problem t) order rows
laid node t asks order rows k is has fits = record {
  some = omega (arith, is.count);
  fits = omega (arith, fits, order_fits train order is.trimmed.order_is);
  long = is.trimmed.rows_are.long;
  within = λ k o here. is.trimmed.order_is.is_behind.within o (contains_at order o k here);
  one_place = λ i j o first second. one_place train order i j o is.trimmed.order_is first second;
  down = λ k o s here step. earlier train order k o s is.trimmed.order_is here (row_at train asks order rows k o s is.trimmed here step).0;
  one_end = λ o z front other first second stops ends. is.trimmed.acyclic.one_exit o z (exit front o first stops) (exit other z second ends);
}
  where
    train : List Operation
    train = train_at node.problem t

    exit : (front : List ℕ) (o : ℕ) → Chain order rows (last_of order) front o → Goes order rows o [] → IsExit train o
    exit front o chain stops = route_from train front o [] (walk_is_route node t asks order rows k (last_of order) (front ++ o ∷ []) is has (chain_walk order rows (last_of order) front o [] chain stops)).is_route

-- ---- walks and allowed routes

pub record AreWalks (node : Node) (t : ℕ) (order : List ℕ) (rows : List (List ℕ)) : Type 0 where
  pub there : t < length node.problem.trains
  pub acyclic : IsAcyclic (train_at node.problem t)
  pub order_is : IsOrder (train_at node.problem t) order
  pub is_laid : IsLaid (train_at node.problem t) order rows
  pub walk : (route : List ℕ) → IsAllowed node t route → IsRowWalk order rows (last_of order) route
  pub route : (route : List ℕ) → IsRowWalk order rows (last_of order) route → IsAllowed node t route

pub are_walks : (node : Node) (t : ℕ) (asks : List Ask) (order : List ℕ) (rows : List (List ℕ)) (k : ℕ) → t < length node.problem.trains → IsTrimmedFor node t asks order rows k (last_of order) → HasWay (train_at node.problem t) asks order (last_of order)
    → length (train_at node.problem t) < 2 ^ 31 → AreWalks node t order rows
are_walks node t asks order rows k there is has fits = record {
  there = there;
  acyclic = is.trimmed.acyclic;
  order_is = is.trimmed.order_is;
  is_laid = laid node t asks order rows k is has fits;
  walk = λ route allowed. route_is_walk node t asks order rows k (last_of order) route is allowed;
  route = λ route walk. walk_is_route node t asks order rows k (last_of order) route is has walk;
}

-- a route is allowed
some_route : (node : Node) (t : ℕ) (order : List ℕ) (rows : List (List ℕ)) → AreWalks node t order rows → HasRoute node t
some_route node t order rows are =
    let last = last_here (train_at node.problem t) order rows are.is_laid in
    let way = goes_on (train_at node.problem t) order rows last.0 (last_of order) are.is_laid last.2 in
    let walk : IsRowWalk order rows (last_of order) (last_of order ∷ way.0) = (refl, way.1) in
    (last_of order ∷ way.0, are.route (last_of order ∷ way.0) walk)

-- what follows an operation on an allowed route
next_on : (node : Node) (t : ℕ) (order : List ℕ) (rows : List (List ℕ)) (front : List ℕ) (o : ℕ) (rest : List ℕ) → AreWalks node t order rows → IsAllowed node t (front ++ o ∷ rest) → after o (front ++ o ∷ rest) ≡ after o (o ∷ rest)
next_on node t order rows front o rest are allowed = after_behind o o front rest (λ there. not_before_on_route (train_at node.problem t) o front rest are.acyclic allowed.is_route there)

pub after_first : (o s : ℕ) (rest : List ℕ) → after o (o ∷ s ∷ rest) ≡ Some s
after_first o s rest = rw (eq-eqb o o refl) refl

-- a walk through an operation that a chain leads to is allowed
through : (node : Node) (t : ℕ) (order : List ℕ) (rows : List (List ℕ)) (front : List ℕ) (o : ℕ) (rest : List ℕ) → AreWalks node t order rows → Chain order rows (last_of order) front o → Goes order rows o rest → IsAllowed node t (front ++ o ∷ rest)
through node t order rows front o rest are chain goes = are.route (front ++ o ∷ rest) (chain_walk order rows (last_of order) front o rest chain goes)

-- ---- the operations that some route has

pub sums_are : (node : Node) (t : ℕ) (order : List ℕ) (rows : List (List ℕ)) (sums : List (Option ℕ)) → AreWalks node t order rows → HasSums (train_at node.problem t) order rows sums
    → (o : ℕ) → IsSome (sum_at sums o) ↔ IsOnSome node t o
sums_are node t order rows sums are has o = by (sum_at sums o) (has.are_sums o)
  where
    train : List Operation
    train = train_at node.problem t

    leads : (front : List ℕ) → Chain order rows (last_of order) front o → IsOnSome node t o
    leads front chain =
        let place = chain_place train order rows front o are.is_laid chain in
        let way = goes_on train order rows place.0 o are.is_laid place.1 in
        (front ++ o ∷ way.0, through node t order rows front o way.0 are chain way.1, Contains-append_right front (o ∷ way.0) o (contains_here o way.0))

    chained : IsOnSome node t o → (front : List ℕ) × Chain order rows (last_of order) front o
    chained (route, allowed, there) =
        let part = parted o route (is_in o route there) in
        (part.before, (walk_parts order rows (last_of order) part.before o part.rest (subst (IsRowWalk order rows (last_of order)) part.is (are.walk route allowed))).0)

    by : (sum : Option ℕ) → MatchOption sum ((front : List ℕ) → Chain order rows (last_of order) front o → ⊥) (IsLeastOnRows train order rows (last_of order) o) → IsSome sum ↔ IsOnSome node t o
    by None none = (λ some. absurd (false≢true some), λ on. let way = chained on in absurd (none way.0 way.1))
    by (Some n) least = (λ some. leads least.reached.0 least.reached.1, λ on. refl)

-- ---- a mark

pub forced_of : (node : Node) (t : ℕ) (order : List ℕ) (rows : List (List ℕ)) (o : ℕ) → AreWalks node t order rows → IsOnEach order rows (last_of order) o → IsForced node (op_of_train t o)
forced_of node t order rows o are each = record { train = are.there; allowed = some_route node t order rows are; each_has = λ route allowed. each route (are.walk route allowed) }

pub each_of : (node : Node) (t : ℕ) (order : List ℕ) (rows : List (List ℕ)) (o : ℕ) → AreWalks node t order rows → IsForced node (op_of_train t o) → IsOnEach order rows (last_of order) o
each_of node t order rows o are forced route walk = forced.each_has route (are.route route walk)

next_to : (node : Node) (t : ℕ) (order : List ℕ) (rows : List (List ℕ)) (o s : ℕ) → AreWalks node t order rows → IsOnEach order rows (last_of order) o → StepsAlong order rows o s → ((q : ℕ) → StepsAlong order rows o q → q ≡ s)
    → (route : List ℕ) → IsAllowed node t route → after o route ≡ Some s
next_to node t order rows o s are each step alone route allowed =
    let part = parted o route (is_in o route (each route (are.walk route allowed))) in
    subst (λ (l : List ℕ). after o l ≡ Some s) (sym part.is) (by part.before part.rest (subst (IsAllowed node t) part.is allowed))
  where
    by : (front rest : List ℕ) → IsAllowed node t (front ++ o ∷ rest) → after o (front ++ o ∷ rest) ≡ Some s
    by front [] is = absurd ((walk_parts order rows (last_of order) front o [] (are.walk (front ++ o ∷ []) is)).1 s step)
    by front (q ∷ rest) is =
        next_on node t order rows front o (q ∷ rest) are is ∙ after_first o q rest
        ∙ ap Some (alone q (walk_parts order rows (last_of order) front o (q ∷ rest) (are.walk (front ++ o ∷ q ∷ rest) is)).1.0)

next_from : (node : Node) (t : ℕ) (order : List ℕ) (rows : List (List ℕ)) (o s k : ℕ) (front : List ℕ) → AreWalks node t order rows → Chain order rows (last_of order) front o → slice_get order k ≡ Some o
    → ((route : List ℕ) → IsAllowed node t route → after o route ≡ Some s) → StepsAlong order rows o s × ((q : ℕ) → StepsAlong order rows o q → q ≡ s)
next_from node t order rows o s k front are chain here each = (first way.0 way.1, alone)
  where
    way : (rest : List ℕ) × Goes order rows o rest
    way = goes_on (train_at node.problem t) order rows k o are.is_laid here

    follows : (q : ℕ) (rest : List ℕ) → StepsAlong order rows o q → Goes order rows q rest → q ≡ s
    follows q rest step goes =
        let on : Goes order rows o (q ∷ rest) = (step, goes) in
        let allowed = through node t order rows front o (q ∷ rest) are chain on in
        same_Some q s (sym (next_on node t order rows front o (q ∷ rest) are allowed ∙ after_first o q rest) ∙ each (front ++ o ∷ q ∷ rest) allowed)

    first : (rest : List ℕ) → Goes order rows o rest → StepsAlong order rows o s
    first [] stops = absurd (let allowed = through node t order rows front o [] are chain stops in none-some s (sym (next_on node t order rows front o [] are allowed) ∙ each (front ++ o ∷ []) allowed))
    first (q ∷ rest) goes = subst (λ (x : ℕ). StepsAlong order rows o x) (follows q rest goes.0 goes.1) goes.0

    alone : (q : ℕ) → StepsAlong order rows o q → q ≡ s
    alone q step =
        let down = are.is_laid.down k o q here step in
        let later = goes_on (train_at node.problem t) order rows down.0 q are.is_laid down.2 in
        follows q later.0 step later.1

pub mark_is : (node : Node) (t : ℕ) (order : List ℕ) (rows : List (List ℕ)) (o : ℕ) (mark : Mark) → AreWalks node t order rows → IsMark (train_at node.problem t) order rows o mark → IsMarkOf node t o mark
mark_is node t order rows o mark are is = record {
  forced = forced_of node t order rows o are is.each;
  next = λ s. (
    λ e. let one = (is.next s).0 e in (refl, next_to node t order rows o s are is.each one.0 one.1),
    λ goes. (is.next s).1 (next_from node t order rows o s mark.place is.sum.reached.0 are is.sum.reached.1 is.place goes.1),
  );
}

-- ---- the marks of all operations

pub marks_are : (node : Node) (t : ℕ) (order : List ℕ) (rows : List (List ℕ)) (marks : List (Option Mark)) → AreWalks node t order rows → HasMarks (train_at node.problem t) order rows marks
    → (o : ℕ) → MatchOption (mark_at marks o) (IsForced node (op_of_train t o) → ⊥) (IsMarkOf node t o)
marks_are node t order rows marks are has o = elim (cases_lt o (length marks)) [
  | inl lt ↦
      let place = at_contains order o (are.order_is.has o (omega (arith, lt, has.long))) in
      matched (mark_at marks o) (IsOnEach order rows (last_of order) o → ⊥) (IsForced node (op_of_train t o) → ⊥) (IsMark train order rows o) (IsMarkOf node t o) (has.are_marks place.0 o place.1 (omega arith))
      (λ not_each forced. not_each (each_of node t order rows o are forced)) (λ mark is. mark_is node t order rows o mark are is)
  | inr past ↦
      subst (λ (m : Option Mark). MatchOption m (IsForced node (op_of_train t o) → ⊥) (IsMarkOf node t o)) (sym (get_or_past marks o None past))
      (λ forced. let some = forced.allowed in omega (arith, past, has.long, within some.0 some.1 (forced.each_has some.0 some.1)))
]
  where
    train : List Operation
    train = train_at node.problem t

    within : (route : List ℕ) → IsAllowed node t route → Contains route o → o < length train
    within [] allowed there = absurd allowed.is_route
    within (p ∷ rest) allowed there = each_within train p rest allowed.is_route.1 o (is_in o (p ∷ rest) there)

some_mark : (found : Option Mark) (P : Type 0) (Q : Mark → Type 0) (m : Mark) → found ≡ Some m → MatchOption found P Q → Q m
some_mark None P Q m e h = absurd (none-some m e)
some_mark (Some n) P Q m e h = subst Q (same_Some n m e) h

pub marked : (node : Node) (t : ℕ) (order : List ℕ) (rows : List (List ℕ)) (marks : List (Option Mark)) (o : ℕ) (mark : Mark) → AreWalks node t order rows → HasMarks (train_at node.problem t) order rows marks → mark_at marks o ≡ Some mark
    → IsMark (train_at node.problem t) order rows o mark
marked node t order rows marks o mark are has e = elim (cases_lt o (length marks)) [
  | inl lt ↦
      let place = at_contains order o (are.order_is.has o (omega (arith, lt, has.long))) in
      some_mark (mark_at marks o) (IsOnEach order rows (last_of order) o → ⊥) (IsMark (train_at node.problem t) order rows o) mark e (has.are_marks place.0 o place.1 (omega arith))
  | inr past ↦ absurd (none-some mark (sym (get_or_past marks o None past) ∙ e))
]

-- ---- least sums between two

chain_join : (order : List ℕ) (rows : List (List ℕ)) (e : ℕ) (front : List ℕ) (a : ℕ) (more : List ℕ) (b : ℕ) → Chain order rows e front a → Chain order rows a more b → Chain order rows e (front ++ more) b
chain_join order rows e [] a more b first second = subst (λ (x : ℕ). Chain order rows x more b) (sym first) second
chain_join order rows e (p ∷ front) a more b first second = (first.0, (first.1.0, first.1.1, chain_join order rows first.1.0 front a more b first.1.2 second))

-- a walk that passes two operations, as chains
pub record Leg (train : List Operation) (order : List ℕ) (rows : List (List ℕ)) (a b : ℕ) (before between : List ℕ) : Type 0 where
  pub early : Chain order rows (last_of order) before a
  pub late : Chain order rows a (a ∷ between) b

leg : (train : List Operation) (order : List ℕ) (rows : List (List ℕ)) (a b : ℕ) (before between behind : List ℕ) → IsRowWalk order rows (last_of order) (before ++ a ∷ (between ++ b ∷ behind)) → Leg train order rows a b before between
leg train order rows a b before between behind walk =
    let parts = walk_parts order rows (last_of order) before a (between ++ b ∷ behind) walk in
    let on : IsRowWalk order rows a (a ∷ (between ++ b ∷ behind)) = (refl, parts.1) in
    record { early = parts.0; late = (walk_parts order rows a (a ∷ between) b behind on).0 }

-- where both are marked a leg between them is no shorter than the difference
leg_least : (node : Node) (t : ℕ) (order : List ℕ) (rows : List (List ℕ)) (a b : ℕ) (from to : Mark) (before between : List ℕ) → IsMark (train_at node.problem t) order rows a from → IsMark (train_at node.problem t) order rows b to
    → Leg (train_at node.problem t) order rows a b before between → to.sum ≤ from.sum + sum_by (duration_of (train_at node.problem t)) (a ∷ between)
leg_least node t order rows a b from to before between first second legs =
    let front = first.sum.reached in
    let train = train_at node.problem t in
    omega (
      arith,
      second.sum.at_most (front.0 ++ a ∷ between) (chain_join order rows (last_of order) front.0 a (a ∷ between) b front.1 legs.late),
      sum_by-append (duration_of train) front.0 (a ∷ between),
      front.2,
    )

train_arc : (node : Node) (t : ℕ) (order : List ℕ) (rows : List (List ℕ)) (a b : ℕ) (from to : Mark) → AreWalks node t order rows → IsMark (train_at node.problem t) order rows a from → IsMark (train_at node.problem t) order rows b to
    → to.place < from.place → IsTrainArc node (op_of_train t a) (op_of_train t b) (to.sum - from.sum)
train_arc node t order rows a b from to are first second lower = record {
  same_train = refl;
  reached = reached;
  least = λ route total allowed passes.
      let legs = leg train order rows a b passes.before passes.between passes.behind (subst (IsRowWalk order rows (last_of order)) passes.route_is (are.walk route allowed)) in
      omega (arith, leg_least node t order rows a b from to passes.before passes.between first second legs, passes.total_is);
}
  where
    train : List Operation
    train = train_at node.problem t

    front : (front : List ℕ) × Chain order rows (last_of order) front b × (to.sum ≡ sum_by (duration_of train) front)
    front = second.sum.reached

    way : (rest : List ℕ) × Goes order rows b rest
    way = goes_on train order rows to.place b are.is_laid second.place

    route : List ℕ
    route = front.0 ++ b ∷ way.0

    walk : IsRowWalk order rows (last_of order) route
    walk = chain_walk order rows (last_of order) front.0 b way.0 front.1 way.1

    in_front : IsIn a front.0
    in_front = elim (in_front_or_back a front.0 (b ∷ way.0) (is_in a route (first.each route walk))) [
      | inl early ↦ early
      | inr late ↦
          let found = goes_below train order rows to.place b way.0 are.is_laid second.place way.1 a late in
          absurd (omega (arith, found.1, lower, are.is_laid.one_place found.0 from.place a found.2 first.place))
    ]

    part : Parted a front.0
    part = parted a front.0 in_front

    route_is : route ≡ part.before ++ a ∷ (part.rest ++ b ∷ way.0)
    route_is = ap (λ (l : List ℕ). l ++ b ∷ way.0) part.is ∙ append_assoc part.before (a ∷ part.rest) (b ∷ way.0)

    legs : Leg train order rows a b part.before part.rest
    legs = leg train order rows a b part.before part.rest way.0 (subst (IsRowWalk order rows (last_of order)) route_is walk)

    sum : to.sum ≡ sum_by (duration_of train) part.before + sum_by (duration_of train) (a ∷ part.rest)
    sum = front.2 ∙ ap (λ (l : List ℕ). sum_by (duration_of train) l) part.is ∙ sum_by-append (duration_of train) part.before (a ∷ part.rest)

    total_is : to.sum - from.sum ≡ sum_by (duration_of train) (a ∷ part.rest)
    total_is = omega (arith, sum, first.sum.at_most part.before legs.early, leg_least node t order rows a b from to part.before part.rest first second legs)

    reached : (route : List ℕ) × IsAllowed node t route × Passes train route a b (to.sum - from.sum)
    reached = (route, are.route route walk, record { before = part.before; between = part.rest; behind = way.0; route_is = route_is; total_is = total_is })

no_arc : (node : Node) (t : ℕ) (order : List ℕ) (rows : List (List ℕ)) (a b : ℕ) (from to : Mark) → AreWalks node t order rows → IsMark (train_at node.problem t) order rows a from → IsMark (train_at node.problem t) order rows b to
    → from.place ≤ to.place → (sum : ℕ) → IsTrainArc node (op_of_train t a) (op_of_train t b) sum → ⊥
no_arc node t order rows a b from to are first second above sum arc =
    let passes = arc.reached.2 in
    let train = train_at node.problem t in
    let legs = leg train order rows a b passes.before passes.between passes.behind (subst (IsRowWalk order rows (last_of order)) passes.route_is (are.walk arc.reached.0 arc.reached.1)) in
    let found = chain_above train order rows from.place a (a ∷ passes.between) to.place b are.is_laid first.place second.place legs.late a (inl refl) in
    omega (arith, found.1, above, are.is_laid.one_place found.0 from.place a found.2 first.place)

pub ordered_are : (node : Node) (t : ℕ) (order : List ℕ) (rows : List (List ℕ)) (marks : List (Option Mark)) → AreWalks node t order rows → HasMarks (train_at node.problem t) order rows marks
    → (a b : ℕ) (from to : Mark) → mark_at marks a ≡ Some from → mark_at marks b ≡ Some to → AreMarksInOrder node t a b from to
ordered_are node t order rows marks are has a b from to first second =
    let one = marked node t order rows marks a from are has first in
    let other = marked node t order rows marks b to are has second in
    record { arc = λ lower. train_arc node t order rows a b from to are one other lower; none = λ above sum arc. no_arc node t order rows a b from to are one other above sum arc }

pub route_there : (node : Node) (t : ℕ) (order : List ℕ) (rows : List (List ℕ)) → AreWalks node t order rows → HasRoute node t
route_there node t order rows are = some_route node t order rows are

-- ---- marked and forced

pub marked_forced : (node : Node) (t o : ℕ) (found : Option Mark) (mark : Mark) → MatchOption found (IsForced node (op_of_train t o) → ⊥) (IsMarkOf node t o) → found ≡ Some mark → IsMarkOf node t o mark
marked_forced node t o None mark h e = absurd (none-some mark e)
marked_forced node t o (Some m) mark h e = subst (IsMarkOf node t o) (same_Some m mark e) h

pub forced_marked : (node : Node) (t o : ℕ) (found : Option Mark) → MatchOption found (IsForced node (op_of_train t o) → ⊥) (IsMarkOf node t o) → IsForced node (op_of_train t o) → (mark : Mark) × (found ≡ Some mark)
forced_marked node t o None h forced = absurd (h forced)
forced_marked node t o (Some m) h forced = (m, refl)
