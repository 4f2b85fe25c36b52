-- What is enough for a choice to be picked under the free rule.
use Rattle.std.proofs.Common.{◌≡◌, ◌≢◌, ◌∙◌, ℕ, suc, ◌+◌, ◌<◌, ◌≤◌, List, [], ◌∷◌, length, true, Some, None, refl, sym, ap, subst, arith, inl, inr}
use Rattle.std.specs.Prelude.{All, Contains, slice_get, nat_eq, ◌⊎◌, ◌==◌}
use Rattle.std.specs.List.{list_any}
use Rattle.std.proofs.lemmas.Bool.{cases_lt, eq-eqb}
use Rattle.std.proofs.lemmas.List.Elements.{All-cons, All-contains}
use Rattle.std.proofs.lemmas.Option.{same_Some}
use Rattle.std.proofs.lemmas.List.Folds.{list_any-from_Any}
use Rattle.disp_model.specs.declared.train.Op.{Op}
use Rattle.disp_model.specs.declared.train.Listing.{Listing}
use Rattle.disp_model.specs.declared.plan.Event.{Event}
use Rattle.disp_model.specs.declared.decision.Decision.TheVariants.{First}
use Rattle.disp_model.specs.declared.decision.Choice.TheVariants.{Route, Order, Run}
use Rattle.disp_model.specs.declared.settings.Rule.TheVariants.{Free}
use Rattle.disp_model.specs.declared.problem.Problem.{Problem}
use Rattle.disp_model.specs.Train.{IsExit, IsRoute}
use Rattle.disp_model.specs.Plan.{end_of, Ending}
use Rattle.disp_model.specs.Fixing.{after}
use Rattle.disp_model.specs.Valid.{train_at, IsValid}
use Rattle.disp_model.specs.Node.{Node}
use Rattle.disp_model.specs.Routes.{IsAllowed, IsForced, Starts}
use Rattle.disp_model.specs.Arcs.{listings_of, release_of, min_of, Conflicts, GoesTo}
use Rattle.disp_model.specs.Walks.{IsLongest, HasCycle}
use Rattle.disp_model.specs.Choices.{IsEnd, IsOpenOrder}
use Rattle.disp_model.specs.Earliest.{IsEarliest, PicksNone, IsPicked}
use Rattle.disp_laws.proofs.Paths.{is_in, goes_to_next}
use Rattle.disp_laws.proofs.Branching.{IsStartedAt}
use Rattle.disp_laws.proofs.RouteSearch.{Decided, same_option, contained_or_not, allowed_routes}
use Rattle.disp_laws.proofs.Arcs.{released}
use Rattle.disp_laws.proofs.Picked.{one_longest, contains_at, same_op}
use Rattle.disp_laws.proofs.OpenChoices.{goes_to_forced, fixed_is_free}
use Rattle.disp_laws.proofs.LongestSteps.{longest_step}
use Rattle.disp_laws.proofs.EarliestPlans.{longest_at}
use Rattle.disp_laws.proofs.EarliestEnds.{event_ends, one_end_time, release_within}
use Rattle.incremental_paths.proofs.Members.{Contains-filter}
use Rattle.route_sets.specs.Sets.{op_of_train as op_at, IsOnSome}
use Rattle.branch_rules.specs.declared.pick.Pick.{Pick}
use Rattle.branch_rules.specs.declared.pick.Pick.TheVariants.{Choice, Plan}
use Rattle.branch_rules.specs.Picks.{IsPickAt}
use Rattle.first_overlaps.specs.Spans.{IsSpanOf, IsListed}
use Rattle.free_choices.specs.Picks.{IsPickBy}

-- ---- two routes

-- what is asked of each holds of all, or there is another one
other_or_all : {X : Type 0} (P : X → Type 0) → ((x : X) → Decided (P x)) → (xs : List X) → All P xs ⊎ ((x : X) × Contains xs x × (P x → ⊥))
other_or_all P each [] = inl (λ k d lt. absurd (omega arith))
other_or_all P each (x ∷ xs) = elim (each x) [
  | inl here ↦ elim (other_or_all P each xs) [
    | inl rest ↦ inl (All-cons P x xs here rest)
    | inr (y, (k, lt, e), n) ↦ inr (y, (suc k, omega arith, e), n)
  ]
  | inr n ↦ inr (x, (0, omega arith, refl), n)
]

-- each allowed route of a train is so, or some is not
route_or_all : (node : Node) (t : ℕ) (P : List ℕ → Type 0) → t < length node.problem.trains → ((route : List ℕ) → Decided (P route))
    → ((route : List ℕ) → IsAllowed node t route → P route) ⊎ ((route : List ℕ) × IsAllowed node t route × (P route → ⊥))
route_or_all node t P there each =
    let listed = allowed_routes node t there in
    elim (other_or_all P each listed.routes) [
      | inl all ↦ inl (λ route allowed. All-contains P listed.routes route all (listed.each route allowed))
      | inr (route, among, n) ↦ inr (route, listed.only route among, n)
    ]

not_alone : (node : Node) (t : ℕ) (one other : List ℕ) → t < length node.problem.trains → IsAllowed node t one → IsAllowed node t other → one ≢ other → PicksNone node → ⊥
not_alone node t one other there allowed also apart none =
    let alone = none.earliest.one_route t there in
    apart (alone.1.alone one allowed ∙ sym (alone.1.alone other also))

-- ---- a route

-- an allowed route goes on from an operation that it has and that is no exit
goes_on : (node : Node) (o : Op) (route : List ℕ) → IsAllowed node o.train route → Contains route o.op → (IsExit (train_at node.problem o.train) o.op → ⊥) → (s : ℕ) × (after o.op route ≡ Some s)
goes_on node o route allowed there no_exit = by_route route allowed.is_route there
  where
    by_route : (route : List ℕ) → IsRoute (train_at node.problem o.train) route → Contains route o.op → (s : ℕ) × (after o.op route ≡ Some s)
    by_route [] is there = absurd is
    by_route (p ∷ rest) is there = let next = goes_to_next (train_at node.problem o.train) o.op p rest is.1 (is_in o.op (p ∷ rest) there) no_exit in (next.0, next.1)

pub route_is_picked : (node : Node) (o : Op) → IsForced node o → ((s : ℕ) → GoesTo node o (op_at o.train s) → ⊥) → (IsExit (train_at node.problem o.train) o.op → ⊥) → IsPicked node Free (Some (Route o))
route_is_picked node o forced parts no_exit = by_first forced.allowed.0 forced.allowed.1
  where
    by_first : (one : List ℕ) → IsAllowed node o.train one → IsPicked node Free (Some (Route o))
    by_first one allowed =
        let next = goes_on node o one allowed (forced.each_has one allowed) no_exit in
        elim (route_or_all node o.train (λ route. after o.op route ≡ Some next.0) forced.train (λ route. same_option (after o.op route) (Some next.0))) [
          | inl all ↦ absurd (parts next.0 (refl, all))
          | inr (other, also, not) ↦ (
            record { forced = forced; one = one; other = other; one_allowed = allowed; other_allowed = also; apart = λ same. not (sym same ∙ next.1) },
            not_alone node o.train one other forced.train allowed also (λ same. not (sym (ap (after o.op) same) ∙ next.1)),
          )
        ]

-- ---- an operation to run or to skip

pub run_is_picked : (node : Node) (o : Op) → o.train < length node.problem.trains → (IsForced node o → ⊥) → IsOnSome node o.train o.op → IsPicked node Free (Some (Run o))
run_is_picked node o there free (one, allowed, has_it) =
    elim (route_or_all node o.train (λ route. Contains route o.op) there (contained_or_not o.op)) [
      | inl all ↦ absurd (free (record { train = there; allowed = (one, allowed); each_has = all }))
      | inr (other, also, not) ↦ (
        record { one = one; other = other; one_allowed = allowed; other_allowed = also; has = has_it; has_not = not },
        not_alone node o.train one other there allowed also (λ same. not (subst (λ (route : List ℕ). Contains route o.op) same has_it)),
      )
    ]

-- ---- an order

-- operations of two trains that list one resource conflict
pub conflict_on : (problem : Problem) (a b : Op) (resource p q : ℕ) → a.train ≢ b.train → IsListed problem a resource p → IsListed problem b resource q → Conflicts problem a b
conflict_on problem a b resource p q apart (l, own, is, le) (k, also, too, ge) = record {
  trains = apart;
  shared = λ none. nothing (subst (λ (ls : List Listing). Contains ls l) none
      (Contains-filter (λ (m : Listing). list_any (λ (n : Listing). n.resource == m.resource) (listings_of problem b)) (listings_of problem a) l own (any also)));
}
  where
    nothing : {l : Listing} → Contains [] l → ⊥
    nothing (n, lt, e) = omega arith

    any : Contains (listings_of problem b) k → list_any (λ (n : Listing). n.resource == l.resource) (listings_of problem b) ≡ true
    any (n, lt, e) = list_any-from_Any (λ (n : Listing). nat_eq n.resource l.resource) (listings_of problem b) (n, k, lt, e, eq-eqb k.resource l.resource (too ∙ sym is))

-- the release time of a listing that both have is within that of the pair
release_on : (problem : Problem) (a b : Op) (resource p q : ℕ) → IsListed problem a resource p → IsListed problem b resource q → p ≤ release_of problem a b
release_on problem a b resource p q (l, own, is, le) (k, (n, lt, e), too, ge) =
    omega (arith, le, release_within problem a b l own (n, k, lt, e, too ∙ sym is))

-- where an order is decided the second starts no earlier than the end of the first and its release time
decided_in_time : (node : Node) (a b : Op) (end start : ℕ) → (HasCycle node → ⊥) → Contains node.decisions (First a b) → IsForced node a → IsForced node b → Conflicts node.problem a b → IsEnd node a end → IsLongest node b start → end + release_of node.problem a b ≤ start
decided_in_time node a b end start no_cycle decided from to conflicts (inl (n, goes, longest)) starts =
    longest_step node n b (release_of node.problem a b) end start no_cycle
    (record { from_forced = goes_to_forced node a n from goes; to_forced = to; kind = inr (inr (record { holder = a; decided = decided; forced = from; conflicts = conflicts; goes_to = goes; length_is = refl })) }) longest starts
decided_in_time node a b end start no_cycle decided from to conflicts (inr (none, (own, longest, is))) starts =
    let step = longest_step node a b (min_of node.problem a + release_of node.problem a b) own start no_cycle
    (record { from_forced = from; to_forced = to; kind = inr (inl (record { decided = decided; conflicts = conflicts; length_is = refl })) }) longest starts in
    omega (arith, step, is)

-- in a valid earliest plan the second of two that conflict starts no earlier than the end of the first and its release time
stands_in_time : (node : Node) (plan : List Event) (a b : Op) (i j : ℕ) (e f : Event) (end start : ℕ) → IsEarliest node plan → IsValid node.problem node.fixings plan → IsForced node a → Conflicts node.problem a b
    → i < j → IsStartedAt plan a i e → IsStartedAt plan b j f → IsEnd node a end → IsLongest node b start → end + release_of node.problem a b ≤ start
stands_in_time node plan a b i j e f end start earliest valid forced conflicts lt first second ends starts =
    let free = released node.problem node.fixings plan a b i j e f valid conflicts lt first second in
    let own = event_ends node plan i e earliest first.0 in
    let ended = one_end_time node a end own.at.time forced ends (subst (λ (o : Op). IsEnd node o own.at.time) (same_op a e first.1) own.time_is) in
    let started = one_longest node b start f.time starts (subst (λ (o : Op). IsLongest node o f.time) (same_op b f second.1) (longest_at node plan j f earliest second.0)) in
    let time : (end_of node.problem.trains plan i e).time ≡ own.at.time = ap (λ (x : Ending). x.time) own.is in
    omega (arith, free.1, ended, started, time)

-- in a valid earliest plan one of two that conflict starts no earlier than the end of the other and its release time
one_is_in_time : (node : Node) (a b : Op) (start end begin over : ℕ) → IsSpanOf node a start end → IsSpanOf node b begin over → Conflicts node.problem a b → Conflicts node.problem b a → PicksNone node
    → (end + release_of node.problem a b ≤ begin) ⊎ (over + release_of node.problem b a ≤ start)
one_is_in_time node a b start end begin over one other conflicts back none =
    let e = none.earliest.each_run a one.forced in
    let f = none.earliest.each_run b other.forced in
    let at = contains_at none.plan e.0 e.1 in
    let there = contains_at none.plan f.0 f.1 in
    elim (cases_lt at.0 there.0) [
      | inl lt ↦ inl (stands_in_time node none.plan a b at.0 there.0 e.0 f.0 end begin none.earliest none.valid one.forced conflicts lt (at.1, e.2) (there.1, f.2) one.end_is other.start_is)
      | inr le ↦ elim (cases_lt there.0 at.0) [
        | inl lt ↦ inr (stands_in_time node none.plan b a there.0 at.0 f.0 e.0 over start none.earliest none.valid other.forced back lt (there.1, f.2) (at.1, e.2) other.end_is one.start_is)
        | inr ge ↦ absurd (conflicts.trains (one_event at.0 there.0 e.0 f.0 (omega (arith, le, ge)) at.1 there.1 e.2 f.2))
      ]
    ]
  where
    one_event : (i j : ℕ) (e f : Event) → i ≡ j → slice_get none.plan i ≡ Some e → slice_get none.plan j ≡ Some f → Starts a e → Starts b f → a.train ≡ b.train
    one_event i j e f same at there starts also =
        let event : e ≡ f = same_Some e f (sym at ∙ ap (slice_get none.plan) same ∙ there) in
        sym starts.train ∙ ap (λ (x : Event). x.train) event ∙ also.train

-- two that hold one resource at a time, neither of which is over before the other starts
pub order_is_picked : (node : Node) (a b : Op) (start end begin over resource p q : ℕ) → (HasCycle node → ⊥) → a.train < b.train → IsSpanOf node a start end → IsSpanOf node b begin over → IsListed node.problem a resource p → IsListed node.problem b resource q
    → begin < end + p → start < over + q → IsPicked node Free (Some (Order a b))
order_is_picked node a b start end begin over resource p q no_cycle trains one other lists also early late = (
  record {
    trains = trains;
    from_forced = one.forced;
    to_forced = other.forced;
    conflicts = conflicts;
    undecided = λ decided. not_yet (decided_in_time node a b end begin no_cycle decided one.forced other.forced conflicts one.end_is other.start_is);
    undecided_back = λ decided. not_before (decided_in_time node b a over start no_cycle decided other.forced one.forced back other.end_is one.start_is);
    not_clear = λ clears.
        let ends = one_end_time node a clears.end end one.forced clears.end_is one.end_is in
        let starts = one_longest node b clears.start begin clears.start_is other.start_is in
        not_yet (omega (arith, clears.in_time, ends, starts));
    not_clear_back = λ clears.
        let ends = one_end_time node b clears.end over other.forced clears.end_is other.end_is in
        let starts = one_longest node a clears.start start clears.start_is one.start_is in
        not_before (omega (arith, clears.in_time, ends, starts));
  },
  λ none. elim (one_is_in_time node a b start end begin over one other conflicts back none) [ inl le ↦ not_yet le | inr le ↦ not_before le ],
)
  where
    conflicts : Conflicts node.problem a b
    conflicts = conflict_on node.problem a b resource p q (λ same. omega (arith, trains, same)) lists also

    back : Conflicts node.problem b a
    back = conflict_on node.problem b a resource q p (λ same. omega (arith, trains, same)) also lists

    not_yet : end + release_of node.problem a b ≤ begin → ⊥
    not_yet le = omega (arith, le, early, release_on node.problem a b resource p q lists also)

    not_before : over + release_of node.problem b a ≤ start → ⊥
    not_before le = omega (arith, le, late, release_on node.problem b a resource q p also lists)

-- two that hold one resource, where neither ends before the other starts, and neither order is decided
pub touch_is_open : (node : Node) (a b : Op) (start end begin over resource p q : ℕ) → a.train < b.train → IsSpanOf node a start end → IsSpanOf node b begin over → IsListed node.problem a resource p → IsListed node.problem b resource q → begin ≤ end → start ≤ over
    → (Contains node.decisions (First a b) → ⊥) → (Contains node.decisions (First b a) → ⊥) → IsOpenOrder node a b
touch_is_open node a b start end begin over resource p q trains one other lists also early late undecided undecided_back = record {
  trains = trains;
  from_forced = one.forced;
  to_forced = other.forced;
  conflicts = conflict_on node.problem a b resource p q (λ same. omega (arith, trains, same)) lists also;
  undecided = undecided;
  undecided_back = undecided_back;
  not_clear = λ clears.
      let ends = one_end_time node a clears.end end one.forced clears.end_is one.end_is in
      let starts = one_longest node b clears.start begin clears.start_is other.start_is in
      omega (arith, clears.below, ends, starts, early);
  not_clear_back = λ clears.
      let ends = one_end_time node b clears.end over other.forced clears.end_is other.end_is in
      let starts = one_longest node a clears.start start clears.start_is one.start_is in
      omega (arith, clears.below, ends, starts, late);
}

-- ---- what the fixed rule finds

pub fixed_serves : (node : Node) (pick : Pick) → IsPickAt node pick → IsPickBy Free node pick
fixed_serves node (Choice choice) is = fixed_is_free node (Some choice) is
fixed_serves node (Plan plan) is = (fixed_is_free node None is.0, is.1)
