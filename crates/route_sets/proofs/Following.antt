-- The one route that is allowed, from mark to mark.
use Rattle.std.proofs.Common.{◌≡◌, ◌∙◌, ℕ, zero, suc, ◌+◌, ◌-◌, ◌<◌, true, false, List, [], ◌∷◌, ◌++◌, length, get_or, Option, Some, None, refl, sym, ap, subst, inl, inr, arith}
use Rattle.std.specs.Prelude.{nat_eq, slice_get, Contains, sum_by, option_map, ◌↔◌}
use Rattle.std.proofs.lemmas.Bool.{cases_Bool, cases_lt, eqb-true, eq-eqb, false≢true}
use Rattle.std.proofs.lemmas.Option.{none-some, same_Some, slice_get-get_or, slice_get_within}
use Rattle.std.proofs.lemmas.List.{append_assoc, get_or_past}
use Rattle.std.proofs.lemmas.List.Sums.{sum_by-append}
use Rattle.disp_model.specs.declared.train.Operation.{Operation}
use Rattle.disp_model.specs.Train.{IsExit, IsRoute, next_of, duration_of}
use Rattle.disp_model.specs.Valid.{train_at}
use Rattle.disp_model.specs.Fixing.{after}
use Rattle.disp_model.specs.Node.{Node}
use Rattle.disp_model.specs.Routes.{IsAllowed, HasRoute, HasOneRoute, IsForced}
use Rattle.disp_model.specs.Arcs.{IsTrainArc, GoesTo}
use Rattle.disp_laws.proofs.Paths.{IsIn, contains_in}
use Rattle.disp_laws.proofs.Branching.{route_from}
use Rattle.disp_laws.proofs.LeastSums.{not_before_on_route}
use Rattle.disp_laws.proofs.Composed.{after_behind}
use Rattle.train_orders.specs.Orders.{IsOrder}
use Rattle.train_orders.proofs.Places.{contains_at, contains_none}
use Rattle.train_orders.proofs.Ordered.{contains_here, one_place}
use Rattle.route_marks.specs.declared.marks.Mark.{Mark}
use Rattle.route_sets.specs.declared.routes.Routes.{Routes}
use Rattle.route_marks.specs.Ways.{last_of}
use Rattle.route_marks.specs.Marks.{mark_at, HasMarks}
use Rattle.route_sets.specs.Sets.{op_of_train, follow, mark_followed, next_followed, BeginsEach, AreRoutesOf, IsOnlyRoute}
use Rattle.route_sets.proofs.Knowing.{AreWalks, marked, order_fits, after_first, marked_forced, forced_marked}

-- ---- the exit stands first in the order

no_next : (xs : List ℕ) → ((s : ℕ) → Contains xs s → ⊥) → xs ≡ []
no_next [] none = refl
no_next (x ∷ xs) none = absurd (none x (contains_here x xs))

first_is_exit : (train : List Operation) (order : List ℕ) (z : ℕ) → IsOrder train order → slice_get order 0 ≡ Some z → IsExit train z
first_is_exit train order z is here = record {
  there = is.is_behind.within z (contains_at order z 0 here);
  last = no_next (next_of train z) (λ s next. contains_none s (is.is_behind.behind 0 z s here next));
}

pub ends_are : (node : Node) (t : ℕ) (order : List ℕ) (rows : List (List ℕ)) (marks : List (Option Mark)) → AreWalks node t order rows → HasMarks (train_at node.problem t) order rows marks
    → (o : ℕ) (mark : Mark) → mark_at marks o ≡ Some mark → (mark.place ≡ 0) ↔ IsExit (train_at node.problem t) o
ends_are node t order rows marks are has o mark at = (to, from)
  where
    here : slice_get order mark.place ≡ Some o
    here = (marked node t order rows marks o mark are has at).place

    to : mark.place ≡ 0 → IsExit (train_at node.problem t) o
    to first = first_is_exit (train_at node.problem t) order o are.order_is (subst (λ (k : ℕ). slice_get order k ≡ Some o) first here)

    from : IsExit (train_at node.problem t) o → mark.place ≡ 0
    from exit =
        let z = get_or order 0 0 in
        let first : slice_get order 0 ≡ Some z = slice_get-get_or order 0 0 are.is_laid.some in
        let same : z ≡ o = are.acyclic.one_exit z o (first_is_exit (train_at node.problem t) order z are.order_is first) exit in
        one_place (train_at node.problem t) order mark.place 0 o are.order_is here (subst (λ (x : ℕ). slice_get order 0 ≡ Some x) same first)

pub short_are : (node : Node) (t : ℕ) (order : List ℕ) (rows : List (List ℕ)) (marks : List (Option Mark)) → AreWalks node t order rows → HasMarks (train_at node.problem t) order rows marks
    → (o : ℕ) (mark : Mark) → mark_at marks o ≡ Some mark → mark.place < length marks
short_are node t order rows marks are has o mark at =
    omega (arith, has.long, order_fits (train_at node.problem t) order are.order_is, slice_get_within order mark.place o (marked node t order rows marks o mark are has at).place)

pub begins_are : (node : Node) (t : ℕ) (order : List ℕ) (rows : List (List ℕ)) (e : ℕ) → AreWalks node t order rows → e ≡ last_of order → BeginsEach node t e
begins_are node t order rows e are is [] allowed = absurd (are.walk [] allowed)
begins_are node t order rows e are is (p ∷ rest) allowed = (rest, ap (λ (x : ℕ). x ∷ rest) (sym (is ∙ (are.walk (p ∷ rest) allowed).0)))

-- ---- what stands behind an operation on a route

pub none_behind : (train : List Operation) (front : List ℕ) (o : ℕ) (rest : List ℕ) → IsRoute train (front ++ o ∷ rest) → IsExit train o → rest ≡ []
none_behind train front o [] is exit = refl
none_behind train front o (s ∷ rest) is exit = absurd (contains_none s (subst (λ (l : List ℕ). Contains l s) exit.last (route_from train front o (s ∷ rest) is).0))

pub there : (node : Node) (t : ℕ) → HasRoute node t → t < length node.problem.trains
there node t (route, allowed) = elim (cases_lt t (length node.problem.trains)) [
  | inl lt ↦ lt
  | inr past ↦ absurd (by route (subst (λ (train : List Operation). IsRoute train route) (get_or_past node.problem.trains t [] past) allowed.is_route))
]
  where
    by : (route : List ℕ) → IsRoute [] route → ⊥
    by [] is = is
    by (o ∷ rest) is = omega (arith, is.0.there)

pub after_on : (node : Node) (t : ℕ) (front : List ℕ) (o : ℕ) (rest : List ℕ) → IsAllowed node t (front ++ o ∷ rest) → after o (front ++ o ∷ rest) ≡ after o (o ∷ rest)
after_on node t front o rest allowed =
    after_behind o o front rest (λ early. not_before_on_route (train_at node.problem t) o front rest (node.problem.well_formed.acyclic t [] (there node t (front ++ o ∷ rest, allowed))) allowed.is_route early)

behind_is : (node : Node) (t : ℕ) (front : List ℕ) (o s : ℕ) (rest : List ℕ) → IsAllowed node t (front ++ o ∷ rest) → after o (front ++ o ∷ rest) ≡ Some s → (more : List ℕ) × (rest ≡ s ∷ more)
behind_is node t front o s [] allowed e = absurd (none-some s (sym (after_on node t front o [] allowed) ∙ e))
behind_is node t front o s (q ∷ rest) allowed e = (rest, ap (λ (x : ℕ). x ∷ rest) (same_Some q s (sym (after_on node t front o (q ∷ rest) allowed ∙ after_first o q rest) ∙ e)))

-- ---- what is found is each allowed route

abbrev pub Goes_by : Node → ℕ → List ℕ → ℕ → Type 0
Goes_by node t front o = (route : List ℕ) → IsAllowed node t route → (rest : List ℕ) × (route ≡ front ++ o ∷ rest)

pub goes_further : (node : Node) (t : ℕ) (front : List ℕ) (o s : ℕ) → Goes_by node t front o → ((route : List ℕ) → IsAllowed node t route → after o route ≡ Some s) → Goes_by node t (front ++ o ∷ []) s
goes_further node t front o s by goes route allowed =
    let part = by route allowed in
    let more = behind_is node t front o s part.0 (subst (IsAllowed node t) part.1 allowed) (subst (λ (l : List ℕ). after o l ≡ Some s) part.1 (goes route allowed)) in
    (more.0, part.1 ∙ ap (λ (l : List ℕ). front ++ o ∷ l) more.1 ∙ sym (append_assoc front (o ∷ []) (s ∷ more.0)))

-- what is followed from the next operation on ends the route
abbrev Later : Node → ℕ → Routes → ℕ → ℕ → List ℕ → List ℕ → Type 0
Later node t routes steps o front route =
    (s : ℕ) (more : List ℕ) → follow routes.marks.items steps s ≡ Some more → ((other : List ℕ) → IsAllowed node t other → after o other ≡ Some s) → route ≡ (front ++ o ∷ []) ++ more

pub followed : (node : Node) (t : ℕ) (routes : Routes) (steps o : ℕ) (front found : List ℕ) → AreRoutesOf node t routes → follow routes.marks.items steps o ≡ Some found → Goes_by node t front o
    → (route : List ℕ) → IsAllowed node t route → route ≡ front ++ found
followed node t routes zero o front found are says by route allowed = absurd (none-some found says)
followed node t routes (suc steps) o front found are says by route allowed =
    marks (λ s more e goes. followed node t routes steps s (front ++ o ∷ []) more are e (goes_further node t front o s by goes) route allowed) (mark_at routes.marks.items o) refl says
  where
    onward : ℕ → Option (List ℕ)
    onward s = follow routes.marks.items steps s

    on : Later node t routes steps o front route → (s : ℕ) (more : Option (List ℕ)) → onward s ≡ more → option_map (λ (rest : List ℕ). o ∷ rest) more ≡ Some found → ((other : List ℕ) → IsAllowed node t other → after o other ≡ Some s) → route ≡ front ++ found
    on later s None e says goes = absurd (none-some found says)
    on later s (Some more) e says goes =
        later s more e goes ∙ append_assoc front (o ∷ []) more ∙ ap (λ (l : List ℕ). front ++ l) (same_Some (o ∷ more) found says)

    nexts : Later node t routes steps o front route → (mark : Mark) (next : Option ℕ) → mark_at routes.marks.items o ≡ Some mark → mark.next ≡ next → next_followed o next onward ≡ Some found → route ≡ front ++ found
    nexts later mark None at is says = absurd (none-some found says)
    nexts later mark (Some s) at is says = on later s (onward s) refl says (((marked_forced node t o (mark_at routes.marks.items o) mark (are.marks o) at).next s).0 is).1

    marks : Later node t routes steps o front route → (mark : Option Mark) → mark_at routes.marks.items o ≡ mark → mark_followed o mark onward ≡ Some found → route ≡ front ++ found
    marks later None at says = absurd (none-some found says)
    marks later (Some mark) at says = elim (cases_Bool (nat_eq mark.place 0)) [
      | inl e ↦
          let part = by route allowed in
          let exit = (are.ends o mark at).0 (eqb-true mark.place 0 e) in
          let last = none_behind (train_at node.problem t) front o part.0 (subst (IsAllowed node t) part.1 allowed).is_route exit in
          let one : Some (o ∷ []) ≡ Some found = rw e at says in
          part.1 ∙ ap (λ (l : List ℕ). front ++ o ∷ l) last ∙ ap (λ (l : List ℕ). front ++ l) (same_Some (o ∷ []) found one)
      | inr e ↦ nexts later mark mark.next at refl (rw e at says)
    ]

pub only_one : (node : Node) (t : ℕ) (routes : Routes) (steps : ℕ) (found : List ℕ) → AreRoutesOf node t routes → routes.left ≡ true → follow routes.marks.items steps routes.entry ≡ Some found → HasOneRoute node t found
only_one node t routes steps found are left says =
    let some = are.left.0 left in
    let each = followed node t routes steps routes.entry [] found are says are.begins in
    record { allowed = subst (IsAllowed node t) (each some.0 some.1) some.1; alone = λ other allowed. each other allowed }

-- ---- where one route is allowed it is found

pub here_in : (front : List ℕ) (x : ℕ) (rest : List ℕ) → IsIn x (front ++ x ∷ rest)
here_in [] x rest = inl refl
here_in (p ∷ front) x rest = inr (here_in front x rest)

not_mapped : (o : ℕ) (found : Option (List ℕ)) → option_map (λ (rest : List ℕ). o ∷ rest) found ≡ None → found ≡ None
not_mapped o None says = refl
not_mapped o (Some more) says = absurd (none-some (o ∷ more) (sym says))

-- from an operation of the one route to the next one, by their marks
pub record Further (node : Node) (t : ℕ) (routes : Routes) (q : ℕ) (mark : Mark) : Type 0 where
  pub next : mark.next ≡ Some q
  pub onto : Mark
  pub at : mark_at routes.marks.items q ≡ Some onto
  pub lower : onto.place < mark.place

further : (node : Node) (t : ℕ) (routes : Routes) (o q : ℕ) (front rest route : List ℕ) (mark : Mark) → AreRoutesOf node t routes → HasOneRoute node t route → route ≡ front ++ o ∷ q ∷ rest → mark_at routes.marks.items o ≡ Some mark
    → Further node t routes q mark
further node t routes o q front rest route mark are one is at = record { next = ((marked_forced node t o (mark_at routes.marks.items o) mark (are.marks o) at).next q).1 goes; onto = found.0; at = found.1; lower = lower }
  where
    train : List Operation
    train = train_at node.problem t

    goes : GoesTo node (op_of_train t o) (op_of_train t q)
    goes = (refl, λ other allowed. subst (λ (l : List ℕ). after o l ≡ Some q) (sym (one.alone other allowed ∙ is)) (after_on node t front o (q ∷ rest) (subst (IsAllowed node t) is one.allowed) ∙ after_first o q rest))

    forced : IsForced node (op_of_train t q)
    forced = record {
      train = there node t (route, one.allowed);
      allowed = (route, one.allowed);
      each_has = λ other allowed. subst (λ (l : List ℕ). Contains l q) (sym (one.alone other allowed ∙ is ∙ sym (append_assoc front (o ∷ []) (q ∷ rest)))) (contains_in q ((front ++ o ∷ []) ++ q ∷ rest) (here_in (front ++ o ∷ []) q rest));
    }

    found : (onto : Mark) × (mark_at routes.marks.items q ≡ Some onto)
    found = forced_marked node t q (mark_at routes.marks.items q) (are.marks q) forced

    arc : IsTrainArc node (op_of_train t o) (op_of_train t q) (sum_by (duration_of train) (o ∷ []))
    arc = record {
      same_train = refl;
      reached = (route, one.allowed, record { before = front; between = []; behind = rest; route_is = is; total_is = refl });
      least = λ other total allowed passes. omega (arith, passes.total_is, sum_by-append (duration_of train) (o ∷ []) passes.between);
    }

    lower : found.0.place < mark.place
    lower = elim (cases_lt found.0.place mark.place) [
      | inl lt ↦ lt
      | inr ge ↦ absurd ((are.ordered o q mark found.0 at found.1).none ge (sum_by (duration_of train) (o ∷ [])) arc)
    ]

pub none_followed : (node : Node) (t : ℕ) (routes : Routes) (steps o : ℕ) (front rest route : List ℕ) (mark : Mark) → AreRoutesOf node t routes → HasOneRoute node t route → route ≡ front ++ o ∷ rest → mark_at routes.marks.items o ≡ Some mark → mark.place < steps
    → follow routes.marks.items steps o ≡ None → ⊥
none_followed node t routes zero o front rest route mark are one is at lt says = omega (arith, lt)
none_followed node t routes (suc steps) o front rest route mark are one is at lt says = elim (cases_Bool (nat_eq mark.place 0)) [
  | inl e ↦ let found : Some (o ∷ []) ≡ None = rw e at stepped in none-some (o ∷ []) (sym found)
  | inr e ↦
      by (λ q more is on led. none_followed node t routes steps q (front ++ o ∷ []) more route on.onto are one is on.at (omega (arith, on.lower, lt)) led)
      rest is (λ first. false≢true (sym e ∙ eq-eqb mark.place 0 first)) (rw e at stepped)
]
  where
    onward : ℕ → Option (List ℕ)
    onward s = follow routes.marks.items steps s

    stepped : mark_followed o (Some mark) onward ≡ None
    stepped = sym (ap (λ (m : Option Mark). mark_followed o m onward) at) ∙ says

    by : ((q : ℕ) (more : List ℕ) → route ≡ (front ++ o ∷ []) ++ q ∷ more → Further node t routes q mark → onward q ≡ None → ⊥)
        → (rest : List ℕ) → route ≡ front ++ o ∷ rest → (mark.place ≡ 0 → ⊥) → next_followed o mark.next onward ≡ None → ⊥
    by later [] is more says = more ((are.ends o mark at).1 (route_from (train_at node.problem t) front o [] (subst (IsAllowed node t) is one.allowed).is_route))
    by later (q ∷ rest) is more says =
        let on = further node t routes o q front rest route mark are one is at in
        let led : option_map (λ (rest : List ℕ). o ∷ rest) (onward q) ≡ None = subst (λ (n : Option ℕ). next_followed o n onward ≡ None) on.next says in
        later q rest (is ∙ sym (append_assoc front (o ∷ []) (q ∷ rest))) on (not_mapped o (onward q) led)

-- the operation that each allowed route begins with is forced
pub begin_forced : (node : Node) (t : ℕ) (routes : Routes) → AreRoutesOf node t routes → HasRoute node t → IsForced node (op_of_train t routes.entry)
begin_forced node t routes are some = record {
  train = there node t some;
  allowed = some;
  each_has = λ other allowed. let part = are.begins other allowed in subst (λ (l : List ℕ). Contains l routes.entry) (sym part.1) (contains_here routes.entry part.0);
}

pub none_only : (node : Node) (t : ℕ) (routes : Routes) (route : List ℕ) → AreRoutesOf node t routes → follow routes.marks.items (length routes.marks.items) routes.entry ≡ None → HasOneRoute node t route → ⊥
none_only node t routes route are says one =
    let begin = are.begins route one.allowed in
    let found = forced_marked node t routes.entry (mark_at routes.marks.items routes.entry) (are.marks routes.entry) (begin_forced node t routes are (route, one.allowed)) in
    none_followed node t routes (length routes.marks.items) routes.entry [] begin.0 route found.0 are one begin.1 found.1 (are.short routes.entry found.0 found.1) says

pub only_route_is : (node : Node) (t : ℕ) (routes : Routes) (found : Option (List ℕ)) → AreRoutesOf node t routes → routes.left ≡ true → found ≡ follow routes.marks.items (length routes.marks.items) routes.entry → IsOnlyRoute node t found
only_route_is node t routes None are left is = λ route one. none_only node t routes route are (sym is) one
only_route_is node t routes (Some route) are left is = only_one node t routes (length routes.marks.items) route are left (sym is)

-- ---- one step of the loop

mapped_twice : (route : List ℕ) (o : ℕ) (found : Option (List ℕ)) → option_map (λ (rest : List ℕ). route ++ rest) (option_map (λ (rest : List ℕ). o ∷ rest) found) ≡ option_map (λ (rest : List ℕ). (route ++ o ∷ []) ++ rest) found
mapped_twice route o None = refl
mapped_twice route o (Some rest) = ap Some (sym (append_assoc route (o ∷ []) rest))

pub not_zero : (n : ℕ) → (n ≡ 0 → ⊥) → nat_eq n 0 ≡ false
not_zero n more = elim (cases_Bool (nat_eq n 0)) [ inl e ↦ absurd (more (eqb-true n 0 e)) | inr e ↦ e ]

pub step_on : (marks : List (Option Mark)) (n i o s : ℕ) (found : Option (List ℕ)) (route : List ℕ) (mark : Mark) → i < n → found ≡ option_map (λ (rest : List ℕ). route ++ rest) (follow marks (n - i) o) → mark_at marks o ≡ Some mark → (mark.place ≡ 0 → ⊥) → mark.next ≡ Some s
    → found ≡ option_map (λ (rest : List ℕ). (route ++ o ∷ []) ++ rest) (follow marks (n - (i + 1)) s)
step_on marks n i o s found route mark lt is at more next =
    let left : n - i ≡ suc (n - (i + 1)) = omega (arith, lt) in
    let here : found ≡ option_map (λ (rest : List ℕ). route ++ rest) (follow marks (suc (n - (i + 1))) o) = subst (λ (k : ℕ). found ≡ option_map (λ (rest : List ℕ). route ++ rest) (follow marks k o)) left is in
    (rw (at, not_zero mark.place more, next) at here) ∙ mapped_twice route o (follow marks (n - (i + 1)) s)
