-- The operation from which the allowed routes part, from mark to mark.
use Rattle.std.proofs.Common.{◌≡◌, ◌≢◌, ◌∙◌, ℕ, zero, suc, ◌+◌, ◌-◌, ◌<◌, true, List, [], ◌∷◌, ◌++◌, length, Option, Some, None, refl, sym, ap, subst, inl, inr, arith}
use Rattle.std.specs.Prelude.{nat_eq, Contains, sum_by, ◌↔◌}
use Rattle.std.proofs.lemmas.Bool.{cases_Bool, cases_lt, eqb-true, eq-eqb, false≢true}
use Rattle.std.proofs.lemmas.Option.{none-some, same_Some}
use Rattle.std.proofs.lemmas.List.{append_assoc}
use Rattle.std.proofs.lemmas.List.Sums.{sum_by-append}
use Rattle.disp_model.specs.declared.train.Operation.{Operation}
use Rattle.disp_model.specs.Train.{duration_of}
use Rattle.disp_model.specs.Valid.{train_at}
use Rattle.disp_model.specs.Fixing.{after}
use Rattle.disp_model.specs.Node.{Node}
use Rattle.disp_model.specs.Routes.{IsAllowed, HasRoute, HasOneRoute, IsForced}
use Rattle.disp_model.specs.Arcs.{IsTrainArc, GoesTo}
use Rattle.disp_model.specs.Earliest.{IsFork}
use Rattle.disp_laws.proofs.Paths.{contains_in}
use Rattle.disp_laws.proofs.Branching.{route_from}
use Rattle.disp_laws.proofs.RouteSearch.{denied, same_option, IsListed, allowed_routes}
use Rattle.disp_laws.proofs.LongestArcs.{some_or_not}
use Rattle.route_marks.specs.declared.marks.Mark.{Mark}
use Rattle.route_sets.specs.declared.routes.Routes.{Routes}
use Rattle.route_marks.specs.Marks.{mark_at}
use Rattle.route_sets.specs.Sets.{op_of_train, parting, mark_parted, next_parted, AreRoutesOf, IsAloneUnparted}
use Rattle.route_sets.proofs.Knowing.{after_first, marked_forced, forced_marked}
use Rattle.route_sets.proofs.Following.{Goes_by, goes_further, none_behind, there, after_on, here_in, begin_forced}

-- ---- a train has one fork at most

-- of two ways to begin a list one is the front of the other
data Meets (front other : List ℕ) (p q : ℕ) : Type 0 where
  alike : p ≡ q → Meets front other p q
  earlier : (between : List ℕ) → other ≡ front ++ p ∷ between → Meets front other p q
  later : (between : List ℕ) → front ≡ other ++ q ∷ between → Meets front other p q

meets : (front other : List ℕ) (p q : ℕ) (rest more : List ℕ) → front ++ p ∷ rest ≡ other ++ q ∷ more → Meets front other p q
meets [] [] p q rest more e = alike (cc (e))
meets [] (x ∷ other) p q rest more e = let same : p ≡ x = cc (e) in earlier other (ap (λ (y : ℕ). y ∷ other) (sym same))
meets (x ∷ front) [] p q rest more e = let same : x ≡ q = cc (e) in later front (ap (λ (y : ℕ). y ∷ front) same)
meets (x ∷ front) (y ∷ other) p q rest more e = by (meets front other p q rest more (cc (e)))
  where
    same : x ≡ y
    same = cc (e)

    by : Meets front other p q → Meets (x ∷ front) (y ∷ other) p q
    by (alike h) = alike h
    by (earlier between h) = earlier between (ap (λ (l : List ℕ). y ∷ l) h ∙ ap (λ (z : ℕ). z ∷ front ++ p ∷ between) (sym same))
    by (later between h) = later between (ap (λ (l : List ℕ). x ∷ l) h ∙ ap (λ (z : ℕ). z ∷ other ++ q ∷ between) same)

abbrev first_of : List ℕ → ℕ → ℕ
first_of [] q = q
first_of (x ∷ between) q = x

-- what follows an operation on a route that goes on from it by known ones
follows : (node : Node) (t : ℕ) (front : List ℕ) (p : ℕ) (between : List ℕ) (q : ℕ) (rest route : List ℕ) → IsAllowed node t route → route ≡ (front ++ p ∷ between) ++ q ∷ rest → after p route ≡ Some (first_of between q)
follows node t front p [] q rest route allowed is =
    let parts : route ≡ front ++ p ∷ q ∷ rest = is ∙ append_assoc front (p ∷ []) (q ∷ rest) in
    ap (after p) parts ∙ after_on node t front p (q ∷ rest) (subst (IsAllowed node t) parts allowed) ∙ after_first p q rest
follows node t front p (x ∷ between) q rest route allowed is =
    let parts : route ≡ front ++ p ∷ x ∷ (between ++ q ∷ rest) = is ∙ append_assoc front (p ∷ x ∷ between) (q ∷ rest) in
    ap (after p) parts ∙ after_on node t front p (x ∷ (between ++ q ∷ rest)) (subst (IsAllowed node t) parts allowed) ∙ after_first p x (between ++ q ∷ rest)

-- no fork comes before an operation up to which all routes go alike
none_earlier : (node : Node) (t : ℕ) (front : List ℕ) (p : ℕ) (between : List ℕ) (q : ℕ) (one other : List ℕ) → Goes_by node t (front ++ p ∷ between) q → IsAllowed node t one → IsAllowed node t other → after p one ≢ after p other → ⊥
none_earlier node t front p between q one other by first second apart =
    let left = by one first in
    let right = by other second in
    apart (follows node t front p between q left.0 one first left.1 ∙ sym (follows node t front p between q right.0 other second right.1))

one_fork : (node : Node) (t p q : ℕ) → IsFork node (op_of_train t p) → IsFork node (op_of_train t q) → p ≡ q
one_fork node t p q f g = by (meets f.front g.front p q left.0 right.0 (sym left.1 ∙ right.1))
  where
    left : (rest : List ℕ) × (f.one ≡ f.front ++ p ∷ rest)
    left = f.alike f.one f.one_allowed

    right : (rest : List ℕ) × (f.one ≡ g.front ++ q ∷ rest)
    right = g.alike f.one f.one_allowed

    by : Meets f.front g.front p q → p ≡ q
    by (alike same) = same
    by (earlier between is) =
        absurd (none_earlier node t f.front p between q f.one f.other (subst (λ (l : List ℕ). Goes_by node t l q) is g.alike) f.one_allowed f.other_allowed f.apart)
    by (later between is) =
        absurd (none_earlier node t g.front q between p g.one g.other (subst (λ (l : List ℕ). Goes_by node t l p) is f.alike) g.one_allowed g.other_allowed g.apart)

-- ---- what the walk comes to

-- an operation, or that one route is allowed
abbrev PartsAt : Node → ℕ → Option ℕ → Type 0
PartsAt node t None = (route : List ℕ) × HasOneRoute node t route
PartsAt node t (Some o) = IsFork node (op_of_train t o)

-- all routes go on alike from a marked operation to the next one, which is marked too
record GoesOnTo (node : Node) (t : ℕ) (routes : Routes) (front : List ℕ) (o s : ℕ) (mark : Mark) : Type 0 where
  pub by : Goes_by node t (front ++ o ∷ []) s
  pub onto : Mark
  pub at : mark_at routes.marks.items s ≡ Some onto
  pub lower : onto.place < mark.place

goes_on_to : (node : Node) (t : ℕ) (routes : Routes) (front : List ℕ) (o s : ℕ) (mark : Mark) → AreRoutesOf node t routes → HasRoute node t → Goes_by node t front o → mark_at routes.marks.items o ≡ Some mark → mark.next ≡ Some s
    → GoesOnTo node t routes front o s mark
goes_on_to node t routes front o s mark are some by at next = record { by = further; onto = found.0; at = found.1; lower = lower }
  where
    train : List Operation
    train = train_at node.problem t

    goes : GoesTo node (op_of_train t o) (op_of_train t s)
    goes = ((marked_forced node t o (mark_at routes.marks.items o) mark (are.marks o) at).next s).0 next

    further : Goes_by node t (front ++ o ∷ []) s
    further = goes_further node t front o s by goes.1

    forced : IsForced node (op_of_train t s)
    forced = record {
      train = there node t some;
      allowed = some;
      each_has = λ route allowed. let part = further route allowed in subst (λ (l : List ℕ). Contains l s) (sym part.1) (contains_in s ((front ++ o ∷ []) ++ s ∷ part.0) (here_in (front ++ o ∷ []) s part.0));
    }

    found : (onto : Mark) × (mark_at routes.marks.items s ≡ Some onto)
    found = forced_marked node t s (mark_at routes.marks.items s) (are.marks s) forced

    arc : IsTrainArc node (op_of_train t o) (op_of_train t s) (sum_by (duration_of train) (o ∷ []))
    arc =
        let part = further some.0 some.1 in
        record {
          same_train = refl;
          reached = (some.0, some.1, record { before = front; between = []; behind = part.0; route_is = part.1 ∙ append_assoc front (o ∷ []) (s ∷ part.0); total_is = refl });
          least = λ other total allowed passes. omega (arith, passes.total_is, sum_by-append (duration_of train) (o ∷ []) passes.between);
        }

    lower : found.0.place < mark.place
    lower = elim (cases_lt found.0.place mark.place) [
      | inl lt ↦ lt
      | inr ge ↦ absurd ((are.ordered o s mark found.0 at found.1).none ge (sum_by (duration_of train) (o ∷ [])) arc)
    ]

-- where the mark of an operation that is not the exit names none that comes next, the routes part
parts_here : (node : Node) (t : ℕ) (routes : Routes) (front : List ℕ) (o : ℕ) (mark : Mark) → AreRoutesOf node t routes → HasRoute node t → Goes_by node t front o → mark_at routes.marks.items o ≡ Some mark
    → (mark.place ≡ 0 → ⊥) → mark.next ≡ None → IsFork node (op_of_train t o)
parts_here node t routes front o mark are some by at more none = by_rest (by some.0 some.1).0 (by some.0 some.1).1
  where
    listed : IsListed node t
    listed = allowed_routes node t (there node t some)

    not_next : (s : ℕ) → GoesTo node (op_of_train t o) (op_of_train t s) → ⊥
    not_next s goes = none-some s (sym none ∙ ((marked_forced node t o (mark_at routes.marks.items o) mark (are.marks o) at).next s).1 goes)

    by_rest : (rest : List ℕ) → some.0 ≡ front ++ o ∷ rest → IsFork node (op_of_train t o)
    by_rest [] is = absurd (more ((are.ends o mark at).1 (route_from (train_at node.problem t) front o [] (subst (IsAllowed node t) is some.1).is_route)))
    by_rest (s ∷ rest) is =
        let own : after o some.0 ≡ Some s = ap (after o) is ∙ after_on node t front o (s ∷ rest) (subst (IsAllowed node t) is some.1) ∙ after_first o s rest in
        elim (some_or_not (λ route. after o route ≡ after o some.0 → ⊥) (λ route. denied (same_option (after o route) (after o some.0))) listed.routes) [
          | inl found ↦ record { front = front; alike = by; one = found.0; other = some.0; one_allowed = listed.only found.0 found.1; other_allowed = some.1; apart = found.2 }
          | inr all ↦ absurd (not_next s (
            refl,
            λ route allowed. elim (same_option (after o route) (after o some.0)) [
              | inl same ↦ same ∙ own
              | inr not ↦ absurd (all (route, listed.each route allowed, not))
            ],
          ))
        ]

parted : (node : Node) (t : ℕ) (routes : Routes) (steps : ℕ) (front : List ℕ) (o : ℕ) (mark : Mark) → AreRoutesOf node t routes → HasRoute node t → Goes_by node t front o → mark_at routes.marks.items o ≡ Some mark → mark.place < steps
    → PartsAt node t (parting routes.marks.items steps o)
parted node t routes zero front o mark are some by at lt = absurd (omega (arith, lt))
parted node t routes (suc steps) front o mark are some by at lt =
    subst (λ (m : Option Mark). PartsAt node t (mark_parted o m (λ s. parting routes.marks.items steps s))) (sym at)
    (by_next (λ s on. parted node t routes steps (front ++ o ∷ []) s on.onto are some on.by on.at (omega (arith, on.lower, lt))) mark.next refl)
  where
    ends_at : (route : List ℕ) → IsAllowed node t route → nat_eq mark.place 0 ≡ true → route ≡ front ++ o ∷ []
    ends_at route allowed e =
        let part = by route allowed in
        part.1 ∙ ap (λ (l : List ℕ). front ++ o ∷ l) (none_behind (train_at node.problem t) front o part.0 (subst (IsAllowed node t) part.1 allowed).is_route ((are.ends o mark at).0 (eqb-true mark.place 0 e)))

    by_next : ((s : ℕ) → GoesOnTo node t routes front o s mark → PartsAt node t (parting routes.marks.items steps s)) → (next : Option ℕ) → mark.next ≡ next
        → PartsAt node t (next_parted o mark.place next (λ s. parting routes.marks.items steps s))
    by_next onward (Some s) is = onward s (goes_on_to node t routes front o s mark are some by at is)
    by_next onward None is = elim (cases_Bool (nat_eq mark.place 0)) [
      | inl e ↦ rw e (some.0, record { allowed = some.1; alone = λ other allowed. ends_at other allowed e ∙ sym (ends_at some.0 some.1 e) })
      | inr e ↦ rw e (parts_here node t routes front o mark are some by at (λ first. false≢true (sym e ∙ eq-eqb mark.place 0 first)) is)
    ]

-- ---- the answer

pub parted_from : (node : Node) (t : ℕ) (routes : Routes) (found : Option ℕ) → AreRoutesOf node t routes → routes.left ≡ true → found ≡ parting routes.marks.items (length routes.marks.items) routes.entry → PartsAt node t found
parted_from node t routes found are left is =
    let some = are.left.0 left in
    let begin = forced_marked node t routes.entry (mark_at routes.marks.items routes.entry) (are.marks routes.entry) (begin_forced node t routes are some) in
    subst (PartsAt node t) (sym is) (parted node t routes (length routes.marks.items) [] routes.entry begin.0 are some are.begins begin.1 (are.short routes.entry begin.0 begin.1))

no_fork : (node : Node) (t o : ℕ) (route : List ℕ) → HasOneRoute node t route → IsFork node (op_of_train t o) → ⊥
no_fork node t o route one fork = fork.apart (ap (after o) (one.alone fork.one fork.one_allowed ∙ sym (one.alone fork.other fork.other_allowed)))

pub part_is : (node : Node) (t : ℕ) (found : Option ℕ) → PartsAt node t found → (o : ℕ) → (found ≡ Some o) ↔ IsFork node (op_of_train t o)
part_is node t None one o = (λ e. absurd (none-some o e), λ fork. absurd (no_fork node t o one.0 one.1 fork))
part_is node t (Some p) fork o = (λ e. subst (λ (q : ℕ). IsFork node (op_of_train t q)) (same_Some p o e) fork, λ other. ap Some (one_fork node t p o fork other))

pub alone_is : (node : Node) (t : ℕ) (found : Option ℕ) → PartsAt node t found → IsAloneUnparted node t found
alone_is node t None one is has = one
alone_is node t (Some p) fork is has = absurd (none-some p (sym is))

-- where none is left none parts
pub none_parts : (node : Node) (t : ℕ) → (HasRoute node t → ⊥) → (o : ℕ) → IsFork node (op_of_train t o) → ⊥
none_parts node t none o fork = none (fork.one, fork.one_allowed)

-- ---- one step of the loop

pub part_on : (marks : List (Option Mark)) (n i o s : ℕ) (found : Option ℕ) (mark : Mark) → i < n → found ≡ parting marks (n - i) o → mark_at marks o ≡ Some mark → mark.next ≡ Some s → found ≡ parting marks (n - (i + 1)) s
part_on marks n i o s found mark lt is at next =
    let left : n - i ≡ suc (n - (i + 1)) = omega (arith, lt) in
    let here : found ≡ parting marks (suc (n - (i + 1))) o = subst (λ (k : ℕ). found ≡ parting marks k o) left is in
    rw (at, next) at here
