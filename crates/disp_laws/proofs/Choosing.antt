-- At a node that is not dead none is picked, or some choice is.
use Rattle.std.proofs.Common.{◌≡◌, ℕ, zero, suc, ◌<◌, List, [], ◌∷◌, ◌++◌, length, Option, Some, None, refl, sym, ap, subst, ◌∙◌, arith, inl, inr, append_assoc}
use Rattle.std.specs.Prelude.{◌⊎◌}
use Rattle.std.proofs.lemmas.Bool.{cases_lt, eq-eqb}
use Rattle.std.proofs.lemmas.Option.{none-some, same_Some}
use Rattle.disp_model.specs.declared.train.Op.{Op}
use Rattle.disp_model.specs.declared.plan.Event.{Event}
use Rattle.disp_model.specs.declared.fixing.Change.{Change}
use Rattle.disp_model.specs.declared.decision.Choice.{Choice}
use Rattle.disp_model.specs.declared.decision.Choice.TheVariants.{Route, Order}
use Rattle.disp_model.specs.declared.settings.Rule.{Rule}
use Rattle.disp_model.specs.declared.settings.Rule.TheVariants.{Fixed, Free}
use Rattle.disp_model.specs.Train.{IsEntry, IsRoute}
use Rattle.disp_model.specs.Fixing.{after}
use Rattle.disp_model.specs.Changes.{standing_of}
use Rattle.disp_model.specs.Valid.{train_at, IsValid}
use Rattle.disp_model.specs.Node.{Node}
use Rattle.disp_model.specs.Routes.{IsAllowed, HasRoute, HasOneRoute}
use Rattle.disp_model.specs.Nodes.{HasLate, IsDead}
use Rattle.disp_model.specs.Replies.{IsEdition}
use Rattle.disp_model.specs.Choices.{IsOpen}
use Rattle.disp_model.specs.Earliest.{IsEarliest, HaveOneRoute, HasTwoRoutes, IsFork, IsFirstFork, IsFixedPick, IsPicked}
use Rattle.disp_laws.proofs.Paths.{IsIn}
use Rattle.disp_laws.proofs.RouteSearch.{Decided, both, denied, same_option, same_number, IsListed, allowed_routes}
use Rattle.disp_laws.proofs.LongestArcs.{some_or_not}
use Rattle.disp_laws.proofs.LeastSums.{not_before_on_route}
use Rattle.disp_laws.proofs.LeavesStay.{HaveRoutes, routes_or_none}
use Rattle.disp_laws.proofs.Composed.{after_behind}
use Rattle.disp_laws.proofs.EarliestExists.{earliest_exists}
use Rattle.disp_laws.proofs.Standing.{AreFit, edition_fits}
use Rattle.disp_laws.proofs.EarliestValid.{valid_where_apart}
use Rattle.disp_laws.proofs.OpenChoices.{clash_is_open, fixed_is_free}
use Rattle.disp_laws.proofs.Clashes.{apart_or_meets, meets_clash, first_clash}
use Rattle.disp_laws.proofs.Shares.{train_there}

-- ---- one allowed route, or two

same_route : (one other : List ℕ) → Decided (one ≡ other)
same_route [] [] = inl refl
same_route [] (p ∷ other) = inr (λ e. absurd cc)
same_route (q ∷ one) [] = inr (λ e. absurd cc)
same_route (q ∷ one) (p ∷ other) = elim (both (same_number q p) (same_route one other)) [
  | inl is ↦ inl (ap (λ (x : ℕ). x ∷ one) is.0 ∙ ap (λ (l : List ℕ). p ∷ l) is.1)
  | inr not ↦ inr (λ e. not (cc (e), cc (e)))
]

one_or_two : (node : Node) (t : ℕ) → t < length node.problem.trains → HasRoute node t → ((route : List ℕ) × HasOneRoute node t route) ⊎ HasTwoRoutes node t
one_or_two node t there has = by_list (allowed_routes node t there)
  where
    by_list : IsListed node t → ((route : List ℕ) × HasOneRoute node t route) ⊎ HasTwoRoutes node t
    by_list listed = elim (some_or_not (λ route. route ≡ has.0 → ⊥) (λ route. denied (same_route route has.0)) listed.routes) [
      | inl found ↦ inr (found.0, has.0, listed.only found.0 found.1, has.1, found.2)
      | inr none ↦ inl (has.0, record { allowed = has.1; alone = λ other allowed. elim (same_route other has.0) [ inl same ↦ same | inr not ↦ absurd (none (other, listed.each other allowed, not)) ] })
    ]

-- ---- the fork of a train with two allowed routes

abbrev head_of : List ℕ → Option ℕ
head_of [] = None
head_of (q ∷ rest) = Some q

after_joint : (o : ℕ) (front more : List ℕ) → (IsIn o front → ⊥) → after o (front ++ o ∷ more) ≡ head_of more
after_joint o front [] free = after_behind o o front [] free
after_joint o front (q ∷ more) free = after_behind o o front (q ∷ more) free ∙ rw (eq-eqb o o refl) refl

-- all allowed routes begin with these operations
abbrev BeginAlike : Node → ℕ → List ℕ → ℕ → Type 0
BeginAlike node t front o = (route : List ℕ) → IsAllowed node t route → (more : List ℕ) × (route ≡ front ++ o ∷ more)

joint_is_free : (node : Node) (t : ℕ) (front : List ℕ) (o : ℕ) (more : List ℕ) → IsAllowed node t (front ++ o ∷ more) → IsIn o front → ⊥
joint_is_free node t front o more is = not_before_on_route (train_at node.problem t) o front more (node.problem.well_formed.acyclic t [] (train_there node t (front ++ o ∷ more) is)) is.is_route

-- what follows the joint on a route that goes on as another
follows_joint : (node : Node) (t : ℕ) (front : List ℕ) (o : ℕ) (rest left route : List ℕ) → IsAllowed node t (front ++ o ∷ rest) → IsAllowed node t route → route ≡ front ++ o ∷ left → after o route ≡ after o (front ++ o ∷ rest)
    → head_of left ≡ head_of rest
follows_joint node t front o rest left route is own parts same =
    sym (after_joint o front left (joint_is_free node t front o left (subst (IsAllowed node t) parts own))) ∙ sym (ap (after o) parts) ∙ same ∙ after_joint o front rest (joint_is_free node t front o rest is)

-- two routes differ at the joint, or all go on alike from it
fork_at : (node : Node) (t : ℕ) → IsListed node t → (front : List ℕ) (o : ℕ) (rest : List ℕ) → IsAllowed node t (front ++ o ∷ rest) → BeginAlike node t front o
    → (((route : List ℕ) → IsAllowed node t route → after o route ≡ after o (front ++ o ∷ rest)) → (p : ℕ) × IsFork node (record { train = t; op = p }))
    → (p : ℕ) × IsFork node (record { train = t; op = p })
fork_at node t listed front o rest allowed alike later =
    elim (some_or_not (λ route. after o route ≡ after o (front ++ o ∷ rest) → ⊥) (λ route. denied (same_option (after o route) (after o (front ++ o ∷ rest)))) listed.routes) [
      | inl found ↦ (o, record { front = front; alike = alike; one = found.0; other = front ++ o ∷ rest; one_allowed = listed.only found.0 found.1; other_allowed = allowed; apart = found.2 })
      | inr none ↦ later (λ route is. elim (same_option (after o route) (after o (front ++ o ∷ rest))) [ inl same ↦ same | inr not ↦ absurd (none (route, listed.each route is, not)) ])
    ]

ends_here : (front : List ℕ) (o : ℕ) (route left : List ℕ) → route ≡ front ++ o ∷ left → head_of left ≡ None → route ≡ front ++ o ∷ []
ends_here front o route [] parts head = parts
ends_here front o route (x ∷ left) parts head = absurd (none-some x (sym head))

goes_here : (front : List ℕ) (o q : ℕ) (route left : List ℕ) → route ≡ front ++ o ∷ left → head_of left ≡ Some q → (behind : List ℕ) × (route ≡ (front ++ o ∷ []) ++ q ∷ behind)
goes_here front o q route [] parts head = absurd (none-some q head)
goes_here front o q route (x ∷ left) parts head =
    (left, parts ∙ ap (λ (y : ℕ). front ++ o ∷ y ∷ left) (same_Some x q head) ∙ sym (append_assoc front (o ∷ []) (q ∷ left)))

fork_along : (node : Node) (t : ℕ) → IsListed node t → (front : List ℕ) (o : ℕ) (rest : List ℕ) → IsAllowed node t (front ++ o ∷ rest) → BeginAlike node t front o → HasTwoRoutes node t
    → (p : ℕ) × IsFork node (record { train = t; op = p })
fork_along node t listed front o [] allowed alike two =
    fork_at node t listed front o [] allowed alike (λ same. absurd (two.4 (ends same two.0 two.2 ∙ sym (ends same two.1 two.3))))
  where
    ends : ((route : List ℕ) → IsAllowed node t route → after o route ≡ after o (front ++ o ∷ [])) → (route : List ℕ) → IsAllowed node t route → route ≡ front ++ o ∷ []
    ends same route own = let parts = alike route own in ends_here front o route parts.0 parts.1 (follows_joint node t front o [] parts.0 route allowed own parts.1 (same route own))
fork_along node t listed front o (q ∷ rest) allowed alike two =
    fork_at node t listed front o (q ∷ rest) allowed alike
    (λ same. fork_along node t listed (front ++ o ∷ []) q rest (subst (IsAllowed node t) (sym (append_assoc front (o ∷ []) (q ∷ rest))) allowed)
    (λ route own. let parts = alike route own in goes_here front o q route parts.0 parts.1 (follows_joint node t front o (q ∷ rest) parts.0 route allowed own parts.1 (same route own))) two)

fork_of : (node : Node) (t : ℕ) → t < length node.problem.trains → HasTwoRoutes node t → (p : ℕ) × IsFork node (record { train = t; op = p })
fork_of node t there two = by_route two.0 two.2
  where
    same_entry : (o p : ℕ) → IsEntry (train_at node.problem t) o → IsEntry (train_at node.problem t) p → o ≡ p
    same_entry o p one other = (node.problem.well_formed.acyclic t [] there).one_entry o p one other

    begins : (p : ℕ) → IsEntry (train_at node.problem t) p → (route : List ℕ) → IsAllowed node t route → (more : List ℕ) × (route ≡ [] ++ p ∷ more)
    begins p entry route is = by_first route is.is_route
      where
        by_first : (route : List ℕ) → IsRoute (train_at node.problem t) route → (more : List ℕ) × (route ≡ [] ++ p ∷ more)
        by_first [] is = absurd is
        by_first (q ∷ more) is = (more, ap (λ (x : ℕ). x ∷ more) (same_entry q p is.0 entry))

    by_route : (route : List ℕ) → IsAllowed node t route → (p : ℕ) × IsFork node (record { train = t; op = p })
    by_route [] is = absurd is.is_route
    by_route (p ∷ rest) is = fork_along node t (allowed_routes node t there) [] p rest is (begins p is.is_route.0) two

-- the first number below n of which P holds
first_or_none : (P : ℕ → Type 0) (n : ℕ) → ((t : ℕ) → t < n → Decided (P t)) → ((t : ℕ) × (t < n) × P t × ((s : ℕ) → s < t → P s → ⊥)) ⊎ ((t : ℕ) → t < n → P t → ⊥)
first_or_none P zero each = inr (λ t lt. absurd (omega arith))
first_or_none P (suc n) each = elim (first_or_none P n (λ t lt. each t (omega arith))) [
  | inl found ↦ inl (found.0, omega (arith, found.1), found.2, found.3)
  | inr none ↦ elim (each n (omega arith)) [
    | inl here ↦ inl (n, omega arith, here, none)
    | inr not ↦ inr (λ t lt. last_or_before none not t lt)
  ]
]
  where
    last_or_before : ((t : ℕ) → t < n → P t → ⊥) → (P n → ⊥) → (t : ℕ) → t < suc n → P t → ⊥
    last_or_before none not t lt = elim (cases_lt t n) [ inl before ↦ none t before | inr le ↦ subst (λ (k : ℕ). P k → ⊥) (let same : n ≡ t = omega (arith, le, lt) in same) not ]

two_or_not : (node : Node) (t : ℕ) → t < length node.problem.trains → HasRoute node t → Decided (HasTwoRoutes node t)
two_or_not node t there has = elim (one_or_two node t there has) [
  | inr two ↦ inl two
  | inl one ↦ inr (λ two. two.4 (one.1.alone two.0 two.2 ∙ sym (one.1.alone two.1 two.3)))
]

-- each train has one allowed route, or the first with two has a fork
one_each_or_fork : (node : Node) → HaveRoutes node → HaveOneRoute node ⊎ ((o : Op) × IsFirstFork node o)
one_each_or_fork node all = by_first (first_or_none (HasTwoRoutes node) (length node.problem.trains) (λ t there. two_or_not node t there (all t there)))
  where
    by_first : ((t : ℕ) × (t < length node.problem.trains) × HasTwoRoutes node t × ((s : ℕ) → s < t → HasTwoRoutes node s → ⊥)) ⊎ ((t : ℕ) → t < length node.problem.trains → HasTwoRoutes node t → ⊥)
        → HaveOneRoute node ⊎ ((o : Op) × IsFirstFork node o)
    by_first (inl (t, there, two, first)) = let fork = fork_of node t there two in inr (record { train = t; op = fork.0 }, record { fork = fork.1; first = first })
    by_first (inr none) = inl (λ t there. elim (one_or_two node t there (all t there)) [ inl one ↦ one | inr two ↦ absurd (none t there two) ])

-- ---- none is picked, or some choice

pub fixed_or_none : (node : Node) → AreFit node.problem node.fixings → (IsDead node → ⊥) → IsFixedPick node None ⊎ ((choice : Choice) × IsFixedPick node (Some choice))
fixed_or_none node fit alive = elim (routes_or_none node) [
  | inl none ↦ absurd (alive (inl none))
  | inr all ↦ elim (one_each_or_fork node all) [
    | inr fork ↦ inr (Route fork.0, fork.1)
    | inl one ↦ by_plan (earliest_exists node one (λ cycle. alive (inr (inl cycle))))
  ]
]
  where
    in_time : HasLate node → ⊥
    in_time late = alive (inr (inr late))

    by_plan : ((plan : List Event) × IsEarliest node plan) → IsFixedPick node None ⊎ ((choice : Choice) × IsFixedPick node (Some choice))
    by_plan (plan, earliest) = elim (apart_or_meets node plan) [
      | inl apart ↦ inl (record { plan = plan; earliest = earliest; valid = valid_where_apart node plan fit in_time earliest apart })
      | inr met ↦
          let first = first_clash node plan earliest met in
          inr (Order first.0 first.1, record { plan = plan; earliest = earliest; not_valid = λ valid. met.not_apart (valid.apart met.i met.j met.e met.f met.order met.first met.second met.trains); first_clash = first.2 })
    ]

-- at a node that is not dead none is picked or some choice is, whatever the rule
pub picked_or_none : (node : Node) (changes : List Change) (rule : Rule) → IsEdition node.problem changes → node.fixings ≡ standing_of changes → (IsDead node → ⊥) → IsPicked node rule None ⊎ ((choice : Choice) × IsPicked node rule (Some choice))
picked_or_none node changes rule edition standing alive = by_rule rule (fixed_or_none node (subst (AreFit node.problem) (sym standing) (edition_fits node.problem changes edition)) alive)
  where
    by_rule : (rule : Rule) → IsFixedPick node None ⊎ ((choice : Choice) × IsFixedPick node (Some choice)) → IsPicked node rule None ⊎ ((choice : Choice) × IsPicked node rule (Some choice))
    by_rule Fixed picked = picked
    by_rule Free (inl none) = inl (fixed_is_free node None none)
    by_rule Free (inr some) = inr (some.0, fixed_is_free node (Some some.0) some.1)

-- with one route each and nothing open the earliest plan is valid
pub nothing_open_is_valid : (node : Node) (changes : List Change) (plan : List Event) → IsEdition node.problem changes → node.fixings ≡ standing_of changes → (IsDead node → ⊥) → ((choice : Choice) → IsOpen node choice → ⊥) → IsEarliest node plan
    → IsValid node.problem node.fixings plan
nothing_open_is_valid node changes plan edition standing alive closed earliest = elim (apart_or_meets node plan) [
  | inl apart ↦ valid_where_apart node plan (subst (AreFit node.problem) (sym standing) (edition_fits node.problem changes edition)) (λ late. alive (inr (inr late))) earliest apart
  | inr met ↦ let clash = meets_clash node plan earliest met in absurd (closed (Order clash.0 clash.1) (clash_is_open node plan clash.0 clash.1 earliest clash.2))
]
