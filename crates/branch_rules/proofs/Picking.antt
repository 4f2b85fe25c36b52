-- The choice of the fixed rule, by the routes of the trains and the first pair that clashes.
use Rattle.std.proofs.Common.{◌≡◌, ◌≢◌, ◌∙◌, ℕ, ◌+◌, ◌<◌, List, [], ◌∷◌, ◌++◌, length, Option, Some, None, refl, sym, subst, inl, inr, arith}
use Rattle.std.specs.Prelude.{slice_index_or, Contains, ◌⊎◌, MatchOption}
use Rattle.std.proofs.lemmas.Bool.{cases_lt}
use Rattle.std.proofs.lemmas.List.{get_or_append_left}
use Rattle.std.proofs.Math.Seq.{get_or-append_seam}
use Rattle.disp_model.specs.declared.train.Op.{Op}
use Rattle.disp_model.specs.declared.plan.Event.{Event}
use Rattle.disp_model.specs.declared.fixing.Change.{Change}
use Rattle.disp_model.specs.declared.decision.Decision.TheVariants.{First}
use Rattle.disp_model.specs.declared.decision.Choice.{Choice}
use Rattle.disp_model.specs.declared.decision.Choice.TheVariants.{Order}
use Rattle.disp_model.specs.Changes.{standing_of}
use Rattle.disp_model.specs.Replies.{IsEdition}
use Rattle.disp_model.specs.Valid.{IsValid}
use Rattle.disp_model.specs.Node.{Node}
use Rattle.disp_model.specs.Nodes.{IsDead}
use Rattle.disp_model.specs.Routes.{HasRoute, HasOneRoute, Starts}
use Rattle.disp_model.specs.Earliest.{op_of, IsEarliest, IsFork, IsFirstFork, Clash, IsFirstClash, IsFixedPick, PicksNone, PicksOrder}
use Rattle.disp_laws.proofs.LeavesStay.{HaveRoutes, routes_or_none}
use Rattle.disp_laws.proofs.Standing.{AreFit, edition_fits}
use Rattle.disp_laws.proofs.Picked.{same_op}
use Rattle.disp_laws.proofs.EarliestPlans.{times_in_order, forced_at}
use Rattle.disp_laws.proofs.EarliestValid.{AllApart, valid_where_apart}
use Rattle.disp_laws.proofs.Clashes.{Meets, apart_or_meets, meets_undecided, meets_undecided_back}
use Rattle.route_sets.specs.Sets.{IsOnlyRoute}
use Rattle.plan_builder.specs.Shown.{FitTrains, AreOnlyRoutes}
use Rattle.branch_rules.specs.declared.pair.Pair.{Pair}
use Rattle.branch_rules.specs.Pairs.{RiseAlong, IsFirstPair, NoneClash}
use Rattle.branch_rules.specs.Behind.{AreOfTrains}
use Rattle.branch_rules.specs.Picks.{AreAlone, AreTheOnly, IsSomeNotAlone}

-- ---- the first fork

pub none_yet : (node : Node) → AreAlone node 0
none_yet node t lt = absurd (omega (arith, lt))

pub one_further : (node : Node) (count : ℕ) → AreAlone node count → (HasRoute node count → (route : List ℕ) × HasOneRoute node count route) → AreAlone node (count + 1)
one_further node count alone here t lt = elim (cases_lt t count) [
  | inl before ↦ alone t before
  | inr le ↦ let same : count ≡ t = omega (arith, lt, le) in subst (λ (n : ℕ). HasRoute node n → (route : List ℕ) × HasOneRoute node n route) same here
]

pub fork_is_first : (node : Node) (o : Op) → AreAlone node o.train → IsFork node o → IsFirstFork node o
fork_is_first node o alone fork = record { fork = fork; first = λ t lt two. let one = alone t lt (two.0, two.2) in two.4 (one.1.alone two.0 two.2 ∙ sym (one.1.alone two.1 two.3)) }

-- ---- the routes that stand alone

pub none_are : (node : Node) → AreTheOnly node 0 []
none_are node t lt = absurd (omega (arith, lt))

pub one_more_is : (node : Node) (count : ℕ) (found : List (List ℕ)) (route : List ℕ) → length found ≡ count → AreTheOnly node count found → HasOneRoute node count route → AreTheOnly node (count + 1) (found ++ route ∷ [])
one_more_is node count found route long are here t lt = elim (cases_lt t count) [
  | inl before ↦ subst (HasOneRoute node t) (sym (get_or_append_left found (route ∷ []) [] t (omega (arith, before, long)))) (are t before)
  | inr le ↦
      let same : length found ≡ t = omega (arith, lt, le, long) in
      subst (λ (n : ℕ). HasOneRoute node n (slice_index_or (found ++ route ∷ []) n [])) same (subst (HasOneRoute node (length found)) (sym (get_or-append_seam found route [] [])) (subst (λ (n : ℕ). HasOneRoute node n route) (sym long) here))
]

-- ---- where no train has a fork

pub all_have : (node : Node) → (IsDead node → ⊥) → HaveRoutes node
all_have node alive = elim (routes_or_none node) [ inl none ↦ absurd (alive (inl none)) | inr all ↦ all ]

pub each_alone : (node : Node) (count : ℕ) → count ≡ length node.problem.trains → (IsDead node → ⊥) → AreAlone node count → IsSomeNotAlone node count → ⊥
each_alone node count same alive alone (t, lt, none) = let one = alone t lt (all_have node alive t (omega (arith, lt, same))) in none one.0 one.1

pub only_routes_are : (node : Node) (count : ℕ) (found : List (List ℕ)) → count ≡ length node.problem.trains → AreTheOnly node count found → AreOnlyRoutes node found
only_routes_are node count found same are t lt = are t (omega (arith, lt, same))

pub trains_fit : (node : Node) (count : ℕ) (found : List (List ℕ)) → count ≡ length node.problem.trains → length found ≡ count → AreTheOnly node count found → FitTrains node.problem.trains found
trains_fit node count found same long are = record { count = long ∙ same; each = λ t lt. (are t (omega (arith, lt, same))).allowed.is_route }

pub rises : (node : Node) (plan : List Event) → IsEarliest node plan → RiseAlong plan
rises node plan earliest j k e f le at there = times_in_order node plan j k e f earliest le at there

pub of_trains : (node : Node) (plan : List Event) → IsEarliest node plan → AreOfTrains node.problem plan
of_trains node plan earliest j f at = (forced_at node plan j f earliest at).train

-- ---- the first clash

-- where none clash all keep apart
apart_all : (node : Node) (plan : List Event) → NoneClash node.problem plan → AllApart node plan
apart_all node plan none = elim (apart_or_meets node plan) [
  | inl apart ↦ apart
  | inr met ↦ elim (cases_lt met.e.train met.f.train) [
    | inl lt ↦ absurd (none (op_of met.e) (op_of met.f) lt
        (record { i = met.i; j = met.j; earlier = met.e; later = met.f; order = met.order; earlier_there = met.first; later_there = met.second; names = inl (own met.e, own met.f); not_apart = met.not_apart }))
    | inr le ↦ elim (cases_lt met.f.train met.e.train) [
      | inl lt ↦ absurd (none (op_of met.f) (op_of met.e) lt
          (record { i = met.i; j = met.j; earlier = met.e; later = met.f; order = met.order; earlier_there = met.first; later_there = met.second; names = inr (own met.e, own met.f); not_apart = met.not_apart }))
      | inr ge ↦ absurd (met.trains (omega (arith, le, ge)))
    ]
  ]
]
  where
    own : (e : Event) → Starts (op_of e) e
    own e = record { train = refl; operation = refl }

apart_trains : (a b : Op) (e f : Event) → a.train < b.train → (Starts a e × Starts b f) ⊎ (Starts b e × Starts a f) → e.train ≢ f.train
apart_trains a b e f lt (inl names) same = omega (arith, lt, names.0.train, names.1.train, same)
apart_trains a b e f lt (inr names) same = omega (arith, lt, names.0.train, names.1.train, same)

abbrev pub Undecided : Node → Op → Op → Type 0
Undecided node a b = (Contains node.decisions (First a b) → ⊥) × (Contains node.decisions (First b a) → ⊥)

pub clash_undecided : (node : Node) (plan : List Event) (a b : Op) → IsEarliest node plan → a.train < b.train → Clash node.problem plan a b → Undecided node a b
clash_undecided node plan a b earliest lt c = by c.names
  where
    met : Meets node plan
    met = record { i = c.i; j = c.j; e = c.earlier; f = c.later; order = c.order; first = c.earlier_there; second = c.later_there; trains = apart_trains a b c.earlier c.later lt c.names; not_apart = c.not_apart }

    by : (Starts a c.earlier × Starts b c.later) ⊎ (Starts b c.earlier × Starts a c.later) → Undecided node a b
    by (inl names) = subst (λ (o : Op). Undecided node o b) (same_op a c.earlier names.0) (subst (λ (o : Op). Undecided node (op_of c.earlier) o) (same_op b c.later names.1) (meets_undecided node plan earliest met, meets_undecided_back node plan earliest met))
    by (inr names) = subst (λ (o : Op). Undecided node o b) (same_op a c.later names.1) (subst (λ (o : Op). Undecided node (op_of c.later) o) (same_op b c.earlier names.0) (meets_undecided_back node plan earliest met, meets_undecided node plan earliest met))

pair_is_first : (node : Node) (plan : List Event) (pair : Pair) → IsEarliest node plan → IsFirstPair node.problem plan pair → IsFirstClash node plan pair.a pair.b
pair_is_first node plan pair earliest is =
    let free = clash_undecided node plan pair.a pair.b earliest is.clash.0 is.clash.1 in
    record {
      open_clash = record { trains = is.clash.0; clash = is.clash.1; undecided = free.0; undecided_back = free.1 };
      first = λ c d other. is.each c d other.trains other.clash;
    }

pub not_valid : (node : Node) (plan : List Event) (a b : Op) → a.train < b.train → Clash node.problem plan a b → IsValid node.problem node.fixings plan → ⊥
not_valid node plan a b lt c valid = c.not_apart (valid.apart c.i c.j c.earlier c.later c.order c.earlier_there c.later_there (apart_trains a b c.earlier c.later lt c.names))

fits : (node : Node) (changes : List Change) → IsEdition node.problem changes → node.fixings ≡ standing_of changes → AreFit node.problem node.fixings
fits node changes edition standing = subst (AreFit node.problem) (sym standing) (edition_fits node.problem changes edition)

pub order_is_picked : (node : Node) (changes : List Change) (plan : List Event) (pair : Option Pair) (choice : Option Choice) → IsEdition node.problem changes → node.fixings ≡ standing_of changes → (IsDead node → ⊥) → IsEarliest node plan
    → MatchOption pair (NoneClash node.problem plan) (IsFirstPair node.problem plan) → MatchOption pair (choice ≡ None) (λ p. choice ≡ Some (Order p.a p.b)) → IsFixedPick node choice
order_is_picked node changes plan None choice edition standing alive earliest none is =
    let picks : PicksNone node = record { plan = plan; earliest = earliest; valid = valid_where_apart node plan (fits node changes edition standing) (λ late. alive (inr (inr late))) earliest (apart_all node plan none) } in
    subst (IsFixedPick node) (sym is) picks
order_is_picked node changes plan (Some pair) choice edition standing alive earliest first is =
    let picks : PicksOrder node pair.a pair.b = record { plan = plan; earliest = earliest; not_valid = not_valid node plan pair.a pair.b first.clash.0 first.clash.1; first_clash = pair_is_first node plan pair earliest first } in
    subst (IsFixedPick node) (sym is) picks

-- ---- what the loop over the trains finds

pub only_none : (node : Node) (t : ℕ) (found : Option (List ℕ)) → IsOnlyRoute node t found → ((route : List ℕ) → found ≡ Some route → ⊥) → (route : List ℕ) → HasOneRoute node t route → ⊥
only_none node t None is not route one = is route one
only_none node t (Some found) is not route one = not found refl

pub only_some : (node : Node) (t : ℕ) (found : Option (List ℕ)) (route : List ℕ) → IsOnlyRoute node t found → found ≡ Some route → HasOneRoute node t route
only_some node t found route is same = subst (IsOnlyRoute node t) same is

pub where_some : {X : Type 0} (node : Node) (count : ℕ) (found : Option X) (singles : X) (items : X → List (List ℕ)) → MatchOption found (IsSomeNotAlone node count) (λ s. AreTheOnly node count (items s)) → found ≡ Some singles → AreTheOnly node count (items singles)
where_some node count found singles items is same = subst (λ f. MatchOption f (IsSomeNotAlone node count) (λ s. AreTheOnly node count (items s))) same is

pub where_none : {X : Type 0} (node : Node) (count : ℕ) (found : Option X) (items : X → List (List ℕ)) → MatchOption found (IsSomeNotAlone node count) (λ s. AreTheOnly node count (items s)) → ((singles : X) → found ≡ Some singles → ⊥) → IsSomeNotAlone node count
where_none node count None items is not = is
where_none node count (Some singles) items is not = absurd (not singles refl)
