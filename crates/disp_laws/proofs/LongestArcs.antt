-- Whether there is an arc of a length is decided, so between two nodes with an arc there is a longest one.
use Rattle.std.proofs.Common.{◌≡◌, ℕ, zero, suc, ◌+◌, ◌<◌, ◌≤◌, List, [], ◌∷◌, ◌++◌, length, Some, refl, sym, ap, subst, ◌∙◌, arith, inl, inr}
use Rattle.std.specs.Prelude.{Contains, sum_by}
use Rattle.std.proofs.lemmas.Bool.{cases_lt}
use Rattle.disp_model.specs.declared.train.Op.{Op}
use Rattle.disp_model.specs.declared.train.Listing.{Listing}
use Rattle.disp_model.specs.declared.train.Operation.{Operation}
use Rattle.disp_model.specs.declared.decision.Decision.{Decision}
use Rattle.disp_model.specs.declared.decision.Decision.TheVariants.{Go, First, Run, Skip}
use Rattle.disp_model.specs.declared.problem.Problem.{Problem}
use Rattle.disp_model.specs.Train.{duration_of}
use Rattle.disp_model.specs.Valid.{train_at}
use Rattle.disp_model.specs.Fixing.{after}
use Rattle.disp_model.specs.Node.{Node}
use Rattle.disp_model.specs.Routes.{IsAllowed, IsForced}
use Rattle.disp_model.specs.Arcs.{listings_of, shared_listings, Conflicts, release_of, min_of, Passes, IsTrainArc, IsOrderArc, GoesTo, IsReleaseArc, IsArc, IsLongestArc}
use Rattle.disp_laws.proofs.Paths.{IsIn, is_in, in_or_not, in_middle}
use Rattle.disp_laws.proofs.Arcs.{passes_leads}
use Rattle.disp_laws.proofs.RouteSearch.{Decided, same_number, same_option, both, denied, each_allowed_or_not, is_forced_or_not}
use Rattle.disp_laws.proofs.LeastSums.{train_arc_exists, passes_both, parted}

-- ---- a greatest number

less : (P : ℕ → Type 0) (most k : ℕ) → (P (suc most) → ⊥) → k ≤ suc most → P k → k ≤ most
less P most k n le h = elim (cases_lt most k) [ inl lt ↦ (let same : k ≡ suc most = omega (arith, lt, le) in absurd (n (subst P same h))) | inr ok ↦ ok ]

pub greatest_of : (P : ℕ → Type 0) → ((n : ℕ) → Decided (P n)) → (most : ℕ) → ((n : ℕ) → P n → n ≤ most) → (m : ℕ) → P m → (g : ℕ) × P g × ((n : ℕ) → P n → n ≤ g)
greatest_of P each zero within m holds = (m, holds, λ n h. omega (arith, within n h))
greatest_of P each (suc most) within m holds = elim (each (suc most)) [
  | inl top ↦ (suc most, top, within)
  | inr n ↦ greatest_of P each most (λ k h. less P most k n (within k h) h) m holds
]

-- ---- some element

pub some_or_not : {X : Type 0} (P : X → Type 0) → ((x : X) → Decided (P x)) → (xs : List X) → Decided ((x : X) × Contains xs x × P x)
some_or_not P each [] = inr (λ h. nowhere P h)
  where
    nowhere : {X : Type 0} (P : X → Type 0) → ((x : X) × Contains [] x × P x) → ⊥
    nowhere P (x, (k, lt, e), p) = omega arith
some_or_not P each (y ∷ xs) = elim (each y) [
  | inl here ↦ inl (y, (0, omega arith, refl), here)
  | inr n ↦ elim (some_or_not P each xs) [
    | inl later ↦ inl (later.0, (suc later.1.0, omega (arith, later.1.1), later.1.2), later.2)
    | inr none ↦ inr (λ h. neither P y xs n none h)
  ]
]
  where
    neither : {X : Type 0} (P : X → Type 0) (y : X) (xs : List X) → (P y → ⊥) → (((x : X) × Contains xs x × P x) → ⊥) → ((x : X) × Contains (y ∷ xs) x × P x) → ⊥
    neither P y xs n none (x, (zero, lt, e), p) = n (subst P (sym e) p)
    neither P y xs n none (x, (suc k, lt, e), p) = none (x, (k, omega arith, e), p)

-- ---- arcs in a train

pub same_ops : (a b : Op) → a.train ≡ b.train → a.op ≡ b.op → a ≡ b
same_ops a b t o =
    let first : ℕ → Op = λ n. record { train = n; op = a.op } in
    let second : ℕ → Op = λ n. record { train = b.train; op = n } in
    ap first t ∙ ap second o

pub same_op_or_not : (a b : Op) → Decided (a ≡ b)
same_op_or_not a b = elim (same_number a.train b.train) [
  | inr n ↦ inr (λ e. n (ap (λ (o : Op). o.train) e))
  | inl t ↦ elim (same_number a.op b.op) [
    | inr n ↦ inr (λ e. n (ap (λ (o : Op). o.op) e))
    | inl o ↦ inl (same_ops a b t o)
  ]
]

passes_or_not : (train : List Operation) (route : List ℕ) (u v : ℕ) → Decided ((total : ℕ) × Passes train route u v total)
passes_or_not train [] u v = inr (λ h. nothing h.0 h.1)
  where
    nothing : (total : ℕ) → Passes train [] u v total → ⊥
    nothing total passes = empty passes.before (passes.between ++ v ∷ passes.behind) passes.route_is
      where
        empty : (before rest : List ℕ) → [] ≡ before ++ u ∷ rest → ⊥
        empty [] rest e = absurd cc
        empty (x ∷ before) rest e = absurd cc
passes_or_not train (x ∷ route) u v = elim (both (same_number x u) (in_or_not v route)) [
  | inl here ↦
      let part = parted v route here.1 in
      inl (sum_by (duration_of train) (u ∷ part.before), record { before = []; between = part.before; behind = part.rest; route_is = cc (here.0, part.is); total_is = refl })
  | inr n ↦ elim (passes_or_not train route u v) [
    | inl later ↦ inl (later.0, record { before = x ∷ later.1.before; between = later.1.between; behind = later.1.behind; route_is = ap (λ (l : List ℕ). x ∷ l) later.1.route_is; total_is = later.1.total_is })
    | inr none ↦ inr (λ h. neither n none h.0 h.1)
  ]
]
  where
    split : (before between behind : List ℕ) (total : ℕ) → (((x ≡ u) × IsIn v route) → ⊥) → (((total : ℕ) × Passes train route u v total) → ⊥) → x ∷ route ≡ before ++ u ∷ (between ++ v ∷ behind) → total ≡ sum_by (duration_of train) (u ∷ between) → ⊥
    split [] between behind total n none is sum = n (cc is, subst (IsIn v) (sym (cc is)) (in_middle v between behind))
    split (y ∷ before) between behind total n none is sum = none (total, record { before = before; between = between; behind = behind; route_is = cc is; total_is = sum })

    neither : (((x ≡ u) × IsIn v route) → ⊥) → (((total : ℕ) × Passes train route u v total) → ⊥) → (total : ℕ) → Passes train (x ∷ route) u v total → ⊥
    neither n none total passes = split passes.before passes.between passes.behind total n none passes.route_is passes.total_is

-- whether there is an arc in the train between forced operations, and of which length
train_arc_or_not : (node : Node) (u v : Op) → IsForced node u → IsForced node v → Decided ((n : ℕ) × IsTrainArc node u v n)
train_arc_or_not node u v one other = elim (same_number u.train v.train) [
  | inr n ↦ inr (λ arc. n arc.1.same_train)
  | inl same ↦
      let train = train_at node.problem u.train in
      let route = one.allowed in
      elim (passes_or_not train route.0 u.op v.op) [
        | inl passes ↦
            let way = passes_leads train route.0 u.op v.op passes.0 route.1.is_route passes.1 in
            inl (train_arc_exists node u v way.0 same way.1 one other)
        | inr n ↦ inr (λ arc. n (through same arc))
      ]
]
  where
    through : u.train ≡ v.train → ((n : ℕ) × IsTrainArc node u v n) → (total : ℕ) × Passes (train_at node.problem u.train) one.allowed.0 u.op v.op total
    through same arc =
        let train = train_at node.problem u.train in
        let reached = arc.1.reached in
        let way = passes_leads train reached.0 u.op v.op arc.0 reached.1.is_route reached.2 in
        let route = one.allowed in
        passes_both train route.0 u.op v.op way.0 (node.problem.well_formed.acyclic u.train [] one.train) route.1.is_route way.1 (is_in u.op route.0 (one.each_has route.0 route.1))
        (is_in v.op route.0 (other.each_has route.0 (subst (λ (t : ℕ). IsAllowed node t route.0) same route.1)))

pub one_train_arc : (node : Node) (u v : Op) (m n : ℕ) → IsTrainArc node u v m → IsTrainArc node u v n → m ≡ n
one_train_arc node u v m n one other = omega (arith, one.least other.reached.0 n other.reached.1 other.reached.2, other.least one.reached.0 m one.reached.1 one.reached.2)

train_arc_of_or_not : (node : Node) (u v : Op) (n : ℕ) → IsForced node u → IsForced node v → Decided (IsTrainArc node u v n)
train_arc_of_or_not node u v n one other = elim (train_arc_or_not node u v one other) [
  | inr none ↦ inr (λ arc. none (n, arc))
  | inl found ↦ elim (same_number found.0 n) [
    | inl same ↦ inl (subst (IsTrainArc node u v) same found.1)
    | inr apart ↦ inr (λ arc. apart (one_train_arc node u v found.0 n found.1 arc))
  ]
]

-- ---- arcs of decided orders

no_listings_or_not : (ls : List Listing) → Decided (ls ≡ [])
no_listings_or_not [] = inl refl
no_listings_or_not (l ∷ ls) = inr (λ e. absurd cc)

pub conflicts_or_not : (problem : Problem) (a b : Op) → Decided (Conflicts problem a b)
conflicts_or_not problem a b = elim (both (denied (same_number a.train b.train)) (denied (no_listings_or_not (shared_listings (listings_of problem a) (listings_of problem b))))) [
  | inl is ↦ inl (record { trains = is.0; shared = is.1 })
  | inr n ↦ inr (λ conflicts. n (conflicts.trains, conflicts.shared))
]

-- the decision has its second operation there
abbrev IsOrder : Op → Op → Decision → Type 0
IsOrder a b (Go o next) = ⊥
IsOrder a b (Run o) = ⊥
IsOrder a b (Skip o) = ⊥
IsOrder a b (First c d) = (c ≡ a) × (d ≡ b)

is_order_or_not : (a b : Op) (decision : Decision) → Decided (IsOrder a b decision)
is_order_or_not a b (Go o next) = inr (λ h. h)
is_order_or_not a b (Run o) = inr (λ h. h)
is_order_or_not a b (Skip o) = inr (λ h. h)
is_order_or_not a b (First c d) = both (same_op_or_not c a) (same_op_or_not d b)

order_is : (a b : Op) (decision : Decision) → IsOrder a b decision → decision ≡ First a b
order_is a b (Go o next) is = absurd is
order_is a b (Run o) is = absurd is
order_is a b (Skip o) is = absurd is
order_is a b (First c d) is = ap (λ (x : Op). First x d) is.0 ∙ ap (λ (x : Op). First a x) is.1

pub decided_or_not : (decisions : List Decision) (a b : Op) → Decided (Contains decisions (First a b))
decided_or_not decisions a b = elim (some_or_not (IsOrder a b) (is_order_or_not a b) decisions) [
  | inl found ↦ inl (subst (Contains decisions) (order_is a b found.0 found.2) found.1)
  | inr none ↦ inr (λ there. none (First a b, there, (refl, refl)))
]

order_arc_or_not : (problem : Problem) (decisions : List Decision) (u v : Op) (n : ℕ) → Decided (IsOrderArc problem decisions u v n)
order_arc_or_not problem decisions u v n = elim (both (decided_or_not decisions u v) (both (conflicts_or_not problem u v) (same_number n (min_of problem u + release_of problem u v)))) [
  | inl is ↦ inl (record { decided = is.0; conflicts = is.1.0; length_is = is.1.1 })
  | inr not ↦ inr (λ arc. not (arc.decided, (arc.conflicts, arc.length_is)))
]

goes_to_or_not : (node : Node) (a n : Op) → a.train < length node.problem.trains → Decided (GoesTo node a n)
goes_to_or_not node a n there =
    both (same_number n.train a.train) (each_allowed_or_not node a.train (λ route. after a.op route ≡ Some n.op) there (λ route. same_option (after a.op route) (Some n.op)))

-- the decision gives an arc of this length from what follows its first operation
abbrev Gives : Node → Op → Op → ℕ → Decision → Type 0
Gives node n b arc_length (Go o next) = ⊥
Gives node n b arc_length (Run o) = ⊥
Gives node n b arc_length (Skip o) = ⊥
Gives node n b arc_length (First h c) =
    (c ≡ b) × (IsForced node h × (Conflicts node.problem h b × (GoesTo node h n × (arc_length ≡ release_of node.problem h b))))

gives_or_not : (node : Node) (n b : Op) (arc_length : ℕ) (decision : Decision) → Decided (Gives node n b arc_length decision)
gives_or_not node n b arc_length (Go o next) = inr (λ h. h)
gives_or_not node n b arc_length (Run o) = inr (λ h. h)
gives_or_not node n b arc_length (Skip o) = inr (λ h. h)
gives_or_not node n b arc_length (First h c) = elim (is_forced_or_not node h) [
  | inr not ↦ inr (λ is. not is.1.0)
  | inl forced ↦ both (same_op_or_not c b) (both (inl forced) (both (conflicts_or_not node.problem h b) (both (goes_to_or_not node h n forced.train) (same_number arc_length (release_of node.problem h b)))))
]

gives_arc : (node : Node) (n b : Op) (arc_length : ℕ) (decision : Decision) → Contains node.decisions decision → Gives node n b arc_length decision → IsReleaseArc node n b arc_length
gives_arc node n b arc_length (Go o next) there gives = absurd gives
gives_arc node n b arc_length (Run o) there gives = absurd gives
gives_arc node n b arc_length (Skip o) there gives = absurd gives
gives_arc node n b arc_length (First h c) there gives = record {
  holder = h;
  decided = subst (λ (x : Op). Contains node.decisions (First h x)) gives.0 there;
  forced = gives.1.0;
  conflicts = gives.1.1.0;
  goes_to = gives.1.1.1.0;
  length_is = gives.1.1.1.1;
}

release_arc_or_not : (node : Node) (n b : Op) (arc_length : ℕ) → Decided (IsReleaseArc node n b arc_length)
release_arc_or_not node n b arc_length = elim (some_or_not (Gives node n b arc_length) (gives_or_not node n b arc_length) node.decisions) [
  | inl found ↦ inl (gives_arc node n b arc_length found.0 found.1 found.2)
  | inr none ↦ inr (λ arc. none (First arc.holder b, arc.decided, (refl, (arc.forced, (arc.conflicts, (arc.goes_to, arc.length_is))))))
]

-- ---- the longest arc

pub arc_or_not : (node : Node) (u v : Op) (n : ℕ) → Decided (IsArc node u v n)
arc_or_not node u v n = elim (both (is_forced_or_not node u) (is_forced_or_not node v)) [
  | inr not ↦ inr (λ arc. not (arc.from_forced, arc.to_forced))
  | inl forced ↦ elim (train_arc_of_or_not node u v n forced.0 forced.1) [
    | inl train ↦ inl (record { from_forced = forced.0; to_forced = forced.1; kind = inl train })
    | inr no_train ↦ elim (order_arc_or_not node.problem node.decisions u v n) [
      | inl order ↦ inl (record { from_forced = forced.0; to_forced = forced.1; kind = inr (inl order) })
      | inr no_order ↦ elim (release_arc_or_not node u v n) [
        | inl release ↦ inl (record { from_forced = forced.0; to_forced = forced.1; kind = inr (inr release) })
        | inr no_release ↦ inr (λ arc. elim arc.kind [ inl k ↦ no_train k | inr r ↦ elim r [ inl k ↦ no_order k | inr k ↦ no_release k ] ])
      ]
    ]
  ]
]

-- what the decisions release at most
released_by : Problem → Op → Decision → ℕ
released_by problem b (Go o next) = 0
released_by problem b (Run o) = 0
released_by problem b (Skip o) = 0
released_by problem b (First h c) = release_of problem h b

all_released : Problem → Op → List Decision → ℕ
all_released problem b [] = 0
all_released problem b (decision ∷ decisions) = released_by problem b decision + all_released problem b decisions

released_within : (problem : Problem) (h b : Op) (decisions : List Decision) → Contains decisions (First h b) → release_of problem h b ≤ all_released problem b decisions
unfolding all_released released_by
released_within problem h b [] (k, lt, e) = absurd (omega arith)
released_within problem h b (decision ∷ decisions) (zero, lt, e) =
    let here : released_by problem b decision ≡ release_of problem h b = ap (released_by problem b) e in omega (arith, here)
released_within problem h b (decision ∷ decisions) (suc k, lt, e) = omega (arith, released_within problem h b decisions (k, omega arith, e))

arcs_within : (node : Node) (u v : Op) → IsForced node u → IsForced node v → (bound : ℕ) × ((n : ℕ) → IsArc node u v n → n ≤ bound)
arcs_within node u v one other = elim (train_arc_or_not node u v one other) [
  | inl found ↦ (
    found.0 + (min_of node.problem u + release_of node.problem u v) + all_released node.problem v node.decisions,
    λ n arc. elim arc.kind [
      | inl train ↦ omega (arith, one_train_arc node u v found.0 n found.1 train)
      | inr r ↦ elim r [ inl order ↦ omega (arith, order.length_is) | inr release ↦ omega (arith, release.length_is, released_within node.problem release.holder v node.decisions release.decided) ]
    ],
  )
  | inr none ↦ (
    (min_of node.problem u + release_of node.problem u v) + all_released node.problem v node.decisions,
    λ n arc. elim arc.kind [
      | inl train ↦ absurd (none (n, train))
      | inr r ↦ elim r [ inl order ↦ omega (arith, order.length_is) | inr release ↦ omega (arith, release.length_is, released_within node.problem release.holder v node.decisions release.decided) ]
    ],
  )
]

pub longest_arc : (node : Node) (u v : Op) (m : ℕ) → IsArc node u v m → (g : ℕ) × IsLongestArc node u v g
longest_arc node u v m arc =
    let within = arcs_within node u v arc.from_forced arc.to_forced in
    let found = greatest_of (IsArc node u v) (arc_or_not node u v) within.0 within.1 m arc in
    (found.0, record { there = found.1; longest = found.2 })

-- a number up to a bound that P holds of, or none
some_number_or_not : (P : ℕ → Type 0) → ((n : ℕ) → Decided (P n)) → (most : ℕ) → ((n : ℕ) → P n → n ≤ most) → Decided ((n : ℕ) × P n)
some_number_or_not P each zero within = elim (each 0) [ inl here ↦ inl (0, here) | inr n ↦ inr (λ h. n (subst P (let same : h.0 ≡ 0 = omega (arith, within h.0 h.1) in same) h.1)) ]
some_number_or_not P each (suc most) within = elim (each (suc most)) [
  | inl here ↦ inl (suc most, here)
  | inr n ↦ some_number_or_not P each most (λ k h. less P most k n (within k h) h)
]

pub has_arc_or_not : (node : Node) (u v : Op) → Decided ((n : ℕ) × IsArc node u v n)
has_arc_or_not node u v = elim (both (is_forced_or_not node u) (is_forced_or_not node v)) [
  | inr not ↦ inr (λ arc. not (arc.1.from_forced, arc.1.to_forced))
  | inl forced ↦
      let within = arcs_within node u v forced.0 forced.1 in
      some_number_or_not (IsArc node u v) (arc_or_not node u v) within.0 within.1
]
