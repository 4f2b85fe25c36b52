-- Where the earliest plan is not valid some pair clashes, and one comes first.
use Rattle.std.proofs.Common.{◌≡◌, ℕ, zero, suc, ◌+◌, ◌<◌, List, [], ◌∷◌, ◌++◌, length, map, Option, Some, None, refl, sym, ap, subst, ◌∙◌, arith, inl, inr}
use Rattle.std.specs.Prelude.{slice_get, Contains, All, ◌⊎◌, ◌≢◌}
use Rattle.std.specs.List.{Any}
use Rattle.std.proofs.lemmas.Bool.{cases_lt}
use Rattle.std.proofs.lemmas.Option.{none-some, same_Some, slice_get_within}
use Rattle.std.proofs.lemmas.List.Elements.{Contains-append_left, Contains-append_right}
use Rattle.disp_model.specs.declared.train.Op.{Op}
use Rattle.disp_model.specs.declared.train.Listing.{Listing}
use Rattle.disp_model.specs.declared.train.Operation.{Operation}
use Rattle.disp_model.specs.declared.plan.Event.{Event}
use Rattle.disp_model.specs.declared.decision.Decision.TheVariants.{First}
use Rattle.disp_model.specs.declared.problem.Problem.{Problem}
use Rattle.disp_model.specs.Plan.{Ending, end_of}
use Rattle.disp_model.specs.Valid.{operation_of, IsReleased, KeepApart}
use Rattle.disp_model.specs.Node.{Node}
use Rattle.disp_model.specs.Routes.{Starts}
use Rattle.disp_model.specs.Arcs.{Conflicts}
use Rattle.disp_model.specs.Earliest.{op_of, IsEarliest, Clash, IsOpenClash, IsBelow, IsPairUpTo, IsFirstClash}
use Rattle.disp_laws.proofs.Branching.{IsStartedAt, started_or_not, contains_map}
use Rattle.disp_laws.proofs.RouteSearch.{Decided, both, either, implied, denied, same_number, all_or_not}
use Rattle.disp_laws.proofs.LongestArcs.{some_or_not, decided_or_not}
use Rattle.disp_laws.proofs.LeavesDecided.{le_or_not, lt_or_not}
use Rattle.disp_laws.proofs.HorizonBounds.{get_within}
use Rattle.disp_laws.proofs.Picked.{at_contains, same_op, clash_shares}
use Rattle.disp_laws.proofs.EarliestPlans.{one_position}
use Rattle.disp_laws.proofs.EarliestValid.{AllApart, decided_apart, decided_back}

-- ---- whether two events keep apart is decided

any_or_not : (P : Listing → Type 0) → ((l : Listing) → Decided (P l)) → (ls : List Listing) → Decided (Any P ls)
any_or_not P each ls = elim (some_or_not P each ls) [
  | inl found ↦ inl (found.1.0, found.0, found.1.1, found.1.2, found.2)
  | inr none ↦ inr (λ any. none (any.1, (any.0, any.2, any.3), any.4))
]

released_or_not : (end : Ending) (l : Listing) (j : ℕ) (f : Event) → Decided (IsReleased end l j f)
released_or_not end l j f = elim (both (lt_or_not end.position j) (le_or_not (end.time + l.release) f.time)) [
  | inl is ↦ inl (record { position = is.0; time = is.1 })
  | inr not ↦ inr (λ is. not (is.position, is.time))
]

apart_or_not : (problem : Problem) (plan : List Event) (i j : ℕ) (e f : Event) → Decided (KeepApart problem plan i e j f)
apart_or_not problem plan i j e f = by_names (operation_of problem e) refl (operation_of problem f) refl
  where
    by_names : (found : Option Operation) → operation_of problem e ≡ found → (other : Option Operation) → operation_of problem f ≡ other → Decided (KeepApart problem plan i e j f)
    by_names None at other there = inl (λ o p own also. absurd (none-some o (sym at ∙ own)))
    by_names (Some o) at None there = inl (λ q p own also. absurd (none-some p (sym there ∙ also)))
    by_names (Some o) at (Some p) there =
        elim (all_or_not (λ l. Any (λ k. k.resource ≡ l.resource) p.listings → IsReleased (end_of problem.trains plan i e) l j f)
        (λ l. implied (any_or_not (λ k. k.resource ≡ l.resource) (λ k. same_number k.resource l.resource) p.listings) (released_or_not (end_of problem.trains plan i e) l j f)) o.listings) [
          | inl all ↦ inl (λ q r own also. subst (λ (x : Operation). All (λ l. Any (λ k. k.resource ≡ l.resource) r.listings → IsReleased (end_of problem.trains plan i e) l j f) x.listings) (same_Some o q (sym at ∙ own))
              (subst (λ (x : Operation). All (λ l. Any (λ k. k.resource ≡ l.resource) x.listings → IsReleased (end_of problem.trains plan i e) l j f) o.listings) (same_Some p r (sym there ∙ also)) all))
          | inr not ↦ inr (λ keep. not (keep o p at there))
        ]

-- ---- all keep apart, or some do not

-- two events of different trains that do not keep apart
pub record Meets (node : Node) (plan : List Event) : Type 0 where
  pub i : ℕ
  pub j : ℕ
  pub e : Event
  pub f : Event
  pub order : i < j
  pub first : slice_get plan i ≡ Some e
  pub second : slice_get plan j ≡ Some f
  pub trains : e.train ≢ f.train
  pub not_apart : KeepApart node.problem plan i e j f → ⊥

abbrev ApartAt : Node → List Event → ℕ → ℕ → Type 0
ApartAt node plan i j = (e f : Event) → i < j → slice_get plan i ≡ Some e → slice_get plan j ≡ Some f → e.train ≢ f.train → KeepApart node.problem plan i e j f

apart_at_or_meets : (node : Node) (plan : List Event) (i j : ℕ) → i < length plan → j < length plan → ApartAt node plan i j ⊎ Meets node plan
apart_at_or_meets node plan i j here there = by_parts (lt_or_not i j) (same_number e.0.train f.0.train) (apart_or_not node.problem plan i j e.0 f.0)
  where
    e : (x : Event) × (slice_get plan i ≡ Some x)
    e = get_within plan i here

    f : (x : Event) × (slice_get plan j ≡ Some x)
    f = get_within plan j there

    by_parts : Decided (i < j) → Decided (e.0.train ≡ f.0.train) → Decided (KeepApart node.problem plan i e.0 j f.0) → ApartAt node plan i j ⊎ Meets node plan
    by_parts (inr late) same apart = inl (λ a b order one other trains. absurd (late order))
    by_parts (inl order) (inl same) apart =
        inl (λ a b before one other trains. absurd (trains (ap (λ (x : Event). x.train) (sym (same_Some e.0 a (sym e.1 ∙ one))) ∙ same ∙ ap (λ (x : Event). x.train) (same_Some f.0 b (sym f.1 ∙ other)))))
    by_parts (inl order) (inr trains) (inl apart) =
        inl (λ a b before one other differ. subst (λ (x : Event). KeepApart node.problem plan i x j b) (same_Some e.0 a (sym e.1 ∙ one)) (subst (λ (y : Event). KeepApart node.problem plan i e.0 j y) (same_Some f.0 b (sym f.1 ∙ other)) apart))
    by_parts (inl order) (inr trains) (inr not) = inr (record { i = i; j = j; e = e.0; f = f.0; order = order; first = e.1; second = f.1; trains = trains; not_apart = not })

all_or_meets : (P : ℕ → Type 0) (M : Type 0) (n : ℕ) → ((k : ℕ) → k < n → P k ⊎ M) → ((k : ℕ) → k < n → P k) ⊎ M
all_or_meets P M zero each = inl (λ k lt. absurd (omega arith))
all_or_meets P M (suc n) each = elim (each n (omega arith)) [
  | inr met ↦ inr met
  | inl here ↦ elim (all_or_meets P M n (λ k lt. each k (omega arith))) [
    | inr met ↦ inr met
    | inl all ↦ inl (λ k lt. last_or_before here all k lt)
  ]
]
  where
    last_or_before : P n → ((k : ℕ) → k < n → P k) → (k : ℕ) → k < suc n → P k
    last_or_before here all k lt = elim (cases_lt k n) [ inl before ↦ all k before | inr le ↦ subst P (let same : n ≡ k = omega (arith, le, lt) in same) here ]

pub apart_or_meets : (node : Node) (plan : List Event) → AllApart node plan ⊎ Meets node plan
apart_or_meets node plan =
    elim (all_or_meets (λ i. (j : ℕ) → j < length plan → ApartAt node plan i j) (Meets node plan) (length plan)
    (λ i here. all_or_meets (λ j. ApartAt node plan i j) (Meets node plan) (length plan) (λ j there. apart_at_or_meets node plan i j here there))) [
      | inl all ↦ inl (λ i j e f order one other trains. all i (slice_get_within plan i e one) j (slice_get_within plan j f other) e f order one other trains)
      | inr met ↦ inr met
    ]

-- ---- an open clash

own : (e : Event) → Starts (op_of e) e
own e = record { train = refl; operation = refl }

turned : (problem : Problem) (a b : Op) → Conflicts problem a b → a.train ≢ b.train → b.train ≢ a.train
turned problem a b conflicts trains same = trains (sym same)

-- the clash of two events that do not keep apart, and the same the other way round
straight : (node : Node) (plan : List Event) (m : Meets node plan) → Clash node.problem plan (op_of m.e) (op_of m.f)
straight node plan m = record { i = m.i; j = m.j; earlier = m.e; later = m.f; order = m.order; earlier_there = m.first; later_there = m.second; names = inl (own m.e, own m.f); not_apart = m.not_apart }

crossed : (node : Node) (plan : List Event) (m : Meets node plan) → Clash node.problem plan (op_of m.f) (op_of m.e)
crossed node plan m = record { i = m.i; j = m.j; earlier = m.e; later = m.f; order = m.order; earlier_there = m.first; later_there = m.second; names = inr (own m.e, own m.f); not_apart = m.not_apart }

-- events that do not keep apart are in no decided order
pub meets_undecided : (node : Node) (plan : List Event) → IsEarliest node plan → (m : Meets node plan) → Contains node.decisions (First (op_of m.e) (op_of m.f)) → ⊥
meets_undecided node plan earliest m decided =
    m.not_apart (decided_apart node plan m.i m.j m.e m.f earliest m.order m.first m.second (clash_shares node.problem plan (op_of m.e) (op_of m.f) m.trains (straight node plan m)) decided)

pub meets_undecided_back : (node : Node) (plan : List Event) → IsEarliest node plan → (m : Meets node plan) → Contains node.decisions (First (op_of m.f) (op_of m.e)) → ⊥
meets_undecided_back node plan earliest m decided =
    decided_back node plan m.i m.j m.e m.f earliest m.order m.first m.second (clash_shares node.problem plan (op_of m.f) (op_of m.e) (λ same. m.trains (sym same)) (crossed node plan m)) decided

-- events that do not keep apart are an open clash
pub meets_clash : (node : Node) (plan : List Event) → IsEarliest node plan → Meets node plan → (a : Op) × (b : Op) × IsOpenClash node plan a b
meets_clash node plan earliest m = elim (cases_lt m.e.train m.f.train) [
  | inl lt ↦ (op_of m.e, op_of m.f, record { trains = lt; clash = straight node plan m; undecided = meets_undecided node plan earliest m; undecided_back = meets_undecided_back node plan earliest m })
  | inr le ↦ elim (cases_lt m.f.train m.e.train) [
    | inl lt ↦ (op_of m.f, op_of m.e, record { trains = lt; clash = crossed node plan m; undecided = meets_undecided_back node plan earliest m; undecided_back = meets_undecided node plan earliest m })
    | inr ge ↦ absurd (m.trains (omega (arith, le, ge)))
  ]
]

-- ---- whether a pair is an open clash is decided

clash_or_not : (node : Node) (plan : List Event) (a b : Op) → IsEarliest node plan → a.train < b.train → Decided (Clash node.problem plan a b)
clash_or_not node plan a b earliest trains = by_places (started_or_not a plan) (started_or_not b plan)
  where
    same_place : (o : Op) (i k : ℕ) (e g : Event) → IsStartedAt plan o i e → slice_get plan k ≡ Some g → Starts o g → k ≡ i
    same_place o i k e g started at starts = one_position node plan k i g e earliest at started.0 (same_op o g starts ∙ sym (same_op o e started.1))

    same_event : (o : Op) (i k : ℕ) (e g : Event) → IsStartedAt plan o i e → slice_get plan k ≡ Some g → Starts o g → g ≡ e
    same_event o i k e g started at starts = same_Some g e (sym at ∙ ap (slice_get plan) (same_place o i k e g started at starts) ∙ started.0)

    by_places : ((i : ℕ) × (e : Event) × IsStartedAt plan a i e) ⊎ ((i : ℕ) (e : Event) → IsStartedAt plan a i e → ⊥) → ((j : ℕ) × (f : Event) × IsStartedAt plan b j f) ⊎ ((j : ℕ) (f : Event) → IsStartedAt plan b j f → ⊥)
        → Decided (Clash node.problem plan a b)
    by_places (inr none) second = inr (λ c. elim c.names [ inl straight ↦ none c.i c.earlier (c.earlier_there, straight.0) | inr crossed ↦ none c.j c.later (c.later_there, crossed.1) ])
    by_places (inl first) (inr none) = inr (λ c. elim c.names [ inl straight ↦ none c.j c.later (c.later_there, straight.1) | inr crossed ↦ none c.i c.earlier (c.earlier_there, crossed.0) ])
    by_places (inl (i, e, here)) (inl (j, f, there)) = elim (cases_lt i j) [
      | inl lt ↦ elim (apart_or_not node.problem plan i j e f) [
        | inr not ↦ inl (record { i = i; j = j; earlier = e; later = f; order = lt; earlier_there = here.0; later_there = there.0; names = inl (here.1, there.1); not_apart = not })
        | inl apart ↦ inr (λ c. elim c.names [
          | inl straight ↦ c.not_apart (moved c.i c.j c.earlier c.later (same_place a i c.i e c.earlier here c.earlier_there straight.0) (same_place b j c.j f c.later there c.later_there straight.1)
              (same_event a i c.i e c.earlier here c.earlier_there straight.0) (same_event b j c.j f c.later there c.later_there straight.1) apart)
          | inr crossed ↦ omega (arith, lt, c.order, same_place a i c.j e c.later here c.later_there crossed.1, same_place b j c.i f c.earlier there c.earlier_there crossed.0)
        ])
      ]
      | inr le ↦ elim (cases_lt j i) [
        | inl lt ↦ elim (apart_or_not node.problem plan j i f e) [
          | inr not ↦ inl (record { i = j; j = i; earlier = f; later = e; order = lt; earlier_there = there.0; later_there = here.0; names = inr (there.1, here.1); not_apart = not })
          | inl apart ↦ inr (λ c. elim c.names [
            | inl straight ↦ omega (arith, lt, c.order, same_place a i c.i e c.earlier here c.earlier_there straight.0, same_place b j c.j f c.later there c.later_there straight.1)
            | inr crossed ↦ c.not_apart (moved c.i c.j c.earlier c.later (same_place b j c.i f c.earlier there c.earlier_there crossed.0) (same_place a i c.j e c.later here c.later_there crossed.1)
                (same_event b j c.i f c.earlier there c.earlier_there crossed.0) (same_event a i c.j e c.later here c.later_there crossed.1) apart)
          ])
        ]
        | inr ge ↦
            let event : e ≡ f = same_Some e f (sym here.0 ∙ ap (slice_get plan) (let same : i ≡ j = omega (arith, le, ge) in same) ∙ there.0) in
            absurd (omega (arith, trains, here.1.train, there.1.train, ap (λ (x : Event). x.train) event))
      ]
    ]
      where
        moved : {i j : ℕ} {e f : Event} (k l : ℕ) (g h : Event) → k ≡ i → l ≡ j → g ≡ e → h ≡ f → KeepApart node.problem plan i e j f → KeepApart node.problem plan k g l h
        moved {i} {j} {e} {f} k l g h one two three four apart =
            subst (λ (n : ℕ). KeepApart node.problem plan n g l h) (sym one) (subst (λ (n : ℕ). KeepApart node.problem plan i g n h) (sym two)
            (subst (λ (x : Event). KeepApart node.problem plan i x j h) (sym three) (subst (λ (x : Event). KeepApart node.problem plan i e j x) (sym four) apart)))

open_clash_or_not : (node : Node) (plan : List Event) (a b : Op) → IsEarliest node plan → Decided (IsOpenClash node plan a b)
open_clash_or_not node plan a b earliest = elim (lt_or_not a.train b.train) [
  | inr not ↦ inr (λ free. not free.trains)
  | inl lt ↦ elim (both (clash_or_not node plan a b earliest lt) (both (denied (decided_or_not node.decisions a b)) (denied (decided_or_not node.decisions b a)))) [
    | inl is ↦ inl (record { trains = lt; clash = is.0; undecided = is.1.0; undecided_back = is.1.1 })
    | inr not ↦ inr (λ free. not (free.clash, (free.undecided, free.undecided_back)))
  ]
]

-- ---- the first of them

below_or_same : (a b : Op) → IsBelow a b ⊎ ((a ≡ b) ⊎ IsBelow b a)
below_or_same a b = elim (cases_lt a.train b.train) [
  | inl lt ↦ inl (inl lt)
  | inr le ↦ elim (cases_lt b.train a.train) [
    | inl lt ↦ inr (inr (inl lt))
    | inr ge ↦ by_op (let same : a.train ≡ b.train = omega (arith, le, ge) in same)
  ]
]
  where
    by_op : a.train ≡ b.train → IsBelow a b ⊎ ((a ≡ b) ⊎ IsBelow b a)
    by_op same = elim (cases_lt a.op b.op) [
      | inl lt ↦ inl (inr (same, lt))
      | inr le ↦ elim (cases_lt b.op a.op) [
        | inl lt ↦ inr (inr (inr (sym same, lt)))
        | inr ge ↦ inr (inl (ap (λ (t : ℕ). record { train = t; op = a.op }) same ∙ ap (λ (n : ℕ). record { train = b.train; op = n }) (let equal : a.op ≡ b.op = omega (arith, le, ge) in equal)))
      ]
    ]

pub below_then : (a b c : Op) → IsBelow a b → IsBelow b c → IsBelow a c
below_then a b c (inl one) (inl two) = inl (omega (arith, one, two))
below_then a b c (inl one) (inr two) = inl (omega (arith, one, two.0))
below_then a b c (inr one) (inl two) = inl (omega (arith, one.0, two))
below_then a b c (inr one) (inr two) = inr (one.0 ∙ two.0, omega (arith, one.1, two.1))

pub below_or_not : (a b : Op) → Decided (IsBelow a b)
below_or_not a b = either (lt_or_not a.train b.train) (both (same_number a.train b.train) (lt_or_not a.op b.op))

pub up_to_or_back : (a b c d : Op) → IsPairUpTo a b c d ⊎ IsPairUpTo c d a b
up_to_or_back a b c d = elim (below_or_same a c) [
  | inl below ↦ inl (inl below)
  | inr rest ↦ elim rest [
    | inr above ↦ inr (inl above)
    | inl same ↦ elim (below_or_same b d) [
      | inl below ↦ inl (inr (same, inl below))
      | inr more ↦ elim more [
        | inl equal ↦ inl (inr (same, inr equal))
        | inr above ↦ inr (inr (sym same, inl above))
      ]
    ]
  ]
]

pub up_to_then : (a b c d x y : Op) → IsPairUpTo a b c d → IsPairUpTo c d x y → IsPairUpTo a b x y
up_to_then a b c d x y (inl one) (inl two) = inl (below_then a c x one two)
up_to_then a b c d x y (inl one) (inr two) = inl (subst (IsBelow a) two.0 one)
up_to_then a b c d x y (inr one) (inl two) = inl (subst (λ (o : Op). IsBelow o x) (sym one.0) two)
up_to_then a b c d x y (inr (same, inl one)) (inr (equal, inl two)) = inr (same ∙ equal, inl (below_then b d y one two))
up_to_then a b c d x y (inr (same, inl one)) (inr (equal, inr two)) = inr (same ∙ equal, inl (subst (IsBelow b) two one))
up_to_then a b c d x y (inr (same, inr one)) (inr (equal, inl two)) = inr (same ∙ equal, inl (subst (λ (o : Op). IsBelow o y) (sym one) two))
up_to_then a b c d x y (inr (same, inr one)) (inr (equal, inr two)) = inr (same ∙ equal, inr (one ∙ two))

-- the first of the pairs of a list of which P holds
record FirstOf (P : Op → Op → Type 0) (pairs : List (Op × Op)) : Type 0 where
  pub a : Op
  pub b : Op
  pub holds : P a b
  pub first : (c d : Op) → Contains {X = Op × Op} pairs (c, d) → P c d → IsPairUpTo a b c d

first_of : (P : Op → Op → Type 0) → ((a b : Op) → Decided (P a b)) → (pairs : List (Op × Op)) → FirstOf P pairs ⊎ ((c d : Op) → Contains {X = Op × Op} pairs (c, d) → P c d → ⊥)
first_of P each [] = inr (λ c d there holds. nowhere c d there)
  where
    nowhere : (c d : Op) → Contains {X = Op × Op} [] (c, d) → ⊥
    nowhere c d (k, lt, e) = omega arith
first_of P each (p ∷ pairs) = by_head (each p.0 p.1) (first_of P each pairs)
  where
    in_tail : (Q : Op → Op → Type 0) → (P p.0 p.1 → Q p.0 p.1) → ((c d : Op) → Contains {X = Op × Op} pairs (c, d) → P c d → Q c d) → (c d : Op) → Contains {X = Op × Op} (p ∷ pairs) (c, d) → P c d → Q c d
    in_tail Q here later c d (suc k, lt, e) holds = later c d (k, omega arith, e) holds
    in_tail Q here later c d (zero, lt, e) holds = subst (λ (q : Op × Op). P q.0 q.1 → Q q.0 q.1) e here holds

    by_head : Decided (P p.0 p.1) → (FirstOf P pairs ⊎ ((c d : Op) → Contains {X = Op × Op} pairs (c, d) → P c d → ⊥)) → FirstOf P (p ∷ pairs) ⊎ ((c d : Op) → Contains {X = Op × Op} (p ∷ pairs) (c, d) → P c d → ⊥)
    by_head (inr not) (inr none) = inr (λ c d there holds. in_tail (λ x y. ⊥) not none c d there holds)
    by_head (inr not) (inl best) = inl (record { a = best.a; b = best.b; holds = best.holds; first = λ c d there holds. in_tail (λ x y. IsPairUpTo best.a best.b x y) (λ h. absurd (not h)) best.first c d there holds })
    by_head (inl is) (inr none) = inl (record { a = p.0; b = p.1; holds = is; first = λ c d there holds. in_tail (λ x y. IsPairUpTo p.0 p.1 x y) (λ h. inr (refl, inr refl)) (λ x y also h. absurd (none x y also h)) c d there holds })
    by_head (inl is) (inl best) = elim (up_to_or_back p.0 p.1 best.a best.b) [
      | inl before ↦ inl (record { a = p.0; b = p.1; holds = is; first = λ c d there holds. in_tail (λ x y. IsPairUpTo p.0 p.1 x y) (λ h. inr (refl, inr refl)) (λ x y also h. up_to_then p.0 p.1 best.a best.b x y before (best.first x y also h)) c d there holds })
      | inr behind ↦ inl (record { a = best.a; b = best.b; holds = best.holds; first = λ c d there holds. in_tail (λ x y. IsPairUpTo best.a best.b x y) (λ h. behind) best.first c d there holds })
    ]

-- all pairs of the plan's operations
pairs_of : List Event → List Event → List (Op × Op)
pairs_of [] fs = []
pairs_of (e ∷ es) fs = map (λ f. (op_of e, op_of f)) fs ++ pairs_of es fs

in_pairs : (es fs : List Event) (e f : Event) → Contains es e → Contains fs f → Contains {X = Op × Op} (pairs_of es fs) (op_of e, op_of f)
unfolding pairs_of
in_pairs [] fs e f (k, lt, same) there = absurd (omega arith)
in_pairs (g ∷ es) fs e f (zero, lt, same) there =
    let own : Contains {X = Op × Op} (map (λ h. (op_of g, op_of h)) fs) (op_of g, op_of f) = contains_map {Y = Op × Op} (λ h. (op_of g, op_of h)) fs f there in
    Contains-append_left (map (λ h. (op_of g, op_of h)) fs) (pairs_of es fs) (op_of e, op_of f)
    (subst (λ (x : Event). Contains {X = Op × Op} (map (λ h. (op_of g, op_of h)) fs) (op_of x, op_of f)) same own)
in_pairs (g ∷ es) fs e f (suc k, lt, same) there =
    Contains-append_right (map (λ h. (op_of g, op_of h)) fs) (pairs_of es fs) (op_of e, op_of f) (in_pairs es fs e f (k, omega arith, same) there)

clash_among : (node : Node) (plan : List Event) (a b : Op) → IsOpenClash node plan a b → Contains {X = Op × Op} (pairs_of plan plan) (a, b)
clash_among node plan a b free =
    let c = free.clash in
    let early = at_contains plan c.i c.earlier c.earlier_there in
    let late = at_contains plan c.j c.later c.later_there in
    elim c.names [
      | inl straight ↦ named (same_op a c.earlier straight.0) (same_op b c.later straight.1) (in_pairs plan plan c.earlier c.later early late)
      | inr crossed ↦ named (same_op a c.later crossed.1) (same_op b c.earlier crossed.0) (in_pairs plan plan c.later c.earlier late early)
    ]
  where
    named : {x y : Op} → x ≡ a → y ≡ b → Contains {X = Op × Op} (pairs_of plan plan) (x, y) → Contains {X = Op × Op} (pairs_of plan plan) (a, b)
    named {x} {y} one other there = subst (λ (o : Op). Contains {X = Op × Op} (pairs_of plan plan) (o, b)) one (subst (λ (o : Op). Contains {X = Op × Op} (pairs_of plan plan) (x, o)) other there)

-- where events do not keep apart there is a first open clash
pub first_clash : (node : Node) (plan : List Event) → IsEarliest node plan → Meets node plan → (a : Op) × (b : Op) × IsFirstClash node plan a b
first_clash node plan earliest met = by_first (first_of (IsOpenClash node plan) (λ a b. open_clash_or_not node plan a b earliest) (pairs_of plan plan))
  where
    by_first : FirstOf (IsOpenClash node plan) (pairs_of plan plan) ⊎ ((c d : Op) → Contains {X = Op × Op} (pairs_of plan plan) (c, d) → IsOpenClash node plan c d → ⊥) → (a : Op) × (b : Op) × IsFirstClash node plan a b
    by_first (inl best) = (best.a, best.b, record { open_clash = best.holds; first = λ c d free. best.first c d (clash_among node plan c d free) free })
    by_first (inr none) = let some = meets_clash node plan earliest met in absurd (none some.0 some.1 (clash_among node plan some.0 some.1 some.2) some.2)
