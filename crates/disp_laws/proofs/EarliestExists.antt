-- Where each train has one route and arcs have no cycle there is a plan of earliest starts.
use Rattle.std.proofs.Common.{◌≡◌, ℕ, zero, suc, ◌+◌, ◌<◌, List, [], ◌∷◌, ◌++◌, length, take, drop, Some, refl, sym, ap, subst, ◌∙◌, arith, inl, inr, append_assoc}
use Rattle.std.specs.Prelude.{slice_get, Contains, ◌⊎◌, ◌≢◌}
use Rattle.std.proofs.lemmas.Bool.{cases_lt}
use Rattle.std.proofs.lemmas.Option.{none-some, same_Some}
use Rattle.std.proofs.lemmas.List.{length-append}
use Rattle.disp_model.specs.declared.train.Op.{Op}
use Rattle.disp_model.specs.declared.plan.Event.{Event}
use Rattle.disp_model.specs.declared.problem.Problem.{Problem}
use Rattle.disp_model.specs.Valid.{train_at}
use Rattle.disp_model.specs.Node.{Node}
use Rattle.disp_model.specs.Routes.{Starts, IsForced}
use Rattle.disp_model.specs.Arcs.{HasArc}
use Rattle.disp_model.specs.Walks.{WalksOn, IsLongest, HasCycle}
use Rattle.disp_model.specs.Earliest.{op_of, ComesBefore, IsReady, IsNext, HaveOneRoute, IsEarliest}
use Rattle.disp_laws.proofs.Branching.{starts_or_not}
use Rattle.disp_laws.proofs.RouteSearch.{Decided, both, denied, is_forced_or_not}
use Rattle.disp_laws.proofs.LongestArcs.{same_ops, some_or_not, longest_arc, has_arc_or_not}
use Rattle.disp_laws.proofs.LongestWalks.{Among, Once, EachAmong, once_fits, forced_among, walk_among, ops_up_to, all_ops_up_to, all_ops, longest_walk}
use Rattle.disp_laws.proofs.Charges.{back_is_cycle}
use Rattle.disp_laws.proofs.Horizon.{among_cases, once_append}

-- ---- events in a list

abbrev In : Event → List Event → Type 0
In e [] = ⊥
In e (f ∷ events) = (f ≡ e) ⊎ In e events

in_contains : (e : Event) (events : List Event) → In e events → Contains events e
in_contains e [] there = absurd there
in_contains e (f ∷ events) (inl same) = (0, omega arith, same)
in_contains e (f ∷ events) (inr there) = let later = in_contains e events there in (suc later.0, omega (arith, later.1), later.2)

contains_in : (e : Event) (events : List Event) → Contains events e → In e events
contains_in e [] (k, lt, same) = omega arith
contains_in e (f ∷ events) (zero, lt, same) = inl same
contains_in e (f ∷ events) (suc k, lt, same) = inr (contains_in e events (k, omega arith, same))

in_left : (e : Event) (xs ys : List Event) → In e xs → In e (xs ++ ys)
in_left e [] ys there = absurd there
in_left e (x ∷ xs) ys (inl same) = inl same
in_left e (x ∷ xs) ys (inr there) = inr (in_left e xs ys there)

in_right : (e : Event) (xs ys : List Event) → In e ys → In e (xs ++ ys)
in_right e [] ys there = there
in_right e (x ∷ xs) ys there = inr (in_right e xs ys there)

in_either : (e : Event) (xs ys : List Event) → In e (xs ++ ys) → In e xs ⊎ In e ys
in_either e [] ys there = inr there
in_either e (x ∷ xs) ys (inl same) = inl (inl same)
in_either e (x ∷ xs) ys (inr there) = elim (in_either e xs ys there) [ inl h ↦ inl (inr h) | inr h ↦ inr h ]

record Out (e : Event) (events : List Event) : Type 0 where
  pub front : List Event
  pub back : List Event
  pub is : events ≡ front ++ e ∷ back

out : (e : Event) (events : List Event) → In e events → Out e events
out e [] there = absurd there
out e (f ∷ events) (inl same) = record { front = []; back = events; is = ap (λ (g : Event). g ∷ events) same }
out e (f ∷ events) (inr there) = let later = out e events there in record { front = f ∷ later.front; back = later.back; is = ap (λ (l : List Event). f ∷ l) later.is }

-- ---- the order of events

compare : (m n : ℕ) → (m < n) ⊎ ((m ≡ n) ⊎ (n < m))
compare m n = elim (cases_lt m n) [ inl lt ↦ inl lt | inr le ↦ elim (cases_lt n m) [ inl gt ↦ inr (inr gt) | inr ge ↦ inr (inl (omega (arith, le, ge))) ] ]

pub same_events : (e f : Event) → e.time ≡ f.time → e.train ≡ f.train → e.operation ≡ f.operation → e ≡ f
same_events e f time train operation =
    let first : ℕ → Event = λ n. record { time = n; train = e.train; operation = e.operation } in
    let second : ℕ → Event = λ n. record { time = f.time; train = n; operation = e.operation } in
    let third : ℕ → Event = λ n. record { time = f.time; train = f.train; operation = n } in
    ap first time ∙ ap second train ∙ ap third operation

pub in_some_order : (e f : Event) → (e ≡ f) ⊎ (ComesBefore e f ⊎ ComesBefore f e)
in_some_order e f = elim (compare e.time f.time) [
  | inl lt ↦ inr (inl (inl lt))
  | inr rest ↦ elim rest [
    | inr gt ↦ inr (inr (inl gt))
    | inl time ↦ elim (compare e.train f.train) [
      | inl lt ↦ inr (inl (inr (time, inl lt)))
      | inr others ↦ elim others [
        | inr gt ↦ inr (inr (inr (sym time, inl gt)))
        | inl train ↦ elim (compare e.operation f.operation) [
          | inl lt ↦ inr (inl (inr (time, inr (train, lt))))
          | inr last ↦ elim last [ inl operation ↦ inl (same_events e f time train operation) | inr gt ↦ inr (inr (inr (sym time, inr (sym train, gt)))) ]
        ]
      ]
    ]
  ]
]

pub comes_then : (e f g : Event) → ComesBefore e f → ComesBefore f g → ComesBefore e g
comes_then e f g (inl one) (inl other) = inl (omega (arith, one, other))
comes_then e f g (inl one) (inr other) = inl (omega (arith, one, other.0))
comes_then e f g (inr one) (inl other) = inl (omega (arith, one.0, other))
comes_then e f g (inr one) (inr other) = inr (one.0 ∙ other.0, then one.1 other.1)
  where
    then : ((e.train < f.train) ⊎ ((e.train ≡ f.train) × (e.operation < f.operation))) → ((f.train < g.train) ⊎ ((f.train ≡ g.train) × (f.operation < g.operation))) → (e.train < g.train) ⊎ ((e.train ≡ g.train) × (e.operation < g.operation))
    then (inl a) (inl b) = inl (omega (arith, a, b))
    then (inl a) (inr b) = inl (omega (arith, a, b.0))
    then (inr a) (inl b) = inl (omega (arith, a.0, b))
    then (inr a) (inr b) = inr (a.0 ∙ b.0, omega (arith, a.1, b.1))

-- ---- what is ready, and what waits

starts_in_or_not : (stood : List Event) (o : Op) → Decided ((f : Event) × In f stood × Starts o f)
starts_in_or_not [] o = inr (λ h. h.1)
starts_in_or_not (e ∷ stood) o = elim (starts_or_not o e) [
  | inl here ↦ inl (e, inl refl, here)
  | inr n ↦ elim (starts_in_or_not stood o) [ inl later ↦ inl (later.0, inr later.1, later.2) | inr none ↦ inr (λ h. neither e stood o n none h) ]
]
  where
    neither : (e : Event) (stood : List Event) (o : Op) → (Starts o e → ⊥) → (((f : Event) × In f stood × Starts o f) → ⊥) → ((f : Event) × In f (e ∷ stood) × Starts o f) → ⊥
    neither e stood o n none (f, inl same, starts) = n (subst (Starts o) (sym same) starts)
    neither e stood o n none (f, inr there, starts) = none (f, there, starts)

among_contains : (o : Op) (ops : List Op) → Among o ops → Contains ops o
among_contains o [] there = absurd there
among_contains o (p ∷ ops) (inl same) = (0, omega arith, same)
among_contains o (p ∷ ops) (inr there) = let later = among_contains o ops there in (suc later.0, omega (arith, later.1), later.2)

-- an arc leads to it from an operation that does not stand yet
abbrev Waits : Node → List Event → Event → Type 0
Waits node stood e = (o : Op) × HasArc node o (op_of e) × (((f : Event) × In f stood × Starts o f) → ⊥)

ready_or_waits : (node : Node) (stood : List Event) (e : Event) → IsReady node stood e ⊎ Waits node stood e
ready_or_waits node stood e =
    elim (some_or_not (λ o. HasArc node o (op_of e) × (((f : Event) × In f stood × Starts o f) → ⊥)) (λ o. both (has_arc_or_not node o (op_of e)) (denied (starts_in_or_not stood o))) (all_ops node.problem)) [
      | inl found ↦ inr (found.0, found.2.0, found.2.1)
      | inr none ↦ inl (λ o arc. elim (starts_in_or_not stood o) [
        | inl there ↦ (there.0, in_contains there.0 stood there.1, there.2)
        | inr n ↦ absurd (none (o, among_contains o (all_ops node.problem) (forced_among node o arc.1.from_forced), (arc, n)))
      ])
    ]

-- ---- not all of them wait

rebased : (node : Node) (u : Op) (walked later : ℕ) (rest : List Op) (total : ℕ) → WalksOn node u walked rest total → (new : ℕ) × WalksOn node u later rest new
rebased node u walked later [] total walk = (later, refl)
rebased node u walked later (v ∷ rest) total walk = let on = rebased node v (walked + walk.0) (later + walk.0) rest total walk.2 in (on.0, (walk.0, walk.1, on.1))

pub walk_once : (node : Node) → (HasCycle node → ⊥) → (u : Op) (walked : ℕ) (rest : List Op) (total : ℕ) → WalksOn node u walked rest total → Once (u ∷ rest)
walk_once node no_cycle u walked [] total walk = ((λ there. there), tt)
walk_once node no_cycle u walked (v ∷ rest) total walk = (
  (λ there. no_cycle (back_is_cycle node v (walked + walk.0) rest total walk.2 u there (walk.0, walk.1.there))),
  walk_once node no_cycle v (walked + walk.0) rest total walk.2,
)

-- each forced operation stands or is left
abbrev Covered : Node → List Event → List Event → Type 0
Covered node stood rest = (o : Op) → IsForced node o → (f : Event) × (In f stood ⊎ In f rest) × Starts o f

-- a walk of a length that begins at what is left
record Chain (node : Node) (rest : List Event) (n : ℕ) : Type 0 where
  pub event : Event
  pub left : In event rest
  pub tail : List Op
  pub long : length tail ≡ n
  pub total : ℕ
  pub walk : WalksOn node (op_of event) 0 tail total

chain : (node : Node) (stood rest : List Event) → Covered node stood rest → ((e : Event) → In e rest → Waits node stood e) → (e : Event) → In e rest → (n : ℕ) → Chain node rest n
chain node stood rest covered waits e left zero = record { event = e; left = left; tail = []; long = refl; total = 0; walk = refl }
chain node stood rest covered waits e left (suc n) = longer (chain node stood rest covered waits e left n)
  where
    longer : Chain node rest n → Chain node rest (suc n)
    longer c = longer_by c (waits c.event c.left)
      where
        placed : (c : Chain node rest n) (o : Op) (f : Event) → In f rest → Starts o f → HasArc node o (op_of c.event) → Chain node rest (suc n)
        placed c o f there starts arc =
            let own : op_of f ≡ o = same_ops (op_of f) o starts.train starts.operation in
            let longest = longest_arc node o (op_of c.event) arc.0 arc.1 in
            let on = rebased node (op_of c.event) 0 (0 + longest.0) c.tail c.total c.walk in
            let walk : WalksOn node o 0 (op_of c.event ∷ c.tail) on.0 = (longest.0, longest.1, on.1) in
            record { event = f; left = there; tail = op_of c.event ∷ c.tail; long = ap (λ (m : ℕ). suc m) c.long; total = on.0; walk = subst (λ (p : Op). WalksOn node p 0 (op_of c.event ∷ c.tail) on.0) (sym own) walk }

        by_place : (c : Chain node rest n) (o : Op) → HasArc node o (op_of c.event) → (((f : Event) × In f stood × Starts o f) → ⊥) → (f : Event) → (In f stood ⊎ In f rest) → Starts o f → Chain node rest (suc n)
        by_place c o arc none f (inl stands) starts = absurd (none (f, stands, starts))
        by_place c o arc none f (inr there) starts = placed c o f there starts arc

        longer_by : (c : Chain node rest n) → ((o : Op) × HasArc node o (op_of c.event) × (((f : Event) × In f stood × Starts o f) → ⊥)) → Chain node rest (suc n)
        longer_by c waiting = let found = covered waiting.0 waiting.1.1.from_forced in by_place c waiting.0 waiting.1 waiting.2 found.0 found.1 found.2

abbrev AreForced : Node → List Event → Type 0
AreForced node rest = (e : Event) → In e rest → IsForced node (op_of e)

not_all_wait : (node : Node) (stood rest : List Event) → (HasCycle node → ⊥) → Covered node stood rest → AreForced node rest → (e : Event) → In e rest → ((f : Event) → In f rest → Waits node stood f) → ⊥
not_all_wait node stood rest no_cycle covered forced e left waits =
    let c = chain node stood rest covered waits e left (length (all_ops node.problem)) in
    let once = walk_once node no_cycle (op_of c.event) 0 c.tail c.total c.walk in
    let each : EachAmong (op_of c.event ∷ c.tail) (all_ops node.problem) = (forced_among node (op_of c.event) (forced c.event c.left), walk_among node (op_of c.event) 0 c.tail c.total c.walk) in
    omega (arith, once_fits (op_of c.event ∷ c.tail) (all_ops node.problem) once each, c.long)

some_ready_or_all_wait : (node : Node) (stood l : List Event) → ((e : Event) × In e l × IsReady node stood e) ⊎ ((e : Event) → In e l → Waits node stood e)
some_ready_or_all_wait node stood [] = inr (λ e none. absurd none)
some_ready_or_all_wait node stood (x ∷ l) = elim (ready_or_waits node stood x) [
  | inl ready ↦ inl (x, inl refl, ready)
  | inr waits ↦ elim (some_ready_or_all_wait node stood l) [
    | inl later ↦ inl (later.0, inr later.1, later.2)
    | inr all ↦ inr (λ e there. elim there [ inl same ↦ subst (Waits node stood) same waits | inr h ↦ all e h ])
  ]
]

-- the first of the events that are ready
record Best (node : Node) (stood l : List Event) (start : Event) : Type 0 where
  pub event : Event
  pub where_is : (event ≡ start) ⊎ In event l
  pub ready : IsReady node stood event
  pub not_behind : (event ≡ start) ⊎ ComesBefore event start
  pub first : (f : Event) → In f l → IsReady node stood f → (f ≡ event) ⊎ ComesBefore event f

best : (node : Node) (stood l : List Event) (start : Event) → IsReady node stood start → Best node stood l start
best node stood [] start ready = record { event = start; where_is = inl refl; ready = ready; not_behind = inl refl; first = λ f none r. absurd none }
best node stood (x ∷ l) start ready = elim (ready_or_waits node stood x) [
  | inr waits ↦ skip (best node stood l start ready) (λ is. waits_no waits is)
  | inl own ↦ elim (in_some_order x start) [
    | inl same ↦ alike same (best node stood l start ready)
    | inr order ↦ elim order [
      | inl before ↦ take_it before (best node stood l x own)
      | inr behind ↦ keep behind (best node stood l start ready)
    ]
  ]
]
  where
    waits_no : Waits node stood x → IsReady node stood x → ⊥
    waits_no waits is = let found = is waits.0 waits.1 in waits.2 (found.0, contains_in found.0 stood found.1, found.2)

    deeper : (e : Event) → (e ≡ start) ⊎ In e l → (e ≡ start) ⊎ In e (x ∷ l)
    deeper e (inl same) = inl same
    deeper e (inr there) = inr (inr there)

    first_of_all : (e : Event) → (IsReady node stood x → (x ≡ e) ⊎ ComesBefore e x) → ((f : Event) → In f l → IsReady node stood f → (f ≡ e) ⊎ ComesBefore e f)
        → (f : Event) → In f (x ∷ l) → IsReady node stood f → (f ≡ e) ⊎ ComesBefore e f
    first_of_all e here later f (inl same) is = subst (λ (g : Event). (g ≡ e) ⊎ ComesBefore e g) same (here (subst (IsReady node stood) (sym same) is))
    first_of_all e here later f (inr there) is = later f there is

    skip : Best node stood l start → (IsReady node stood x → ⊥) → Best node stood (x ∷ l) start
    skip b no_ready = record { event = b.event; where_is = deeper b.event b.where_is; ready = b.ready; not_behind = b.not_behind; first = first_of_all b.event (λ is. absurd (no_ready is)) b.first }

    behind_start : (e : Event) → (e ≡ start) ⊎ ComesBefore e start → ComesBefore start x → ComesBefore e x
    behind_start e (inl same) before = subst (λ (g : Event). ComesBefore g x) (sym same) before
    behind_start e (inr one) before = comes_then e start x one before

    alike : x ≡ start → Best node stood l start → Best node stood (x ∷ l) start
    alike same b = record { event = b.event; where_is = deeper b.event b.where_is; ready = b.ready; not_behind = b.not_behind; first = first_of_all b.event (λ is. at b.event b.not_behind) b.first }
      where
        at : (e : Event) → (e ≡ start) ⊎ ComesBefore e start → (x ≡ e) ⊎ ComesBefore e x
        at e (inl is) = inl (same ∙ sym is)
        at e (inr before) = inr (subst (ComesBefore e) (sym same) before)

    keep : ComesBefore start x → Best node stood l start → Best node stood (x ∷ l) start
    keep before b = record { event = b.event; where_is = deeper b.event b.where_is; ready = b.ready; not_behind = b.not_behind; first = first_of_all b.event (λ is. inr (behind_start b.event b.not_behind before)) b.first }

    take_it : ComesBefore x start → Best node stood l x → Best node stood (x ∷ l) start
    take_it before b = record { event = b.event; where_is = inr (place b.event b.where_is); ready = b.ready; not_behind = inr (to_start b.event b.not_behind); first = first_of_all b.event (λ is. to_x b.event b.not_behind) b.first }
      where
        place : (e : Event) → (e ≡ x) ⊎ In e l → In e (x ∷ l)
        place e (inl same) = inl (sym same)
        place e (inr there) = inr there

        to_start : (e : Event) → (e ≡ x) ⊎ ComesBefore e x → ComesBefore e start
        to_start e (inl same) = subst (λ (g : Event). ComesBefore g start) (sym same) before
        to_start e (inr one) = comes_then e x start one before

        to_x : (e : Event) → (e ≡ x) ⊎ ComesBefore e x → (x ≡ e) ⊎ ComesBefore e x
        to_x e (inl same) = inl (sym same)
        to_x e (inr one) = inr one

-- of what is left, the event that comes next
record Next (node : Node) (stood rest : List Event) : Type 0 where
  pub event : Event
  pub left : In event rest
  pub ready : IsReady node stood event
  pub first : (f : Event) → In f rest → IsReady node stood f → (f ≡ event) ⊎ ComesBefore event f

next_event : (node : Node) (stood rest : List Event) → (HasCycle node → ⊥) → Covered node stood rest → AreForced node rest → (e : Event) → In e rest → Next node stood rest
next_event node stood rest no_cycle covered forced e left = elim (some_ready_or_all_wait node stood rest) [
  | inr all ↦ absurd (not_all_wait node stood rest no_cycle covered forced e left all)
  | inl some ↦ from some (best node stood rest some.0 some.2)
]
  where
    from : (some : (e : Event) × In e rest × IsReady node stood e) → Best node stood rest some.0 → Next node stood rest
    from some b = record { event = b.event; left = place some b.event b.where_is; ready = b.ready; first = b.first }
      where
        place : (some : (e : Event) × In e rest × IsReady node stood e) (e : Event) → (e ≡ some.0) ⊎ In e rest → In e rest
        place some e (inl same) = subst (λ (g : Event). In g rest) (sym same) some.1
        place some e (inr there) = there

-- ---- all events, in order

abbrev OnceEach : List Event → Type 0
OnceEach [] = Unit {0}
OnceEach (e ∷ events) = ((f : Event) → In f events → op_of f ≡ op_of e → ⊥) × OnceEach events

once_without : (e : Event) (front back : List Event) → OnceEach (front ++ e ∷ back) → OnceEach (front ++ back)
once_without e [] back once = once.1
once_without e (x ∷ front) back once = ((λ f there. once.0 f (elim (in_either f front back there) [ inl h ↦ in_left f front (e ∷ back) h | inr h ↦ in_right f front (e ∷ back) (inr h) ])), once_without e front back once.1)

none_alike : (e : Event) (front back : List Event) → OnceEach (front ++ e ∷ back) → (f : Event) → In f (front ++ back) → op_of f ≡ op_of e → ⊥
none_alike e [] back once f there same = once.0 f there same
none_alike e (x ∷ front) back once f (inl is) same = once.0 e (in_right e front (e ∷ back) (inl refl)) (sym same ∙ sym (ap op_of is))
none_alike e (x ∷ front) back once f (inr there) same = none_alike e front back once.1 f there same

nil_right : (xs : List Event) → xs ++ [] ≡ xs
nil_right [] = refl
nil_right (x ∷ xs) = ap (λ (l : List Event). x ∷ l) (nil_right xs)

record Arranged (node : Node) (stood rest : List Event) : Type 0 where
  pub plan : List Event
  pub from : (f : Event) → In f plan → In f rest
  pub there : (f : Event) → In f rest → In f plan
  pub once : OnceEach plan
  pub ordered : (i : ℕ) (e : Event) → slice_get plan i ≡ Some e → IsNext node (stood ++ take i plan) (drop i plan) e

arrange : (node : Node) → (HasCycle node → ⊥) → (n : ℕ) (stood rest : List Event) → length rest ≡ n → Covered node stood rest → AreForced node rest → OnceEach rest
    → Arranged node stood rest
arrange node no_cycle zero stood [] long covered forced once = record { plan = []; from = λ f none. none; there = λ f none. none; once = tt; ordered = λ i e at. absurd (none-some e at) }
arrange node no_cycle zero stood (x ∷ rest) long covered forced once = absurd (omega (arith, long))
arrange node no_cycle (suc n) stood [] long covered forced once = absurd (omega (arith, long))
arrange node no_cycle (suc n) stood (x ∷ rest) long covered forced once =
    go (next_event node stood (x ∷ rest) no_cycle covered forced x (inl refl)) (λ stands left is c f o. arrange node no_cycle n stands left is c f o)
  where
    go : Next node stood (x ∷ rest)
        → ((stands left : List Event) → length left ≡ n → Covered node stands left → AreForced node left → OnceEach left → Arranged node stands left)
        → Arranged node stood (x ∷ rest)
    go next later = with_parts next (out next.event (x ∷ rest) next.left) later
      where
        with_parts : (next : Next node stood (x ∷ rest)) (parts : Out next.event (x ∷ rest))
            → ((stands left : List Event) → length left ≡ n → Covered node stands left → AreForced node left → OnceEach left → Arranged node stands left)
            → Arranged node stood (x ∷ rest)
        with_parts next parts later = joined (later (stood ++ next.event ∷ []) (parts.front ++ parts.back) shorter covers (λ f there. forced f (back_in f there)) (once_without next.event parts.front parts.back apart))
          where
            apart : OnceEach (parts.front ++ next.event ∷ parts.back)
            apart = subst OnceEach parts.is once

            shorter : length (parts.front ++ parts.back) ≡ n
            shorter = omega (arith, long, ap length parts.is, length-append parts.front (next.event ∷ parts.back), length-append parts.front parts.back)

            back_in : (f : Event) → In f (parts.front ++ parts.back) → In f (x ∷ rest)
            back_in f there = subst (In f) (sym parts.is) (elim (in_either f parts.front parts.back there) [ inl h ↦ in_left f parts.front (next.event ∷ parts.back) h | inr h ↦ in_right f parts.front (next.event ∷ parts.back) (inr h) ])

            moved : (f : Event) → In f (parts.front ++ next.event ∷ parts.back) → In f (stood ++ next.event ∷ []) ⊎ In f (parts.front ++ parts.back)
            moved f there = elim (in_either f parts.front (next.event ∷ parts.back) there) [
              | inl h ↦ inr (in_left f parts.front parts.back h)
              | inr h ↦ elim h [ inl same ↦ inl (in_right f stood (next.event ∷ []) (inl same)) | inr g ↦ inr (in_right f parts.front parts.back g) ]
            ]

            covers : Covered node (stood ++ next.event ∷ []) (parts.front ++ parts.back)
            covers o is = place (covered o is)
              where
                place : ((f : Event) × (In f stood ⊎ In f (x ∷ rest)) × Starts o f) → (f : Event) × (In f (stood ++ next.event ∷ []) ⊎ In f (parts.front ++ parts.back)) × Starts o f
                place (f, inl stands, starts) = (f, inl (in_left f stood (next.event ∷ []) stands), starts)
                place (f, inr left, starts) = (f, moved f (subst (In f) parts.is left), starts)

            from_plan : (tail : Arranged node (stood ++ next.event ∷ []) (parts.front ++ parts.back)) (f : Event) → In f (next.event ∷ tail.plan) → In f (x ∷ rest)
            from_plan tail f (inl same) = subst (λ (g : Event). In g (x ∷ rest)) same next.left
            from_plan tail f (inr there) = back_in f (tail.from f there)

            in_plan : (tail : Arranged node (stood ++ next.event ∷ []) (parts.front ++ parts.back)) (f : Event) → In f (parts.front ++ next.event ∷ parts.back) → In f (next.event ∷ tail.plan)
            in_plan tail f there = elim (in_either f parts.front (next.event ∷ parts.back) there) [
              | inl h ↦ inr (tail.there f (in_left f parts.front parts.back h))
              | inr h ↦ elim h [ inl same ↦ inl same | inr g ↦ inr (tail.there f (in_right f parts.front parts.back g)) ]
            ]

            first_of : (tail : Arranged node (stood ++ next.event ∷ []) (parts.front ++ parts.back)) (f : Event) → In f (next.event ∷ tail.plan) → IsReady node stood f → (f ≡ next.event) ⊎ ComesBefore next.event f
            first_of tail f (inl same) is = inl (sym same)
            first_of tail f (inr there) is = next.first f (back_in f (tail.from f there)) is

            order : (tail : Arranged node (stood ++ next.event ∷ []) (parts.front ++ parts.back)) (i : ℕ) (e : Event) → slice_get (next.event ∷ tail.plan) i ≡ Some e
                → IsNext node (stood ++ take i (next.event ∷ tail.plan)) (drop i (next.event ∷ tail.plan)) e
            order tail zero e at =
                let own : IsNext node stood (next.event ∷ tail.plan) next.event = record { ready = next.ready; first = λ f there is. first_of tail f (contains_in f (next.event ∷ tail.plan) there) is } in
                subst (IsNext node (stood ++ []) (next.event ∷ tail.plan)) (same_Some next.event e at)
                (subst (λ (s : List Event). IsNext node s (next.event ∷ tail.plan) next.event) (sym (nil_right stood)) own)
            order tail (suc i) e at = subst (λ (s : List Event). IsNext node s (drop i tail.plan) e) (append_assoc stood (next.event ∷ []) (take i tail.plan)) (tail.ordered i e at)

            joined : Arranged node (stood ++ next.event ∷ []) (parts.front ++ parts.back) → Arranged node stood (x ∷ rest)
            joined tail = record {
              plan = next.event ∷ tail.plan;
              from = from_plan tail;
              there = λ f there. in_plan tail f (subst (In f) parts.is there);
              once = ((λ f there. none_alike next.event parts.front parts.back (subst OnceEach parts.is once) f (tail.from f there)), tail.once);
              ordered = order tail;
            }

-- ---- the event of each forced operation

record Made (node : Node) (ops : List Op) : Type 0 where
  pub events : List Event
  pub among : (e : Event) → In e events → Among (op_of e) ops
  pub forced : (e : Event) → In e events → IsForced node (op_of e)
  pub longest : (e : Event) → In e events → IsLongest node (op_of e) e.time
  pub each : (o : Op) → Among o ops → IsForced node o → (f : Event) × In f events × Starts o f
  pub once : OnceEach events

made : (node : Node) (ops : List Op) → Once ops → Made node ops
made node [] once = record { events = []; among = λ e none. absurd none; forced = λ e none. absurd none; longest = λ e none. absurd none; each = λ o none is. absurd none; once = tt }
made node (o ∷ ops) once = by_forced (is_forced_or_not node o) (made node ops once.1)
  where
    by_forced : Decided (IsForced node o) → Made node ops → Made node (o ∷ ops)
    by_forced (inr free) later = record {
      events = later.events;
      among = λ e there. inr (later.among e there);
      forced = later.forced;
      longest = later.longest;
      each = λ p there is. elim there [ inl same ↦ absurd (free (subst (IsForced node) (sym same) is)) | inr h ↦ later.each p h is ];
      once = later.once;
    }
    by_forced (inl is) later = with_time (longest_walk node o is) later
      where
        with_time : ((total : ℕ) × IsLongest node o total) → Made node ops → Made node (o ∷ ops)
        with_time time later =
            let own : Event = record { time = time.0; train = o.train; operation = o.op } in
            record {
              events = own ∷ later.events;
              among = λ e there. elim there [ inl same ↦ inl (ap op_of same) | inr h ↦ inr (later.among e h) ];
              forced = λ e there. elim there [ inl same ↦ subst (λ (f : Event). IsForced node (op_of f)) same is | inr h ↦ later.forced e h ];
              longest = λ e there. elim there [ inl same ↦ subst (λ (f : Event). IsLongest node (op_of f) f.time) same time.1 | inr h ↦ later.longest e h ];
              each = λ p there forced. elim there [
                | inl same ↦ (own, inl refl, record { train = ap (λ (q : Op). q.train) same; operation = ap (λ (q : Op). q.op) same })
                | inr h ↦ (let f = later.each p h forced in (f.0, inr f.1, f.2))
              ];
              once = ((λ f there same. once.0 (subst (λ (p : Op). Among p ops) same (later.among f there))), later.once);
            }

-- ---- all operations stand once

among_train : (t k : ℕ) (o : Op) → Among o (ops_up_to t k) → (o.train ≡ t) × (o.op < k)
unfolding ops_up_to
among_train t zero o there = absurd there
among_train t (suc k) o (inl same) = (sym (ap (λ (p : Op). p.train) same), (let op : k ≡ o.op = ap (λ (p : Op). p.op) same in omega (arith, op)))
among_train t (suc k) o (inr there) = let later = among_train t k o there in (later.0, omega (arith, later.1))

train_once : (t k : ℕ) → Once (ops_up_to t k)
unfolding ops_up_to
train_once t zero = tt
train_once t (suc k) = ((λ there. let at = among_train t k (record { train = t; op = k }) there in omega (arith, at.1)), train_once t k)

among_trains : (problem : Problem) (n : ℕ) (o : Op) → Among o (all_ops_up_to problem n) → o.train < n
unfolding all_ops_up_to
among_trains problem zero o there = absurd there
among_trains problem (suc n) o there = elim (among_cases o (ops_up_to n (length (train_at problem n))) (all_ops_up_to problem n) there) [
  | inl h ↦ (let at = among_train n (length (train_at problem n)) o h in omega (arith, at.0))
  | inr h ↦ omega (arith, among_trains problem n o h)
]

trains_once : (problem : Problem) (n : ℕ) → Once (all_ops_up_to problem n)
unfolding all_ops_up_to
trains_once problem zero = tt
trains_once problem (suc n) = once_append (ops_up_to n (length (train_at problem n))) (all_ops_up_to problem n) (train_once n (length (train_at problem n))) (trains_once problem n)
    (λ o here there. let at = among_train n (length (train_at problem n)) o here in omega (arith, at.0, among_trains problem n o there))

all_once : (problem : Problem) → Once (all_ops problem)
unfolding all_ops
all_once problem = trains_once problem (length problem.trains)

-- ---- the plan

at_in : (events : List Event) (i : ℕ) (e : Event) → slice_get events i ≡ Some e → In e events
at_in [] i e at = absurd (none-some e at)
at_in (f ∷ events) zero e at = inl (same_Some f e at)
at_in (f ∷ events) (suc i) e at = inr (at_in events i e at)

none_twice : (events : List Event) → OnceEach events → (i j : ℕ) (e f : Event) → i < j → slice_get events i ≡ Some e → slice_get events j ≡ Some f → op_of e ≢ op_of f
none_twice [] once i j e f lt at there same = none-some e at
none_twice (g ∷ events) once zero zero e f lt at there same = omega (arith, lt)
none_twice (g ∷ events) once zero (suc j) e f lt at there same = once.0 f (at_in events j f there) (sym same ∙ sym (ap op_of (same_Some g e at)))
none_twice (g ∷ events) once (suc i) zero e f lt at there same = omega (arith, lt)
none_twice (g ∷ events) once (suc i) (suc j) e f lt at there same = none_twice events once.1 i j e f (omega (arith, lt)) at there same

pub earliest_exists : (node : Node) → HaveOneRoute node → (HasCycle node → ⊥) → (plan : List Event) × IsEarliest node plan
earliest_exists node one no_cycle =
    let all = made node (all_ops node.problem) (all_once node.problem) in
    let each : (o : Op) → IsForced node o → (f : Event) × In f all.events × Starts o f = λ o is. all.each o (forced_among node o is) is in
    let covered : Covered node [] all.events = λ o is. (let f = each o is in (f.0, inr f.1, f.2)) in
    let sorted = arrange node no_cycle (length all.events) [] all.events refl covered all.forced all.once in (
      sorted.plan,
      record {
        one_route = one;
        no_cycle = no_cycle;
        each_run = λ o is. (let f = each o is in (f.0, in_contains f.0 sorted.plan (sorted.there f.0 f.1), f.2));
        none_else = λ e there. (let at = sorted.from e (contains_in e sorted.plan there) in (all.forced e at, all.longest e at));
        none_twice = none_twice sorted.plan sorted.once;
        ordered = sorted.ordered;
      },
    )
