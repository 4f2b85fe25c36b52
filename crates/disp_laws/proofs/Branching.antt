-- Branching covers: of each choice some child is followed.
use Rattle.std.proofs.Common.{◌≡◌, ℕ, zero, suc, ◌+◌, ◌<◌, ◌≤◌, List, [], ◌∷◌, ◌++◌, length, take, drop, map, Some, refl, sym, ap, subst, ◌∙◌, arith, inl, inr}
use Rattle.std.specs.Prelude.{nat_eq, slice_get, Contains, IsSome, ◌⊎◌}
use Rattle.std.proofs.lemmas.Bool.{cases_Bool, cases_lt, eq-eqb, eqb-true, eqb-false, false≢true}
use Rattle.std.proofs.lemmas.Option.{none-some, same_Some, slice_get_within, get_or_from_slice_get}
use Rattle.std.proofs.lemmas.List.{map-append, get_or_past}
use Rattle.std.proofs.lemmas.List.Elements.{filter-append, All-push}
use Rattle.disp_model.specs.declared.train.Op.{Op}
use Rattle.disp_model.specs.declared.train.Operation.{Operation}
use Rattle.disp_model.specs.declared.plan.Event.{Event}
use Rattle.disp_model.specs.declared.fixing.Fixing.{Fixing}
use Rattle.disp_model.specs.declared.decision.Decision.{Decision}
use Rattle.disp_model.specs.declared.decision.Decision.TheVariants.{Go, First, Run as RunIt, Skip}
use Rattle.disp_model.specs.declared.decision.Choice.{Choice}
use Rattle.disp_model.specs.declared.decision.Choice.TheVariants.{Route, Order, Run}
use Rattle.disp_model.specs.declared.problem.Problem.{Problem}
use Rattle.disp_model.specs.Train.{next_of, IsSuccessor, IsExit, GoesOn, IsRoute}
use Rattle.disp_model.specs.Plan.{run_of, operations_of}
use Rattle.disp_model.specs.Fixing.{after}
use Rattle.disp_model.specs.Valid.{train_at, operation_of, IsValid}
use Rattle.disp_model.specs.Node.{Node}
use Rattle.disp_model.specs.Routes.{Starts}
use Rattle.disp_model.specs.Follows.{FollowsDecision, Follows}
use Rattle.disp_model.specs.Trees.{IsChoice, children_of}
use Rattle.disp_laws.proofs.Paths.{IsIn, is_in, contains_in, in_or_not, goes_to_next, never_again}
use Rattle.disp_laws.proofs.Runs.{split_at}

pub contains_map : {X Y : Type 0} (f : X → Y) (xs : List X) (x : X) → Contains xs x → Contains (map f xs) (f x)
contains_map f [] x (k, lt, e) = absurd (omega arith)
contains_map f (y ∷ xs) x (zero, lt, e) = (0, omega arith, ap f e)
contains_map f (y ∷ xs) x (suc k, lt, e) = let c = contains_map f xs x (k, omega arith, e) in (suc c.0, omega (arith, c.1), c.2)

-- an operation with successors belongs to a train that is there
train_with_next : (problem : Problem) (t o : ℕ) → 1 ≤ length (next_of (train_at problem t) o) → t < length problem.trains
train_with_next problem t o some =
    elim (cases_lt t (length problem.trains)) [
      | inl lt ↦ lt
      | inr le ↦
          let none : train_at problem t ≡ [] = get_or_past problem.trains t [] le in
          absurd (nothing_next o (subst (λ (train : List Operation). 1 ≤ length (next_of train o)) none some))
    ]
  where
    nothing_next : (o : ℕ) → 1 ≤ length (next_of [] o) → ⊥
    nothing_next o h = omega arith

-- ---- a route choice

first_next : (l : List ℕ) → 2 ≤ length l → (s : ℕ) × Contains l s
first_next [] h = absurd (omega arith)
first_next (s ∷ l) h = (s, (0, omega arith, refl))

exit_has_none : (train : List Operation) (o : ℕ) → 2 ≤ length (next_of train o) → IsExit train o → ⊥
exit_has_none train o two exit = let none : length (next_of train o) ≡ 0 = ap length exit.last in omega arith

next_on_route : (train : List Operation) (o : ℕ) (ops : List ℕ) → IsRoute train ops → IsIn o ops → 2 ≤ length (next_of train o) → (s : ℕ) × (after o ops ≡ Some s) × IsSuccessor train o s
next_on_route train o [] route h two = absurd route
next_on_route train o (p ∷ rest) route h two = goes_to_next train o p rest route.1 h (exit_has_none train o two)

route_child : (problem : Problem) (fixings : List Fixing) (plan : List Event) (o : Op) → IsValid problem fixings plan → IsChoice problem (Route o) → (child : Decision) × Contains (children_of problem (Route o)) child × FollowsDecision plan child
route_child problem fixings plan o valid two =
    let train = train_at problem o.train in
    let there = train_with_next problem o.train o.op (omega (arith, two)) in
    let ops = operations_of o.train plan in
    elim (in_or_not o.op ops) [
      | inl run ↦
          let next = next_on_route train o.op ops (valid.routes o.train there) run two in
          (Go o next.0, contains_map (λ s. Go o s) (next_of train o.op) next.0 next.2, λ h. next.1)
      | inr not ↦
          let some = first_next (next_of train o.op) two in
          (Go o some.0, contains_map (λ s. Go o s) (next_of train o.op) some.0 some.1, λ h. absurd (not (is_in o.op ops h)))
    ]

-- ---- an order choice

-- where an operation is started, or that it is not
abbrev pub IsStartedAt : List Event → Op → ℕ → Event → Type 0
IsStartedAt plan o i e = (slice_get plan i ≡ Some e) × Starts o e

pub starts_or_not : (o : Op) (e : Event) → Starts o e ⊎ (Starts o e → ⊥)
starts_or_not o e =
    elim (cases_Bool (nat_eq e.train o.train)) [
      | inl t ↦ elim (cases_Bool (nat_eq e.operation o.op)) [
        | inl p ↦ inl (record { train = eqb-true e.train o.train t; operation = eqb-true e.operation o.op p })
        | inr p ↦ inr (λ h. eqb-false e.operation o.op p h.operation)
      ]
      | inr t ↦ inr (λ h. eqb-false e.train o.train t h.train)
    ]

pub started_or_not : (o : Op) (plan : List Event) → ((i : ℕ) × (e : Event) × IsStartedAt plan o i e) ⊎ ((i : ℕ) (e : Event) → IsStartedAt plan o i e → ⊥)
started_or_not o [] = inr (λ i e h. none-some e h.0)
started_or_not o (f ∷ plan) =
    elim (starts_or_not o f) [
      | inl here ↦ inl (0, f, (refl, here))
      | inr not ↦ elim (started_or_not o plan) [
        | inl later ↦ inl (suc later.0, later.1, later.2)
        | inr none ↦ inr (nowhere o f plan not none)
      ]
    ]
  where
    nowhere : (o : Op) (f : Event) (plan : List Event) → (Starts o f → ⊥) → ((i : ℕ) (e : Event) → IsStartedAt plan o i e → ⊥) → (i : ℕ) (e : Event) → IsStartedAt (f ∷ plan) o i e → ⊥
    nowhere o f plan not none zero e h = let same : f ≡ e = same_Some f e h.0 in not (subst (Starts o) (sym same) h.1)
    nowhere o f plan not none (suc i) e h = none i e h

goes_on_from : (train : List Operation) (p : ℕ) (before : List ℕ) (o : ℕ) (rest : List ℕ) → GoesOn train p (before ++ o ∷ rest) → GoesOn train o rest
goes_on_from train p [] o rest goes = goes.1
goes_on_from train p (q ∷ before) o rest goes = goes_on_from train q before o rest goes.1

pub route_from : (train : List Operation) (before : List ℕ) (o : ℕ) (rest : List ℕ) → IsRoute train (before ++ o ∷ rest) → GoesOn train o rest
route_from train [] o rest route = route.1
route_from train (p ∷ before) o rest route = goes_on_from train p before o rest route.1

pub own_operations : (t : ℕ) (e : Event) (rest : List Event) → e.train ≡ t → operations_of t (e ∷ rest) ≡ e.operation ∷ operations_of t rest
own_operations t e rest same = rw (same, eq-eqb t t refl) refl

pub operations_append : (t : ℕ) (xs ys : List Event) → operations_of t (xs ++ ys) ≡ operations_of t xs ++ operations_of t ys
operations_append t xs ys = ap (map (λ e. e.operation)) (filter-append (λ e. nat_eq e.train t) xs ys) ∙ map-append (λ e. e.operation) (run_of t xs) (run_of t ys)

-- an event of a train is among its operations
pub started_is_in : (o : Op) (plan : List Event) (i : ℕ) (e : Event) → IsStartedAt plan o i e → IsIn o.op (operations_of o.train plan)
started_is_in o plan i e h =
    let parts = ap (operations_of o.train) (split_at plan i e h.0) ∙ operations_append o.train (take i plan) (e ∷ drop (i + 1) plan) ∙ ap (λ (l : List ℕ). operations_of o.train (take i plan) ++ l) (own_operations o.train e (drop (i + 1) plan) h.1.train) in
    subst (λ (l : List ℕ). IsIn o.op l) (sym parts) (in_middle o.op (operations_of o.train (take i plan)) e.operation (operations_of o.train (drop (i + 1) plan)) h.1.operation)
  where
    in_middle : (o : ℕ) (before : List ℕ) (p : ℕ) (rest : List ℕ) → p ≡ o → IsIn o (before ++ p ∷ rest)
    in_middle o [] p rest same = inl same
    in_middle o (q ∷ before) p rest same = inr (in_middle o before p rest same)

pub named_train : (problem : Problem) (e : Event) → IsSome (operation_of problem e) → e.train < length problem.trains
named_train problem e some =
    elim (cases_lt e.train (length problem.trains)) [
      | inl lt ↦ lt
      | inr le ↦
          let none : train_at problem e.train ≡ [] = get_or_past problem.trains e.train [] le in
          absurd (false≢true (subst (λ (train : List Operation). IsSome (slice_get train e.operation)) none some))
    ]

pub get_later : (plan : List Event) (i j : ℕ) (f : Event) → i < j → slice_get plan j ≡ Some f → (k : ℕ) × (slice_get (drop (i + 1) plan) k ≡ Some f)
get_later [] i j f lt at = absurd (none-some f at)
get_later (g ∷ plan) i zero f lt at = absurd (omega arith)
get_later (g ∷ plan) zero (suc j) f lt at = (j, at)
get_later (g ∷ plan) (suc i) (suc j) f lt at =
    let more : suc i + 1 ≡ suc (i + 1) = omega arith in
    let later = get_later plan i j f (omega arith) at in
    (later.0, rw more later.1)

-- in a valid plan no operation starts twice
pub started_once : (problem : Problem) (fixings : List Fixing) (plan : List Event) (o : Op) (i j : ℕ) (e f : Event) → IsValid problem fixings plan → i < j → IsStartedAt plan o i e → IsStartedAt plan o j f → ⊥
started_once problem fixings plan o i j e f valid lt first second =
    let t = o.train in
    let some = subst (λ (g : Event). IsSome (operation_of problem g)) (get_or_from_slice_get plan i e e first.0) (valid.named i e (slice_get_within plan i e first.0)) in
    let there : t < length problem.trains = subst (λ (u : ℕ). u < length problem.trains) first.1.train (named_train problem e some) in
    let parts = ap (operations_of t) (split_at plan i e first.0) ∙ operations_append t (take i plan) (e ∷ drop (i + 1) plan) ∙ ap (λ (l : List ℕ). operations_of t (take i plan) ++ l) (own_operations t e (drop (i + 1) plan) first.1.train) in
    let goes = route_from (train_at problem t) (operations_of t (take i plan)) e.operation (operations_of t (drop (i + 1) plan)) (subst (IsRoute (train_at problem t)) parts (valid.routes t there)) in
    let later = get_later plan i j f lt second.0 in
    never_again (train_at problem t) o.op (operations_of t (drop (i + 1) plan)) (problem.well_formed.acyclic t [] there)
    (subst (λ (p : ℕ). GoesOn (train_at problem t) p (operations_of t (drop (i + 1) plan))) first.1.operation goes)
    (started_is_in o (drop (i + 1) plan) later.0 f (later.1, second.1))

pub one_place : (problem : Problem) (fixings : List Fixing) (plan : List Event) (o : Op) (i j : ℕ) (e f : Event) → IsValid problem fixings plan → IsStartedAt plan o i e → IsStartedAt plan o j f → i ≡ j
one_place problem fixings plan o i j e f valid first second =
    elim (cases_lt i j) [
      | inl lt ↦ absurd (started_once problem fixings plan o i j e f valid lt first second)
      | inr le ↦ elim (cases_lt j i) [
        | inl lt ↦ absurd (started_once problem fixings plan o j i f e valid lt second first)
        | inr ge ↦ omega arith
      ]
    ]

-- a stands before b where it does at one place of each
stands_before : (problem : Problem) (fixings : List Fixing) (plan : List Event) (a b : Op) (i j : ℕ) (e f : Event) → IsValid problem fixings plan → IsStartedAt plan a i e → IsStartedAt plan b j f → i < j → FollowsDecision plan (First a b)
stands_before problem fixings plan a b i j e f valid first second lt k l g h at there starts ends =
    omega (arith, one_place problem fixings plan a i k e g valid first (at, starts), one_place problem fixings plan b j l f h valid second (there, ends))

order_child : (problem : Problem) (fixings : List Fixing) (plan : List Event) (a b : Op) → IsValid problem fixings plan → IsChoice problem (Order a b) → (child : Decision) × Contains (children_of problem (Order a b)) child × FollowsDecision plan child
order_child problem fixings plan a b valid conflicts =
    let one : Contains (children_of problem (Order a b)) (First a b) = (0, omega arith, refl) in
    let other : Contains (children_of problem (Order a b)) (First b a) = (1, omega arith, refl) in
    elim (started_or_not a plan) [
      | inr none ↦ (First a b, one, λ i j e f at there starts ends. absurd (none i e (at, starts)))
      | inl first ↦ elim (started_or_not b plan) [
        | inr none ↦ (First a b, one, λ i j e f at there starts ends. absurd (none j f (there, ends)))
        | inl second ↦ elim (cases_lt first.0 second.0) [
          | inl lt ↦ (First a b, one, stands_before problem fixings plan a b first.0 second.0 first.1 second.1 valid first.2 second.2 lt)
          | inr le ↦ elim (cases_lt second.0 first.0) [
            | inl lt ↦ (First b a, other, stands_before problem fixings plan b a second.0 first.0 second.1 first.1 valid second.2 first.2 lt)
            | inr ge ↦ absurd (conflicts.trains (same_train plan a b first.0 second.0 first.1 second.1 first.2 second.2 (omega arith)))
          ]
        ]
      ]
    ]
  where
    same_train : (plan : List Event) (a b : Op) (i j : ℕ) (e f : Event) → IsStartedAt plan a i e → IsStartedAt plan b j f → i ≡ j → a.train ≡ b.train
    same_train plan a b i j e f first second same =
        let alike : e ≡ f = same_Some e f (sym first.0 ∙ ap (slice_get plan) same ∙ second.0) in
        sym first.1.train ∙ ap (λ (g : Event). g.train) alike ∙ second.1.train

run_child : (problem : Problem) (plan : List Event) (o : Op) → (child : Decision) × Contains (children_of problem (Run o)) child × FollowsDecision plan child
run_child problem plan o = elim (in_or_not o.op (operations_of o.train plan)) [
  | inl run ↦ (RunIt o, (0, omega arith, refl), contains_in o.op (operations_of o.train plan) run)
  | inr not ↦ (Skip o, (1, omega arith, refl), λ h. not (is_in o.op (operations_of o.train plan) h))
]

some_child : (problem : Problem) (fixings : List Fixing) (plan : List Event) (choice : Choice) → IsValid problem fixings plan → IsChoice problem choice → (child : Decision) × Contains (children_of problem choice) child × FollowsDecision plan child
some_child problem fixings plan (Route o) valid is = route_child problem fixings plan o valid is
some_child problem fixings plan (Order a b) valid is = order_child problem fixings plan a b valid is
some_child problem fixings plan (Run o) valid is = run_child problem plan o

pub covers : (node : Node) (plan : List Event) (choice : Choice) → IsValid node.problem node.fixings plan → Follows plan node.decisions → IsChoice node.problem choice
    → (child : Decision) × Contains (children_of node.problem choice) child × Follows plan (node.decisions ++ child ∷ [])
covers node plan choice valid follows is =
    let child = some_child node.problem node.fixings plan choice valid is in
    (child.0, child.1, All-push (FollowsDecision plan) node.decisions child.0 follows child.2)
