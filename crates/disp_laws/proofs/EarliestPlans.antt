-- The plan of earliest starts: its events are in order of time, and it is one.
use Rattle.std.proofs.Common.{◌≡◌, ℕ, zero, suc, ◌+◌, ◌<◌, ◌≤◌, List, [], ◌∷◌, ◌++◌, length, get_or, take, drop, Some, refl, sym, ap, subst, ◌∙◌, arith, inl, inr, append_assoc}
use Rattle.std.specs.Prelude.{slice_get, Contains, ◌⊎◌}
use Rattle.std.specs.List.Sorted.{IsNonDecreasingBy}
use Rattle.std.proofs.lemmas.Bool.{cases_lt}
use Rattle.std.proofs.lemmas.Option.{none-some, same_Some, slice_get_within, slice_get-get_or, get_or_from_slice_get}
use Rattle.std.proofs.lemmas.List.Sorted.{IsNonDecreasingBy-from_all_adjacent}
use Rattle.disp_model.specs.declared.train.Op.{Op}
use Rattle.disp_model.specs.declared.plan.Event.{Event}
use Rattle.disp_model.specs.Node.{Node}
use Rattle.disp_model.specs.Routes.{IsForced, Starts}
use Rattle.disp_model.specs.Arcs.{HasArc}
use Rattle.disp_model.specs.Walks.{IsLongest}
use Rattle.disp_model.specs.Earliest.{op_of, ComesBefore, IsNext, IsEarliest}
use Rattle.disp_laws.proofs.Branching.{IsStartedAt}
use Rattle.disp_laws.proofs.Picked.{one_longest, contains_at, at_contains, same_op}
use Rattle.disp_laws.proofs.EarliestExists.{same_events, comes_then}
use Rattle.disp_laws.proofs.LongestSteps.{longest_step}

-- ---- places in a list of events

pub get_taken : (plan : List Event) (i k : ℕ) (e : Event) → slice_get (take i plan) k ≡ Some e → (k < i) × (slice_get plan k ≡ Some e)
get_taken plan zero k e at = absurd (none-some e at)
get_taken [] (suc i) k e at = absurd (none-some e at)
get_taken (f ∷ plan) (suc i) zero e at = (omega arith, at)
get_taken (f ∷ plan) (suc i) (suc k) e at = let later = get_taken plan i k e at in (omega (arith, later.0), later.1)

pub taken_get : (plan : List Event) (i k : ℕ) (e : Event) → k < i → slice_get plan k ≡ Some e → slice_get (take i plan) k ≡ Some e
taken_get plan zero k e lt at = absurd (omega arith)
taken_get [] (suc i) k e lt at = absurd (none-some e at)
taken_get (f ∷ plan) (suc i) zero e lt at = at
taken_get (f ∷ plan) (suc i) (suc k) e lt at = taken_get plan i k e (omega (arith, lt)) at

dropped_get : (plan : List Event) (i k : ℕ) (e : Event) → i ≤ k → slice_get plan k ≡ Some e → Contains (drop i plan) e
dropped_get plan zero k e le at = at_contains plan k e at
dropped_get [] (suc i) k e le at = absurd (none-some e at)
dropped_get (f ∷ plan) (suc i) zero e le at = absurd (omega arith)
dropped_get (f ∷ plan) (suc i) (suc k) e le at = dropped_get plan i k e (omega (arith, le)) at

starts_own : (e : Event) → Starts (op_of e) e
starts_own e = record { train = refl; operation = refl }

-- ---- facts of an earliest plan

-- one place for each operation
pub one_position : (node : Node) (plan : List Event) (i j : ℕ) (e f : Event) → IsEarliest node plan → slice_get plan i ≡ Some e → slice_get plan j ≡ Some f → op_of e ≡ op_of f → i ≡ j
one_position node plan i j e f earliest at there same = elim (cases_lt i j) [
  | inl lt ↦ absurd (earliest.none_twice i j e f lt at there same)
  | inr le ↦ elim (cases_lt j i) [
    | inl lt ↦ absurd (earliest.none_twice j i f e lt there at (sym same))
    | inr ge ↦ omega (arith, le, ge)
  ]
]

pub forced_at : (node : Node) (plan : List Event) (i : ℕ) (e : Event) → IsEarliest node plan → slice_get plan i ≡ Some e → IsForced node (op_of e)
forced_at node plan i e earliest at = (earliest.none_else e (at_contains plan i e at)).0

pub longest_at : (node : Node) (plan : List Event) (i : ℕ) (e : Event) → IsEarliest node plan → slice_get plan i ≡ Some e → IsLongest node (op_of e) e.time
longest_at node plan i e earliest at = (earliest.none_else e (at_contains plan i e at)).1

-- the event of a forced operation, at its place
pub event_of : (node : Node) (plan : List Event) (o : Op) → IsEarliest node plan → IsForced node o → (i : ℕ) × (e : Event) × IsStartedAt plan o i e
event_of node plan o earliest forced =
    let run = earliest.each_run o forced in
    let at = contains_at plan run.0 run.1 in
    (at.0, run.0, (at.1, run.2))

-- an event of the places before
stood_before : (plan : List Event) (j : ℕ) (e : Event) → Contains (take j plan) e → (k : ℕ) × (k < j) × (slice_get plan k ≡ Some e)
stood_before plan j e there =
    let at = contains_at (take j plan) e there in
    let back = get_taken plan j at.0 e at.1 in
    (at.0, back.0, back.1)

-- along an arc the later one stands behind
pub arc_in_order : (node : Node) (plan : List Event) (o : Op) (i j : ℕ) (e f : Event) → IsEarliest node plan → HasArc node o (op_of f) → IsStartedAt plan o i e → slice_get plan j ≡ Some f → i < j
arc_in_order node plan o i j e f earliest arc here there =
    let ready = (earliest.ordered j f there).ready o arc in
    let stood = stood_before plan j ready.0 ready.1 in
    let same = one_position node plan i stood.0 e ready.0 earliest here.0 stood.2 (same_op o e here.1 ∙ sym (same_op o ready.0 ready.2)) in
    omega (arith, same, stood.1)

-- the event that comes next starts no earlier
rises : (node : Node) (plan : List Event) (i : ℕ) (e f : Event) → IsEarliest node plan → slice_get plan i ≡ Some e → slice_get plan (i + 1) ≡ Some f → e.time ≤ f.time
rises node plan i e f earliest at next = elim (cases_lt f.time e.time) [
  | inr le ↦ le
  | inl lt ↦ absurd (too_early lt)
]
  where
    stands : (o : Op) → f.time < e.time → HasArc node o (op_of f) → (g : Event) × Contains (take i plan) g × Starts o g
    stands o lt arc = by_place (stood_before plan (i + 1) ready.0 ready.1)
      where
        ready : (g : Event) × Contains (take (i + 1) plan) g × Starts o g
        ready = (earliest.ordered (i + 1) f next).ready o arc

        by_place : (k : ℕ) × (k < i + 1) × (slice_get plan k ≡ Some ready.0) → (g : Event) × Contains (take i plan) g × Starts o g
        by_place (k, before, there) = elim (cases_lt k i) [
          | inl less ↦ (ready.0, at_contains (take i plan) k ready.0 (taken_get plan i k ready.0 less there), ready.2)
          | inr ge ↦
              let same : k ≡ i = omega (arith, before, ge) in
              let event : ready.0 ≡ e = same_Some ready.0 e (sym there ∙ ap (slice_get plan) same ∙ at) in
              let own : op_of e ≡ o = sym (ap op_of event) ∙ same_op o ready.0 ready.2 in
              let step = longest_step node o (op_of f) arc.0 e.time f.time earliest.no_cycle arc.1 (subst (λ (p : Op). IsLongest node p e.time) own (longest_at node plan i e earliest at)) (longest_at node plan (i + 1) f earliest next) in
              absurd (omega (arith, step, lt))
        ]

    too_early : f.time < e.time → ⊥
    too_early lt = elim ((earliest.ordered i e at).first f (dropped_get plan i (i + 1) f (omega arith) next) (λ o arc. stands o lt arc)) [
      | inl same ↦ omega (arith, lt, ap (λ (g : Event). g.time) same)
      | inr before ↦ elim before [ inl less ↦ omega (arith, lt, less) | inr equal ↦ omega (arith, lt, equal.0) ]
    ]

-- times do not fall along an earliest plan
pub earliest_in_order : (node : Node) (plan : List Event) → IsEarliest node plan → IsNonDecreasingBy (λ e. e.time) plan
earliest_in_order node plan earliest = IsNonDecreasingBy-from_all_adjacent (λ e. e.time) plan
    (λ k d lt. rises node plan k (get_or plan k d) (get_or plan (k + 1) d) earliest (slice_get-get_or plan k d (omega (arith, lt))) (slice_get-get_or plan (k + 1) d lt))

pub times_in_order : (node : Node) (plan : List Event) (i j : ℕ) (e f : Event) → IsEarliest node plan → i ≤ j → slice_get plan i ≡ Some e → slice_get plan j ≡ Some f → e.time ≤ f.time
times_in_order node plan i j e f earliest le at there =
    let risen = earliest_in_order node plan earliest i j e le (slice_get_within plan j f there) in
    let first : (get_or plan i e).time ≡ e.time = ap (λ (g : Event). g.time) (get_or_from_slice_get plan i e e at) in
    let second : (get_or plan j e).time ≡ f.time = ap (λ (g : Event). g.time) (get_or_from_slice_get plan j f e there) in
    omega (arith, risen, first, second)

-- ---- it is one

-- the same event stands in both
also_there : (node : Node) (plan other : List Event) (i : ℕ) (e : Event) → IsEarliest node plan → IsEarliest node other → slice_get plan i ≡ Some e → (j : ℕ) × (slice_get other j ≡ Some e)
also_there node plan other i e earliest too at =
    let found = event_of node other (op_of e) too (forced_at node plan i e earliest at) in
    let own = same_op (op_of e) found.1 found.2.1 in
    let time = one_longest node (op_of e) found.1.time e.time (subst (λ (o : Op). IsLongest node o found.1.time) own (longest_at node other found.0 found.1 too found.2.0)) (longest_at node plan i e earliest at) in
    let same = same_events found.1 e time found.2.1.train found.2.1.operation in
    (found.0, found.2.0 ∙ ap (λ (g : Event). Some g) same)

pub not_before_itself : (e : Event) → ComesBefore e e → ⊥
not_before_itself e (inl lt) = omega (arith, lt)
not_before_itself e (inr (same, inl lt)) = omega (arith, lt)
not_before_itself e (inr (same, inr (train, lt))) = omega (arith, lt)

get_front : (stood rest : List Event) (j : ℕ) → j < length stood → slice_get (stood ++ rest) j ≡ slice_get stood j
get_front [] rest j lt = absurd (omega arith)
get_front (e ∷ stood) rest zero lt = refl
get_front (e ∷ stood) rest (suc j) lt = get_front stood rest j (omega (arith, lt))

get_joint : (stood : List Event) (e : Event) (rest : List Event) → slice_get (stood ++ e ∷ rest) (length stood) ≡ Some e
get_joint [] e rest = refl
get_joint (f ∷ stood) e rest = get_joint stood e rest

get_past : (stood rest : List Event) (j : ℕ) (e : Event) → length stood ≤ j → slice_get (stood ++ rest) j ≡ Some e → Contains rest e
get_past [] rest j e le at = at_contains rest j e at
get_past (f ∷ stood) rest zero e le at = absurd (omega arith)
get_past (f ∷ stood) rest (suc j) e le at = get_past stood rest j e (omega (arith, le)) at

take_front : (stood rest : List Event) → take (length stood) (stood ++ rest) ≡ stood
take_front [] rest = refl
take_front (e ∷ stood) rest = ap (λ (l : List Event). e ∷ l) (take_front stood rest)

drop_front : (stood rest : List Event) → drop (length stood) (stood ++ rest) ≡ rest
drop_front [] rest = refl
drop_front (e ∷ stood) rest = drop_front stood rest

-- an event that comes next in one is left in the other, behind the same front
left_in : (node : Node) (plan other stood : List Event) (e : Event) (rest left : List Event) → IsEarliest node plan → IsEarliest node other → plan ≡ stood ++ e ∷ rest → other ≡ stood ++ left → Contains left e
left_in node plan other stood e rest left earliest too is other_is = by_place (also_there node plan other (length stood) e earliest too own)
  where
    own : slice_get plan (length stood) ≡ Some e
    own = ap (λ (l : List Event). slice_get l (length stood)) is ∙ get_joint stood e rest

    by_place : (j : ℕ) × (slice_get other j ≡ Some e) → Contains left e
    by_place (j, at) = elim (cases_lt j (length stood)) [
      | inr ge ↦ get_past stood left j e ge (sym (ap (λ (l : List Event). slice_get l j) other_is) ∙ at)
      | inl lt ↦
          let there : slice_get plan j ≡ Some e =
          ap (λ (l : List Event). slice_get l j) is ∙ get_front stood (e ∷ rest) j lt ∙ sym (get_front stood left j lt) ∙ sym (ap (λ (l : List Event). slice_get l j) other_is) ∙ at in
          absurd (omega (arith, lt, one_position node plan j (length stood) e e earliest there own refl))
    ]

next_is : (node : Node) (plan stood : List Event) (e : Event) (rest : List Event) → IsEarliest node plan → plan ≡ stood ++ e ∷ rest → IsNext node stood (e ∷ rest) e
next_is node plan stood e rest earliest is =
    let own : slice_get plan (length stood) ≡ Some e = ap (λ (l : List Event). slice_get l (length stood)) is ∙ get_joint stood e rest in
    let front : take (length stood) plan ≡ stood = ap (take (length stood)) is ∙ take_front stood (e ∷ rest) in
    let back : drop (length stood) plan ≡ e ∷ rest = ap (drop (length stood)) is ∙ drop_front stood (e ∷ rest) in
    subst (λ (s : List Event). IsNext node s (e ∷ rest) e) front (subst (λ (l : List Event). IsNext node (take (length stood) plan) l e) back (earliest.ordered (length stood) e own))

nothing_in : (e : Event) → Contains [] e → ⊥
nothing_in e (k, lt, same) = omega arith

same_rest : (node : Node) (plan other : List Event) → IsEarliest node plan → IsEarliest node other → (stood rest left : List Event) → plan ≡ stood ++ rest → other ≡ stood ++ left → rest ≡ left
same_rest node plan other earliest too stood [] [] is other_is = refl
same_rest node plan other earliest too stood [] (f ∷ left) is other_is = absurd (nothing_in f (left_in node other plan stood f left [] too earliest other_is is))
same_rest node plan other earliest too stood (e ∷ rest) [] is other_is = absurd (nothing_in e (left_in node plan other stood e rest [] earliest too is other_is))
same_rest node plan other earliest too stood (e ∷ rest) (f ∷ left) is other_is =
    let first = next_is node plan stood e rest earliest is in
    let second = next_is node other stood f left too other_is in
    let f_left = left_in node other plan stood f left (e ∷ rest) too earliest other_is is in
    let e_left = left_in node plan other stood e rest (f ∷ left) earliest too is other_is in
    let same : e ≡ f = one_of e f (first.first f f_left second.ready) (second.first e e_left first.ready) in
    let later = same_rest node plan other earliest too (stood ++ e ∷ []) rest left (is ∙ sym (append_assoc stood (e ∷ []) rest))
    (other_is ∙ ap (λ (g : Event). stood ++ g ∷ left) (sym same) ∙ sym (append_assoc stood (e ∷ []) left)) in
    ap (λ (g : Event). g ∷ rest) same ∙ ap (λ (l : List Event). f ∷ l) later
  where
    one_of : (e f : Event) → (f ≡ e) ⊎ ComesBefore e f → (e ≡ f) ⊎ ComesBefore f e → e ≡ f
    one_of e f (inl same) two = sym same
    one_of e f (inr before) (inl same) = same
    one_of e f (inr before) (inr back) = absurd (not_before_itself e (comes_then e f e before back))

pub one_earliest : (node : Node) (plan other : List Event) → IsEarliest node plan → IsEarliest node other → plan ≡ other
one_earliest node plan other earliest too = same_rest node plan other earliest too [] plan other refl refl
