-- In a valid plan each event is sound, and each train reaches its exit.
use Rattle.std.proofs.Common.{◌≡◌, ℕ, ◌+◌, ◌<◌, ◌≤◌, List, [], ◌∷◌, ◌++◌, length, take, drop, map, get_or, Option, Some, None, refl, sym, ap, subst, ◌∙◌, arith, inl, inr}
use Rattle.std.specs.Prelude.{slice_get, slice_index_or, All, IsSome, IfSome}
use Rattle.std.specs.List.{Any}
use Rattle.std.proofs.lemmas.Bool.{false≢true}
use Rattle.std.proofs.lemmas.Option.{slice_get-get_or, slice_get_within, get_or_from_slice_get}
use Rattle.std.proofs.lemmas.List.{map-append, length_push, length-take-le, get_or-take}
use Rattle.disp_model.specs.declared.plan.Event.{Event}
use Rattle.disp_model.specs.declared.train.Operation.{Operation}
use Rattle.disp_model.specs.declared.train.Listing.{Listing}
use Rattle.disp_model.specs.declared.fixing.Fixing.{Fixing}
use Rattle.disp_model.specs.declared.problem.Problem.{Problem}
use Rattle.disp_model.specs.Plan.{run_of, operations_of}
use Rattle.disp_model.specs.Train.{duration_of, IsRoute, IsEntry, IsSuccessor, GoesOn}
use Rattle.disp_model.specs.Valid.{train_at, operation_of, IsValid, MayStart, KeepApart}
use Rattle.disp_laws.proofs.Branching.{named_train, route_from}
use Rattle.disp_laws.proofs.Runs.{Spaced}
use Rattle.disp_laws.proofs.Positions.{named_at, valid_spaced}
use Rattle.solution_verifier.specs.Rules.{EndsWith, Rule, KeepsRule, train_there, operation_there, time_rises, first_is_entry, next_is_successor, from_lower, until_upper, lasts_its_duration}
use Rattle.solution_verifier.specs.Held.{IsEventSound, LetsBy, listings_at}
use Rattle.solution_verifier.specs.First.{IsComplete}
use Rattle.solution_verifier.proofs.Ends.{run_split}
use Rattle.solution_verifier.proofs.Ways.{end_or_none}
use Rattle.solution_verifier.proofs.Agreed.{agrees, operations_split}

some_is_there : (train : List Operation) (o : ℕ) (found : Option Operation) → slice_get train o ≡ found → IsSome found → o < length train
some_is_there train o None is some = absurd (false≢true some)
some_is_there train o (Some p) is some = slice_get_within train o p is

-- the last event before a position stands there
end_before : (plan : List Event) (j : ℕ) (d : Event) → j ≤ length plan → EndsWith (take j plan) d → (i : ℕ) × (i < j) × (slice_get plan i ≡ Some d)
end_before plan j d within (front, is) =
    let counted : length (take j plan) ≡ length front + 1 = ap length is ∙ length_push front d in
    let place : length front + 1 ≡ j = omega (arith, counted, length-take-le j plan within) in
    let lt : length front < j = omega (arith, place) in
    let there : get_or (take j plan) (length front) d ≡ d = ap (λ (l : List Event). get_or l (length front) d) is ∙ behind front d in
    (length front, lt, slice_get-get_or plan (length front) d (omega (arith, lt, within)) ∙ ap (λ (x : Event). Some x) (sym (get_or-take j plan (length front) d lt) ∙ there))
  where
    behind : (front : List Event) (d : Event) → get_or (front ++ d ∷ []) (length front) d ≡ d
    behind [] d = refl
    behind (f ∷ front) d = behind front d

rises : (problem : Problem) (fixings : List Fixing) (plan : List Event) (j : ℕ) (e : Event) → IsValid problem fixings plan → slice_get plan j ≡ Some e → (d : Event) → EndsWith (take j plan) d → d.time ≤ e.time
rises problem fixings plan j e valid at d ends =
    let within : j < length plan = slice_get_within plan j e at in
    let before = end_before plan j d (omega (arith, within)) ends in
    let i = before.0 in
    let lt : i < j = before.1 in
    let order : (get_or plan i e).time ≤ (get_or plan j e).time = valid.in_order i j e (omega (arith, lt)) within in
    let first : get_or plan i e ≡ d = get_or_from_slice_get plan i d e before.2 in
    let second : get_or plan j e ≡ e = get_or_from_slice_get plan j e e at in
    subst (λ (x : Event). x.time ≤ e.time) first (subst (λ (x : Event). (get_or plan i e).time ≤ x.time) second order)

-- the route through an event
route_split : (problem : Problem) (fixings : List Fixing) (plan : List Event) (j : ℕ) (e : Event) → IsValid problem fixings plan → slice_get plan j ≡ Some e
    → IsRoute (train_at problem e.train) (map (λ f. f.operation) (run_of e.train (take j plan)) ++ e.operation ∷ operations_of e.train (drop (j + 1) plan))
route_split problem fixings plan j e valid at =
    let there : e.train < length problem.trains = named_train problem e (named_at problem fixings plan j e valid at) in
    subst (IsRoute (train_at problem e.train)) (operations_split e.train plan j e at refl) (valid.routes e.train there)

entry : (problem : Problem) (fixings : List Fixing) (plan : List Event) (j : ℕ) (e : Event) → IsValid problem fixings plan → slice_get plan j ≡ Some e → run_of e.train (take j plan) ≡ [] → IsEntry (train_at problem e.train) e.operation
entry problem fixings plan j e valid at none =
    (subst (λ (run : List Event). IsRoute (train_at problem e.train) (map (λ f. f.operation) run ++ e.operation ∷ operations_of e.train (drop (j + 1) plan))) none (route_split problem fixings plan j e valid at)).0

successor_in : (train : List Operation) (front : List Event) (d : Event) (o : ℕ) (rest : List ℕ) → IsRoute train (map (λ f. f.operation) (front ++ d ∷ []) ++ o ∷ rest) → IsSuccessor train d.operation o
successor_in train [] d o rest route = route.1.0
successor_in train (f ∷ front) d o rest route = further f.operation front route.1
  where
    further : (p : ℕ) (front : List Event) → GoesOn train p (map (λ f. f.operation) (front ++ d ∷ []) ++ o ∷ rest) → IsSuccessor train d.operation o
    further p [] goes = goes.1.0
    further p (g ∷ front) goes = further g.operation front goes.1

successor : (problem : Problem) (fixings : List Fixing) (plan : List Event) (j : ℕ) (e : Event) → IsValid problem fixings plan → slice_get plan j ≡ Some e → (d : Event) → EndsWith (run_of e.train (take j plan)) d → IsSuccessor (train_at problem e.train) d.operation e.operation
successor problem fixings plan j e valid at d (front, is) =
    successor_in (train_at problem e.train) front d e.operation (operations_of e.train (drop (j + 1) plan))
    (subst (λ (run : List Event). IsRoute (train_at problem e.train) (map (λ f. f.operation) run ++ e.operation ∷ operations_of e.train (drop (j + 1) plan))) is (route_split problem fixings plan j e valid at))

lasts_in : (train : List Operation) (front : List Event) (d e : Event) (rest : List Event) → Spaced train ((front ++ d ∷ []) ++ e ∷ rest) → d.time + duration_of train d.operation ≤ e.time
lasts_in train [] d e rest spaced = spaced.0
lasts_in train (f ∷ []) d e rest spaced = spaced.1.0
lasts_in train (f ∷ g ∷ front) d e rest spaced = lasts_in train (g ∷ front) d e rest spaced.1

lasts : (problem : Problem) (fixings : List Fixing) (plan : List Event) (j : ℕ) (e : Event) → IsValid problem fixings plan → slice_get plan j ≡ Some e → (d : Event) → EndsWith (run_of e.train (take j plan)) d
    → d.time + duration_of (train_at problem e.train) d.operation ≤ e.time
lasts problem fixings plan j e valid at d (front, is) =
    let parts : run_of e.train plan ≡ (front ++ d ∷ []) ++ e ∷ run_of e.train (drop (j + 1) plan) =
    run_split e.train plan j e at refl ∙ ap (λ (l : List Event). l ++ e ∷ run_of e.train (drop (j + 1) plan)) is in
    lasts_in (train_at problem e.train) front d e (run_of e.train (drop (j + 1) plan)) (subst (Spaced (train_at problem e.train)) parts (valid_spaced problem fixings plan e.train valid))

window : (problem : Problem) (fixings : List Fixing) (plan : List Event) (j : ℕ) (e : Event) → IsValid problem fixings plan → slice_get plan j ≡ Some e → (o : Operation) → operation_of problem e ≡ Some o → MayStart o e.time
window problem fixings plan j e valid at o is =
    let here : IfSome (operation_of problem e) (λ p. MayStart p e.time) =
    subst (λ (x : Event). IfSome (operation_of problem x) (λ p. MayStart p x.time)) (get_or_from_slice_get plan j e e at) (valid.windows j e (slice_get_within plan j e at)) in
    rw is at here

rules : (problem : Problem) (fixings : List Fixing) (plan : List Event) (j : ℕ) (e : Event) → IsValid problem fixings plan → slice_get plan j ≡ Some e → (rule : Rule) → KeepsRule problem (take j plan) e rule
rules problem fixings plan j e valid at train_there = named_train problem e (named_at problem fixings plan j e valid at)
rules problem fixings plan j e valid at operation_there = some_is_there (train_at problem e.train) e.operation (operation_of problem e) refl (named_at problem fixings plan j e valid at)
rules problem fixings plan j e valid at time_rises = rises problem fixings plan j e valid at
rules problem fixings plan j e valid at first_is_entry = entry problem fixings plan j e valid at
rules problem fixings plan j e valid at next_is_successor = successor problem fixings plan j e valid at
rules problem fixings plan j e valid at from_lower = λ o is. (window problem fixings plan j e valid at o is).lower
rules problem fixings plan j e valid at until_upper = λ o is. (window problem fixings plan j e valid at o is).upper
rules problem fixings plan j e valid at lasts_its_duration = lasts problem fixings plan j e valid at

-- where two events keep apart, the first lets the other pass
pass_at : (problem : Problem) (plan : List Event) (i j : ℕ) (d e : Event) (found other : Option Operation) → operation_of problem d ≡ found → operation_of problem e ≡ other → IsSome found → IsSome other
    → slice_get plan i ≡ Some d → i < j → j ≤ length plan → IsRoute (train_at problem d.train) (operations_of d.train plan) → KeepApart problem plan i d j e → All (LetsBy problem (take j plan) i d e) (listings_at problem d)
pass_at problem plan i j d e None other is_d is_e some_d some_e at lt within route apart = absurd (false≢true some_d)
pass_at problem plan i j d e (Some o) None is_d is_e some_d some_e at lt within route apart = absurd (false≢true some_e)
pass_at problem plan i j d e (Some o) (Some p) is_d is_e some_d some_e at lt within route apart =
    let mine : listings_at problem d ≡ o.listings = rw is_d refl in
    let theirs : listings_at problem e ≡ p.listings = rw is_e refl in
    let each : All (LetsBy problem (take j plan) i d e) o.listings = λ k l inside shared.
    let free = apart o p is_d is_e k l inside (subst (λ (ls : List Listing). Any (λ m. m.resource ≡ (slice_index_or o.listings k l).resource) ls) theirs shared) in
    (agrees problem plan i j d at lt within route (slice_index_or o.listings k l).release e.time).0 (free.position, free.time) in
    subst (λ (ls : List Listing). All (LetsBy problem (take j plan) i d e) ls) (sym mine) each

pub valid_is_sound : (problem : Problem) (fixings : List Fixing) (plan : List Event) → IsValid problem fixings plan → (j : ℕ) → IsEventSound problem plan j
valid_is_sound problem fixings plan valid j e at = record {
  rules = rules problem fixings plan j e valid at;
  free = λ i d lt there trains.
      let within : j < length plan = slice_get_within plan j e at in
      let some_d = named_at problem fixings plan i d valid there in
      pass_at problem plan i j d e (operation_of problem d) (operation_of problem e) refl refl some_d (named_at problem fixings plan j e valid at)
      there lt (omega (arith, within)) (valid.routes d.train (named_train problem d some_d)) (valid.apart i j d e lt there at trains);
}

pub valid_is_complete : (problem : Problem) (fixings : List Fixing) (plan : List Event) → IsValid problem fixings plan → (t : ℕ) → t < length problem.trains → IsComplete problem plan t
valid_is_complete problem fixings plan valid t lt =
    elim (end_or_none (run_of t plan)) [
      | inl none ↦ absurd (subst (λ (run : List Event). IsRoute (train_at problem t) (map (λ e. e.operation) run)) none (valid.routes t lt))
      | inr ends ↦
          let at : run_of t plan ≡ ends.1.0 ++ ends.0 ∷ [] = ends.1.1 in
          let ops : operations_of t plan ≡ map (λ e. e.operation) ends.1.0 ++ ends.0.operation ∷ [] = ap (map (λ e. e.operation)) at ∙ map-append (λ e. e.operation) ends.1.0 (ends.0 ∷ []) in
          (ends.0, ends.1, route_from (train_at problem t) (map (λ e. e.operation) ends.1.0) ends.0.operation [] (subst (IsRoute (train_at problem t)) ops (valid.routes t lt)))
    ]
