-- In a plan whose runs are routes, an event has event_end among the events before another exactly where it ends before it.
use Rattle.std.proofs.Common.{◌≡◌, ℕ, ◌+◌, ◌<◌, ◌≤◌, List, [], ◌∷◌, ◌++◌, length, take, drop, map, Option, Some, None, refl, sym, ap, subst, ◌∙◌, arith, inl, inr}
use Rattle.std.specs.Prelude.{slice_get}
use Rattle.std.proofs.lemmas.Option.{none-some}
use Rattle.disp_model.specs.declared.plan.Event.{Event}
use Rattle.disp_model.specs.declared.train.Operation.{Operation}
use Rattle.disp_model.specs.declared.problem.Problem.{Problem}
use Rattle.disp_model.specs.Plan.{run_of, operations_of, first_of, ending, end_of, Ending}
use Rattle.disp_model.specs.Train.{next_of, duration_of, IsRoute, GoesOn, IsSuccessor}
use Rattle.disp_model.specs.Valid.{train_at}
use Rattle.disp_laws.proofs.Branching.{route_from, own_operations, operations_append}
use Rattle.disp_laws.proofs.Runs.{split_at}
use Rattle.solution_verifier.specs.Held.{event_end, ended_in, HasPassed}
use Rattle.solution_verifier.proofs.Nexts.{IsIn, IsPast, in_or_past, found_or_none, behind_parts, between_length}

-- the operations of a train around one of its events
pub operations_split : (t : ℕ) (plan : List Event) (i : ℕ) (e : Event) → slice_get plan i ≡ Some e → e.train ≡ t
    → operations_of t plan ≡ operations_of t (take i plan) ++ e.operation ∷ operations_of t (drop (i + 1) plan)
operations_split t plan i e at same =
    ap (operations_of t) (split_at plan i e at) ∙ operations_append t (take i plan) (e ∷ drop (i + 1) plan)
    ∙ ap (λ (l : List ℕ). operations_of t (take i plan) ++ l) (own_operations t e (drop (i + 1) plan) same)

pub goes_behind : (train : List Operation) (t : ℕ) (plan : List Event) (i : ℕ) (e : Event) → slice_get plan i ≡ Some e → e.train ≡ t → IsRoute train (operations_of t plan)
    → GoesOn train e.operation (operations_of t (drop (i + 1) plan))
goes_behind train t plan i e at same route =
    route_from train (operations_of t (take i plan)) e.operation (operations_of t (drop (i + 1) plan)) (subst (IsRoute train) (operations_split t plan i e at same) route)

no_successor : (train : List Operation) (o s : ℕ) → next_of train o ≡ [] → IsSuccessor train o s → ⊥
no_successor train o s none h = let within = (rw none at h).1 in omega (arith, within)

-- behind an exit its train has no event
exit_is_last : (train : List Operation) (o : ℕ) (run : List Event) → next_of train o ≡ [] → GoesOn train o (map (λ e. e.operation) run) → run ≡ []
exit_is_last train o [] none goes = refl
exit_is_last train o (f ∷ run) none goes = absurd (no_successor train o f.operation none goes.0)

-- behind any other it has one
other_is_not : (train : List Operation) (o s : ℕ) (next : List ℕ) (run : List Event) → next_of train o ≡ s ∷ next → GoesOn train o (map (λ e. e.operation) run) → run ≡ [] → ⊥
other_is_not train o s next [] more goes none = let same : s ∷ next ≡ [] = sym more ∙ goes.last in cc
other_is_not train o s next (f ∷ run) more goes none = cc

-- what both say of an event's end
abbrev Agrees : Ending → Option ℕ → ℕ → Type 0
Agrees end by_then j = (release time : ℕ) → ((end.position < j) × (end.time + release ≤ time) → HasPassed by_then release time) × (HasPassed by_then release time → (end.position < j) × (end.time + release ≤ time))

agrees_some : (end : Ending) (t j : ℕ) → end.time ≡ t → end.position < j → Agrees end (Some t) j
agrees_some end t j same before release time = (λ h. omega (arith, same, h.1), λ h. (before, omega (arith, same, h)))

agrees_none : (end : Ending) (j : ℕ) → j ≤ end.position → Agrees end None j
agrees_none end j late release time = (λ h. omega (arith, late, h.0), λ h. absurd h)

-- where a train's event stands whose end is asked for
record Asked (problem : Problem) (plan : List Event) (i j : ℕ) (e : Event) : Type 0 where
  there : slice_get plan i ≡ Some e
  order : i < j
  within : j ≤ length plan
  goes : GoesOn (train_at problem e.train) e.operation (operations_of e.train (drop (i + 1) plan))

agrees_exit : (problem : Problem) (plan : List Event) (i j : ℕ) (e : Event) → Asked problem plan i j e → next_of (train_at problem e.train) e.operation ≡ []
    → Agrees (end_of problem.trains plan i e) (Some (e.time + duration_of (train_at problem e.train) e.operation)) j
agrees_exit problem plan i j e asked exit =
    elim (found_or_none e.train (i + 1) (drop (i + 1) plan)) [
      | inl f ↦ absurd (let none : f.event ∷ f.run ≡ [] = sym f.run_is ∙ exit_is_last (train_at problem e.train) e.operation (run_of e.train (drop (i + 1) plan)) exit asked.goes in cc)
      | inr none ↦
          let train = train_at problem e.train in
          let end : end_of problem.trains plan i e ≡ record { position = i; time = e.time + duration_of train e.operation } = ap (ending train i e) none.1 in
          subst (λ (x : Ending). Agrees x (Some (e.time + duration_of train e.operation)) j) (sym end)
          (agrees_some (record { position = i; time = e.time + duration_of train e.operation }) (e.time + duration_of train e.operation) j refl asked.order)
    ]

agrees_in : (problem : Problem) (plan : List Event) (i j : ℕ) (e : Event) (s : ℕ) (next : List ℕ) → Asked problem plan i j e
    → IsIn e.train (i + 1) (drop (i + 1) (take j plan)) (drop j plan)
    → Agrees (end_of problem.trains plan i e) (event_end (s ∷ next) (e.time + duration_of (train_at problem e.train) e.operation) (run_of e.train (drop (i + 1) (take j plan)))) j
agrees_in problem plan i j e s next asked found =
    let train = train_at problem e.train in
    let own = e.time + duration_of train e.operation in
    let first : first_of e.train (i + 1) (drop (i + 1) plan) ≡ Some ((i + 1) + found.gap, found.event) = ap (first_of e.train (i + 1)) (behind_parts plan i j asked.order asked.within) ∙ found.first in
    let end : end_of problem.trains plan i e ≡ record { position = (i + 1) + found.gap; time = found.event.time } = ap (ending train i e) first in
    let before : (i + 1) + found.gap < j = omega (arith, found.within, between_length plan i j asked.order asked.within) in
    let made = agrees_some (record { position = (i + 1) + found.gap; time = found.event.time }) found.event.time j refl before in
    subst (λ (x : Ending). Agrees x (event_end (s ∷ next) own (run_of e.train (drop (i + 1) (take j plan)))) j) (sym end)
    (subst (λ (run : List Event). Agrees (record { position = (i + 1) + found.gap; time = found.event.time }) (event_end (s ∷ next) own run) j) (sym found.run_is) made)

agrees_past : (problem : Problem) (plan : List Event) (i j : ℕ) (e : Event) (s : ℕ) (next : List ℕ) → Asked problem plan i j e → next_of (train_at problem e.train) e.operation ≡ s ∷ next
    → IsPast e.train (i + 1) (drop (i + 1) (take j plan)) (drop j plan)
    → Agrees (end_of problem.trains plan i e) (event_end (s ∷ next) (e.time + duration_of (train_at problem e.train) e.operation) (run_of e.train (drop (i + 1) (take j plan)))) j
agrees_past problem plan i j e s next asked more past =
    let train = train_at problem e.train in
    let own = e.time + duration_of train e.operation in
    let parts = ap (first_of e.train (i + 1)) (behind_parts plan i j asked.order asked.within) ∙ past.first in
    let from : (i + 1) + length (drop (i + 1) (take j plan)) ≡ j = between_length plan i j asked.order asked.within in
    elim (found_or_none e.train ((i + 1) + length (drop (i + 1) (take j plan))) (drop j plan)) [
      | inl f ↦
          let end : end_of problem.trains plan i e ≡ record { position = f.place; time = f.event.time } = ap (ending train i e) (parts ∙ f.first) in
          let made = agrees_none (record { position = f.place; time = f.event.time }) j (omega (arith, f.from_on, from)) in
          subst (λ (x : Ending). Agrees x (event_end (s ∷ next) own (run_of e.train (drop (i + 1) (take j plan)))) j) (sym end)
          (subst (λ (run : List Event). Agrees (record { position = f.place; time = f.event.time }) (event_end (s ∷ next) own run) j) (sym past.none) made)
      | inr none ↦ absurd (other_is_not train e.operation s next (run_of e.train (drop (i + 1) plan)) more asked.goes (no_run (parts ∙ none.1)))
    ]
  where
    no_run : first_of e.train (i + 1) (drop (i + 1) plan) ≡ None → run_of e.train (drop (i + 1) plan) ≡ []
    no_run none = elim (found_or_none e.train (i + 1) (drop (i + 1) plan)) [ inl f ↦ absurd (none-some (f.place, f.event) (sym none ∙ f.first)) | inr h ↦ h.0 ]

agrees_at : (problem : Problem) (plan : List Event) (i j : ℕ) (e : Event) (next : List ℕ) → next_of (train_at problem e.train) e.operation ≡ next → Asked problem plan i j e
    → Agrees (end_of problem.trains plan i e) (event_end next (e.time + duration_of (train_at problem e.train) e.operation) (run_of e.train (drop (i + 1) (take j plan)))) j
agrees_at problem plan i j e [] is asked = agrees_exit problem plan i j e asked is
agrees_at problem plan i j e (s ∷ next) is asked =
    elim (in_or_past e.train (i + 1) (drop (i + 1) (take j plan)) (drop j plan)) [
      | inl h ↦ agrees_in problem plan i j e s next asked h
      | inr h ↦ agrees_past problem plan i j e s next asked is h
    ]

-- the release time has passed by then exactly where the event is released
pub agrees : (problem : Problem) (plan : List Event) (i j : ℕ) (e : Event) → slice_get plan i ≡ Some e → i < j → j ≤ length plan → IsRoute (train_at problem e.train) (operations_of e.train plan)
    → (release time : ℕ) → (((end_of problem.trains plan i e).position < j) × ((end_of problem.trains plan i e).time + release ≤ time) → HasPassed (ended_in problem (take j plan) i e) release time)
    × (HasPassed (ended_in problem (take j plan) i e) release time → ((end_of problem.trains plan i e).position < j) × ((end_of problem.trains plan i e).time + release ≤ time))
agrees problem plan i j e at lt within route =
    agrees_at problem plan i j e (next_of (train_at problem e.train) e.operation) refl
    (record { there = at; order = lt; within = within; goes = goes_behind (train_at problem e.train) e.train plan i e at refl route })
