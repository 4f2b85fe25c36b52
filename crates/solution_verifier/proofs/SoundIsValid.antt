-- Where each event is sound and each train reaches its exit, the plan is valid but for its fixings.
use Rattle.std.proofs.Common.{◌≡◌, ℕ, ◌+◌, ◌<◌, ◌≤◌, List, [], ◌∷◌, ◌++◌, length, take, map, get_or, Option, Some, None, refl, sym, subst, ◌∙◌, arith, inl, inr}
use Rattle.std.specs.Prelude.{slice_get, slice_index_or, All, IsSome, IfSome, ◌≢◌}
use Rattle.std.specs.List.{Any}
use Rattle.std.specs.List.Sorted.{IsNonDecreasingBy}
use Rattle.std.proofs.lemmas.Option.{slice_get-get_or, slice_get_within, slice_get_cases, none-some}
use Rattle.std.proofs.lemmas.List.Sorted.{IsNonDecreasingBy-from_all_adjacent}
use Rattle.disp_model.specs.declared.plan.Event.{Event}
use Rattle.disp_model.specs.declared.train.Operation.{Operation}
use Rattle.disp_model.specs.declared.train.Listing.{Listing}
use Rattle.disp_model.specs.declared.fixing.Fixing.{Fixing}
use Rattle.disp_model.specs.declared.problem.Problem.{Problem}
use Rattle.disp_model.specs.Plan.{run_of, operations_of, end_of}
use Rattle.disp_model.specs.Train.{duration_of, IsRoute, IsEntry, IsSuccessor}
use Rattle.disp_model.specs.Valid.{train_at, operation_of, IsValid, MayStart, KeepApart}
use Rattle.disp_model.specs.Fixing.{IsMet}
use Rattle.disp_laws.proofs.Runs.{Spaced, lasts_from_runs}
use Rattle.solution_verifier.specs.Rules.{EndsWith, Rule, KeepsRule, train_there, operation_there, time_rises, first_is_entry, next_is_successor, from_lower, until_upper, lasts_its_duration}
use Rattle.solution_verifier.specs.Held.{IsEventSound, LetsBy, listings_at, HasPassed, ended_in}
use Rattle.solution_verifier.specs.First.{IsComplete}
use Rattle.solution_verifier.proofs.Holding.{take_one_more}
use Rattle.solution_verifier.proofs.Ways.{IsWay, run_induction, way_step, way_out, spaced_step}
use Rattle.solution_verifier.proofs.Agreed.{agrees}

abbrev pub AllSound : Problem → List Event → Type 0
AllSound problem plan = (k : ℕ) → IsEventSound problem plan k

abbrev pub AllComplete : Problem → List Event → Type 0
AllComplete problem plan = (t : ℕ) → t < length problem.trains → IsComplete problem plan t

-- what holds of each event at its position holds of all
all_from : (P : Event → Type 0) (plan : List Event) → ((k : ℕ) (e : Event) → slice_get plan k ≡ Some e → P e) → All P plan
all_from P plan each k d lt = each k (get_or plan k d) (slice_get-get_or plan k d lt)

rule_at : (problem : Problem) (plan : List Event) → AllSound problem plan → (k : ℕ) (e : Event) → slice_get plan k ≡ Some e → (rule : Rule) → KeepsRule problem (take k plan) e rule
rule_at problem plan sound k e at rule = (sound k e at).rules rule

there_is_some : (train : List Operation) (o : ℕ) (found : Option Operation) → slice_get train o ≡ found → o < length train → IsSome found
there_is_some train o (Some p) is lt = refl
there_is_some train o None is lt =
    elim (slice_get_cases train o).1 [
      | inl h ↦ absurd (none-some h.0 (sym is ∙ h.2))
      | inr h ↦ absurd (omega (arith, lt, h.0))
    ]

named : (problem : Problem) (plan : List Event) → AllSound problem plan → All (λ e. IsSome (operation_of problem e)) plan
named problem plan sound = all_from (λ e. IsSome (operation_of problem e)) plan
    (λ k e at. there_is_some (train_at problem e.train) e.operation (operation_of problem e) refl (rule_at problem plan sound k e at operation_there))

in_order : (problem : Problem) (plan : List Event) → AllSound problem plan → IsNonDecreasingBy (λ e. e.time) plan
in_order problem plan sound = IsNonDecreasingBy-from_all_adjacent (λ e. e.time) plan
    (λ k d lt.
    let first = get_or plan k d in
    let second = get_or plan (k + 1) d in
    let at : slice_get plan k ≡ Some first = slice_get-get_or plan k d (omega (arith, lt)) in
    let next : slice_get plan (k + 1) ≡ Some second = slice_get-get_or plan (k + 1) d lt in
    rule_at problem plan sound (k + 1) second next time_rises first (take k plan, take_one_more plan k first at))

-- a rule of the event's own train, at a train that it is of
way : (problem : Problem) (plan : List Event) (t : ℕ) → AllSound problem plan → IsWay (train_at problem t) (run_of t plan)
way problem plan t sound = run_induction t plan (IsWay (train_at problem t)) tt
    (λ k e at same before. way_step (train_at problem t) (run_of t (take k plan)) e
    (subst (λ (u : ℕ). run_of u (take k plan) ≡ [] → IsEntry (train_at problem u) e.operation) same (rule_at problem plan sound k e at first_is_entry))
    (subst (λ (u : ℕ). (d : Event) → EndsWith (run_of u (take k plan)) d → IsSuccessor (train_at problem u) d.operation e.operation) same (rule_at problem plan sound k e at next_is_successor))
    before)

spaced : (problem : Problem) (plan : List Event) (t : ℕ) → AllSound problem plan → Spaced (train_at problem t) (run_of t plan)
spaced problem plan t sound = run_induction t plan (Spaced (train_at problem t)) tt
    (λ k e at same before. spaced_step (train_at problem t) (run_of t (take k plan)) e
    (subst (λ (u : ℕ). (d : Event) → EndsWith (run_of u (take k plan)) d → d.time + duration_of (train_at problem u) d.operation ≤ e.time) same (rule_at problem plan sound k e at lasts_its_duration))
    before)

route : (problem : Problem) (plan : List Event) → AllSound problem plan → AllComplete problem plan → (t : ℕ) → t < length problem.trains → IsRoute (train_at problem t) (operations_of t plan)
route problem plan sound complete t lt =
    let ends = complete t lt in
    let at : run_of t plan ≡ ends.1.0 ++ ends.0 ∷ [] = ends.1.1 in
    subst (λ (run : List Event). IsRoute (train_at problem t) (map (λ e. e.operation) run)) (sym at)
    (way_out (train_at problem t) ends.1.0 ends.0 (subst (IsWay (train_at problem t)) at (way problem plan t sound)) ends.2)

window_at : (problem : Problem) (e : Event) (found : Option Operation) → operation_of problem e ≡ found
    → ((o : Operation) → operation_of problem e ≡ Some o → o.lower ≤ e.time) → ((o : Operation) → operation_of problem e ≡ Some o → IfSome o.upper (λ u. e.time ≤ u)) → IfSome found (λ o. MayStart o e.time)
window_at problem e None is lower upper = tt
window_at problem e (Some o) is lower upper = record { lower = lower o is; upper = upper o is }

windows : (problem : Problem) (plan : List Event) → AllSound problem plan → All (λ e. IfSome (operation_of problem e) (λ o. MayStart o e.time)) plan
windows problem plan sound = all_from (λ e. IfSome (operation_of problem e) (λ o. MayStart o e.time)) plan
    (λ k e at. window_at problem e (operation_of problem e) refl (rule_at problem plan sound k e at from_lower) (rule_at problem plan sound k e at until_upper))

lasting : (problem : Problem) (plan : List Event) (i : ℕ) (e : Event) (found : Option Operation) → operation_of problem e ≡ found
    → e.time + duration_of (train_at problem e.train) e.operation ≤ (end_of problem.trains plan i e).time → IfSome found (λ o. e.time + o.min ≤ (end_of problem.trains plan i e).time)
lasting problem plan i e None is lasts = tt
lasting problem plan i e (Some o) is lasts = rw is at lasts

durations : (problem : Problem) (plan : List Event) → AllSound problem plan → (i : ℕ) (e : Event) → slice_get plan i ≡ Some e → IfSome (operation_of problem e) (λ o. e.time + o.min ≤ (end_of problem.trains plan i e).time)
durations problem plan sound i e at =
    lasting problem plan i e (operation_of problem e) refl (lasts_from_runs problem.trains plan (λ t. spaced problem plan t sound) i e at)

-- what an operation lists, where the event names it
listed : (problem : Problem) (e : Event) (o : Operation) → operation_of problem e ≡ Some o → listings_at problem e ≡ o.listings
listed problem e o is = rw is refl

apart : (problem : Problem) (plan : List Event) → AllSound problem plan → AllComplete problem plan → (i j : ℕ) (e f : Event) → i < j → slice_get plan i ≡ Some e → slice_get plan j ≡ Some f → e.train ≢ f.train → KeepApart problem plan i e j f
apart problem plan sound complete i j e f lt at_i at_j trains o p is_o is_p =
    let pass : All (LetsBy problem (take j plan) i e f) (listings_at problem e) = (sound j f at_j).free i e lt at_i trains in
    let pass_o : All (LetsBy problem (take j plan) i e f) o.listings = subst (λ (ls : List Listing). All (LetsBy problem (take j plan) i e f) ls) (listed problem e o is_o) pass in
    let there : e.train < length problem.trains = rule_at problem plan sound i e at_i train_there in
    let within : j < length plan = slice_get_within plan j f at_j in
    λ k l inside shared.
    let by : HasPassed (ended_in problem (take j plan) i e) (slice_index_or o.listings k l).release f.time =
    pass_o k l inside (subst (λ (ls : List Listing). Any (λ m. m.resource ≡ (slice_index_or o.listings k l).resource) ls) (sym (listed problem f p is_p)) shared) in
    let free = (agrees problem plan i j e at_i lt (omega (arith, within)) (route problem plan sound complete e.train there) (slice_index_or o.listings k l).release f.time).1 by in
    record { position = free.0; time = free.1 }

pub sound_is_valid : (problem : Problem) (plan : List Event) → AllSound problem plan → AllComplete problem plan → IsValid problem [] plan
sound_is_valid problem plan sound complete = record {
  named = named problem plan sound;
  in_order = in_order problem plan sound;
  routes = route problem plan sound complete;
  windows = windows problem plan sound;
  durations = durations problem plan sound;
  apart = apart problem plan sound complete;
  met = λ k d inside. absurd (omega (arith, inside));
}

pub valid_with : (problem : Problem) (fixings : List Fixing) (plan : List Event) → IsValid problem [] plan → All (IsMet plan) fixings → IsValid problem fixings plan
valid_with problem fixings plan valid met = record {
  named = valid.named;
  in_order = valid.in_order;
  routes = valid.routes;
  windows = valid.windows;
  durations = valid.durations;
  apart = valid.apart;
  met = met;
}

pub valid_without : (problem : Problem) (fixings : List Fixing) (plan : List Event) → IsValid problem fixings plan → IsValid problem [] plan
valid_without problem fixings plan valid = record {
  named = valid.named;
  in_order = valid.in_order;
  routes = valid.routes;
  windows = valid.windows;
  durations = valid.durations;
  apart = valid.apart;
  met = λ k d inside. absurd (omega (arith, inside));
}
