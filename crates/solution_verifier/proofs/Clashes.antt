-- The first clash among events, kept as one event after another is compared with those behind it; and what it says of the plan.
use Rattle.std.proofs.Common.{◌≡◌, ℕ, zero, suc, ◌+◌, ◌-◌, ◌<◌, ◌≤◌, List, take, get_or, Option, Some, None, refl, sym, subst, ◌∙◌, arith, inl, inr}
use Rattle.std.specs.Prelude.{MatchOption, slice_get}
use Rattle.std.proofs.lemmas.Bool.{cases_lt}
use Rattle.std.proofs.lemmas.Option.{same_Some, slice_get_within, slice_get-get_or}
use Rattle.disp_model.specs.declared.plan.Event.{Event}
use Rattle.disp_model.specs.declared.train.Operation.{Operation}
use Rattle.disp_model.specs.declared.problem.Problem.{Problem}
use Rattle.disp_model.specs.Plan.{run_of}
use Rattle.disp_model.specs.Train.{IsExit}
use Rattle.disp_model.specs.Valid.{train_at}
use Rattle.solution_verifier.specs.declared.clash.Clash.{Clash}
use Rattle.solution_verifier.specs.Judged.{IsLast}
use Rattle.solution_verifier.specs.Held.{IsEventSound}
use Rattle.solution_verifier.specs.First.{IsFirstHeld, IsComplete}
use Rattle.solution_verifier.specs.Answered.{RisesUntil, LetsThrough, IsFirstHeldOf, IsLeastClash, IsFirstHeldClash, KeepsEventRules}
use Rattle.solution_verifier.specs.Rules.{time_rises}
use Rattle.solution_verifier.proofs.Holding.{take_one_more}

-- each event before a place lets each behind it pass, up to a bound
abbrev pub PassBefore : Problem → List Event → ℕ → ℕ → Type 0
PassBefore problem plan place limit = (h k : ℕ) → h < place → h < k → k < limit → LetsThrough problem plan h k

pub pass_one_more : (problem : Problem) (plan : List Event) (place limit : ℕ) → PassBefore problem plan place limit → ((k : ℕ) → place < k → k < limit → LetsThrough problem plan place k) → PassBefore problem plan (place + 1) limit
pass_one_more problem plan place limit before here h k less later bounded =
    elim (cases_lt h place) [
      | inl lt ↦ before h k lt later bounded
      | inr le ↦ let same : place ≡ h = omega (arith, le, less) in subst (λ (m : ℕ). LetsThrough problem plan m k) same (here k (omega (arith, later, same)) bounded)
    ]

pub pass_up_to : (problem : Problem) (plan : List Event) (place limit other : ℕ) → other ≤ limit → PassBefore problem plan place limit → PassBefore problem plan place other
pass_up_to problem plan place limit other lower before h k less later bounded = before h k less later (omega (arith, lower, bounded))

pub least_clash : (problem : Problem) (plan : List Event) (place limit bound : ℕ) (clash : Clash) → limit ≤ bound → PassBefore problem plan place limit → IsFirstHeldOf problem plan place limit clash → IsLeastClash problem plan bound clash.event clash
least_clash problem plan place limit bound clash within before held = record {
  clashes = held.clashes;
  event_is = refl;
  bounded = omega (arith, held.bounded, within);
  lesser = λ h less. before h clash.event (omega (arith, held.holder_is, less)) (omega (arith, held.clashes.order, less)) held.bounded;
}

-- times do not fall before the bound, where each event keeps its rules
rises_by : (problem : Problem) (plan : List Event) (bound : ℕ) → ((k : ℕ) → k < bound → KeepsEventRules problem plan k) → (n j : ℕ) (e f : Event) → j + n < bound → slice_get plan j ≡ Some e → slice_get plan (j + n) ≡ Some f → e.time ≤ f.time
rises_by problem plan bound rules zero j e f lt at_j at_k =
    let same : j + 0 ≡ j = omega arith in
    let one : e ≡ f = same_Some e f (sym at_j ∙ rw same at at_k) in
    rw one (omega arith)
rises_by problem plan bound rules (suc n) j e f lt at_j at_k =
    let m = j + n in
    let next : j + suc n ≡ m + 1 = omega arith in
    let there : slice_get plan (m + 1) ≡ Some f = rw next at at_k in
    let g = get_or plan m f in
    let at_m : slice_get plan m ≡ Some g = slice_get-get_or plan m f (omega (arith, slice_get_within plan (m + 1) f there)) in
    let step : g.time ≤ f.time = rules (m + 1) (omega (arith, lt)) f time_rises there g (take m plan, take_one_more plan m g at_m) in
    omega (arith, step, rises_by problem plan bound rules n j e g (omega (arith, lt)) at_j at_m)

pub rises_until : (problem : Problem) (plan : List Event) (bound : ℕ) → ((k : ℕ) → k < bound → KeepsEventRules problem plan k) → RisesUntil plan bound
rises_until problem plan bound rules j k e f le lt at_j at_k =
    let steps : j + (k - j) ≡ k = omega (arith, le) in
    let at : slice_get plan (j + (k - j)) ≡ Some f = rw steps at_k in
    rises_by problem plan bound rules (k - j) j e f (omega (arith, le, lt)) at_j at

pub sound_at : (problem : Problem) (plan : List Event) (k : ℕ) → KeepsEventRules problem plan k → ((h : ℕ) → h < k → LetsThrough problem plan h k) → IsEventSound problem plan k
sound_at problem plan k rules pass e at = record { rules = λ rule. rules e rule at; free = λ i d less there. pass i less d e there at }

pub clash_is_held : (problem : Problem) (plan : List Event) (bound : ℕ) (clash : Clash) → ((k : ℕ) → k < bound → KeepsEventRules problem plan k) → IsFirstHeldClash problem plan bound clash
    → IsFirstHeld problem plan clash.holder clash.event clash.resource
clash_is_held problem plan bound clash rules first = record {
  before = λ k less. sound_at problem plan k (rules k (omega (arith, less, first.bounded))) (λ h lt. first.earlier h k lt less);
  event = first.clashes.event;
  there = first.clashes.there;
  rules = λ rule. rules clash.event first.bounded first.clashes.event rule first.clashes.there;
  earlier = λ h c less at. first.lesser h less c first.clashes.event at first.clashes.there;
  order = first.clashes.order;
  holder = first.clashes.holder;
  holder_there = first.clashes.holder_there;
  held = first.clashes.held;
}

pub complete_at : (problem : Problem) (plan : List Event) (t : ℕ) (train : List Operation) (found : Option Event) → IsLast (run_of t plan) found → train ≡ train_at problem t
    → MatchOption found ⊥ (λ d. IsExit train d.operation) → IsComplete problem plan t
complete_at problem plan t train None last same h = absurd h
complete_at problem plan t train (Some d) last same h = (d, last, subst (λ (x : List Operation). IsExit x d.operation) same h)
