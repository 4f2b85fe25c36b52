-- What is published keeps the core sound.
use Rattle.std.proofs.Common.{◌≡◌, ◌∙◌, ℕ, ◌-◌, ◌*◌, ◌≤◌, inl, inr, List, [], ◌∷◌, ◌++◌, refl, sym, ap, subst, arith, mul-le-mul_left}
use Rattle.std.specs.Prelude.{◌<◌, MatchOption, Bool, true, false, All, Option, Some, None, ◌==◌, ◌&&◌, if◌then◌else◌}
use Rattle.std.specs.Option.{option_map_or}
use Rattle.std.specs.List.{AllByRecursion}
use Rattle.std.proofs.lemmas.Bool.{cases_lt, le-leb, lt-leb}
use Rattle.std.proofs.lemmas.List.Elements.{recursion_from_All}
use Rattle.std.proofs.lemmas.List.Sums.{sum_by-le-sum_by}
use Rattle.std.proofs.lemmas.Option.{none-some, same_Some, some_pair_parts}
use Rattle.disp_model.specs.declared.entry.Entry.TheVariants.{Published}
use Rattle.disp_model.specs.declared.limits.TheConstants.{GREATEST_COST}
use Rattle.disp_model.specs.declared.plan.Event.{Event}
use Rattle.disp_model.specs.declared.problem.Problem.{Problem}
use Rattle.disp_model.specs.declared.train.Component.{Component}
use Rattle.disp_model.specs.WellFormed.{horizon, most_of}
use Rattle.disp_model.specs.Plan.{start_of}
use Rattle.disp_model.specs.Cost.{cost_at, cost_in, cost_of}
use Rattle.disp_model.specs.History.{mark_of}
use Rattle.disp_model.specs.Legal.{IsWorking, IsLegalPlan}
use Rattle.history_laws.proofs.Appended.{plan_more}
use Rattle.dispatch_core.specs.declared.event.CoreReply.{CoreReply}
use Rattle.dispatch_core.specs.declared.event.CoreReply.TheVariants as reply
use Rattle.dispatch_core.specs.Replies.{IsCurrent, IsBetter, IsPublish}
use Rattle.dispatch_core.specs.States.{Core, entered, HasFittingCost, IsSound}
use Rattle.dispatch_core.proofs.Noting.{entered_sound}

-- ---- what a plan within the horizon costs can be written

-- a start is the time of an event
start_within : (last : ℕ) (plan : List Event) (t o s : ℕ) → AllByRecursion (λ e. e.time ≤ last) plan → start_of plan t o ≡ Some s → s ≤ last
start_within last [] t o s within is = absurd (none-some s is)
start_within last (e ∷ plan) t o s within is = by (λ here. start_within last plan t o s within.1 here) ((e.train == t) && (e.operation == o)) is
  where
    by : (start_of plan t o ≡ Some s → s ≤ last) → (b : Bool) → (if b then Some e.time else start_of plan t o) ≡ Some s → s ≤ last
    by later true here = subst (λ (n : ℕ). n ≤ last) (same_Some e.time s here) within.0
    by later false here = later here

-- a component costs no more than at the last time
cost_within : (c : Component) (last : ℕ) (found : Option ℕ) → ((s : ℕ) → found ≡ Some s → s ≤ last) → option_map_or (cost_at c) found 0 ≤ most_of last c
cost_within c last None within = omega arith
cost_within c last (Some s) within =
    let le : s ≤ last = within s refl in
    let product : c.coeff * (s - c.threshold) ≤ c.coeff * last = mul-le-mul_left c.coeff (omega (arith, le)) in
    elim (cases_lt s c.threshold) [
      | inl lt ↦ rw (lt-leb c.threshold s lt) (omega (arith, product))
      | inr ge ↦ rw (le-leb c.threshold s ge) (omega (arith, product))
    ]

pub plan_cost_fits : (problem : Problem) (plan : List Event) → All (λ e. e.time ≤ horizon problem.trains) plan → cost_of problem.components plan ≤ GREATEST_COST
plan_cost_fits problem plan within =
    let last = horizon problem.trains in
    let times : AllByRecursion (λ e. e.time ≤ last) plan = recursion_from_All (λ (e : Event). e.time ≤ last) plan within in
    omega (
      arith,
      problem.well_formed.costs_fit,
      sum_by-le-sum_by (cost_in plan) (most_of last) problem.components
          (λ c. cost_within c last (start_of plan c.train c.operation) (λ s is. start_within last plan c.train c.operation s times is)),
    )

-- ---- publishing

-- the named edition is worked on
pub current_works : (core : Core) (edition : ℕ) → IsCurrent core edition → IsWorking core.history edition
current_works core edition is = record { newest_is = is.newest_is; working = ap (λ (n : ℕ). mark_of n core.history) is.newest_is ∙ is.working }

published_cost : (core : Core) (edition : ℕ) (plan : List Event) (cost : ℕ) → cost ≤ GREATEST_COST → HasFittingCost (core.history ++ Published edition plan cost ∷ [])
published_cost core edition plan cost fits other c is =
    let same = some_pair_parts plan other cost c (sym (plan_more core.history (Published edition plan cost)) ∙ is) in
    subst (λ (n : ℕ). n ≤ GREATEST_COST) same.1 fits

published_sound : (core : Core) (edition : ℕ) (plan : List Event) (cost : ℕ) → IsSound core → All (λ e. e.time ≤ horizon core.problem.trains) plan
    → IsCurrent core edition → IsBetter core plan cost → IsSound (entered core (Published edition plan cost))
published_sound core edition plan cost sound within current better =
    let legal : IsLegalPlan core.problem core.history edition plan cost = record {
      working = current_works core edition current;
      valid = better.valid;
      cost_is = sym better.cost_is;
      better = (better.best, better.best_is, below better.best better.below);
    } in
    entered_sound core (Published edition plan cost) (record { change = refl; growth = λ g. refl; splits = λ n. refl }) sound legal
    (published_cost core edition plan cost (subst (λ (n : ℕ). n ≤ GREATEST_COST) (sym better.cost_is) (plan_cost_fits core.problem plan within)))
  where
    below : (best : Option ℕ) → ((other : ℕ) → best ≡ Some other → cost < other) → MatchOption best (Unit {0}) (λ other. cost < other)
    below None less = tt
    below (Some other) less = less other refl

pub publishes_sound : (core : Core) (edition : ℕ) (plan : List Event) (told : CoreReply) (after : Core) → IsSound core
    → All (λ e. e.time ≤ horizon core.problem.trains) plan → IsPublish core edition plan told after → IsSound after
publishes_sound core edition plan (reply.Invalid fault) after sound within is = subst IsSound (sym is.2) sound
publishes_sound core edition plan (reply.NotBetter best) after sound within is = subst IsSound (sym is.2) sound
publishes_sound core edition plan (reply.Published cost) after sound within is = subst IsSound (sym is.2) (published_sound core edition plan cost sound within is.0 is.1)
publishes_sound core edition plan _ after sound within is = subst IsSound (sym is.1) sound
