-- What the core keeps beside its state.
use Rattle.std.specs.Prelude.{◌≡◌, ◌⊎◌, ℕ, List, Option, Some, None, MatchOption, slice_get}
use Rattle.disp_model.specs.declared.plan.Event.{Event}
use Rattle.disp_model.specs.declared.entry.Entry.{Entry}
use Rattle.disp_model.specs.declared.entry.Entry.TheVariants.{Published}
use Rattle.disp_model.specs.declared.entry.Mark.{Mark}
use Rattle.disp_model.specs.declared.problem.Problem.{Problem}
use Rattle.disp_model.specs.declared.fixing.Fixing.{Fixing}
use Rattle.disp_model.specs.Valid.{IsValid}
use Rattle.disp_model.specs.Replay.{spent_on}
use Rattle.disp_model.specs.History.{changes_of, newest, last_plan, IsBestCost, mark_of}
use Rattle.fixing_editions.specs.Edition.{Edition}
use Rattle.dispatch_core.specs.States.{Core}

-- the cost of a plan, if there is one, where it is valid with these fixings, else none
abbrev pub IsCostUnder : Problem → List Fixing → Option (List Event × ℕ) → Option ℕ → Type 0
IsCostUnder problem fixings last cost =
    MatchOption last (cost ≡ None)
    (λ p. (IsValid problem fixings p.0 × (cost ≡ Some p.1))
    ⊎ ((IsValid problem fixings p.0 → ⊥) × (cost ≡ None)))

-- the last published plan stands in the entry of this place
pub record IsLastAt (history : List Entry) (place : ℕ) : Type 0 where
  pub edition : ℕ
  pub plan : List Event
  pub cost : ℕ
  pub there : slice_get history place ≡ Some (Published edition plan cost)
  pub last : last_plan history ≡ Some (plan, cost)

abbrev pub IsLastEntry : List Entry → Option ℕ → Type 0
IsLastEntry history None = last_plan history ≡ None
IsLastEntry history (Some place) = IsLastAt history place

-- the changes are those of the history, and so are the best cost, the mark and what is spent
pub record AreCountsKept (core : Core) (edition : Edition) (best : Option ℕ) (mark : Mark)
    (spent : ℕ) (last : Option ℕ) : Type 0 where
  pub problem : edition.problem ≡ core.problem
  pub changes : edition.changes ≡ changes_of core.history
  pub best_is : IsBestCost core.problem core.history best
  pub mark_is : mark ≡ mark_of (newest core.history) core.history
  pub spent_is : spent ≡ spent_on (newest core.history) core.history
  pub last_is : IsLastEntry core.history last
