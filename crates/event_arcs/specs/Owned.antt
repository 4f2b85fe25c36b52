-- The fixings and the decisions of each train, apart from those of others.
use Rattle.std.specs.Prelude.{◌≡◌, ◌≢◌, ◌↔◌, ℕ, ◌<◌, List, [], ◌∷◌, ◌++◌, All, Option, Some, None, length, slice_index_or}
use Rattle.disp_model.specs.declared.fixing.Fixing.{Fixing}
use Rattle.disp_model.specs.declared.fixing.Fixing.TheVariants.{Started, Chosen, NotBefore}
use Rattle.disp_model.specs.declared.decision.Decision.{Decision}
use Rattle.disp_model.specs.declared.decision.Decision.TheVariants.{Go, First, Run, Skip}
use Rattle.disp_model.specs.Routes.{AgreesWithFixing, AgreesWithDecision}
use Rattle.event_arcs.specs.declared.owns.Own.{Own}

abbrev pub train_of_fixing : Fixing → ℕ
train_of_fixing (Started t o time) = t
train_of_fixing (Chosen t o next) = t
train_of_fixing (NotBefore t o time) = t

-- the train whose routes a decision is about
abbrev pub train_of_decision : Decision → Option ℕ
train_of_decision (Go o next) = Some o.train
train_of_decision (First a b) = None
train_of_decision (Run o) = Some o.train
train_of_decision (Skip o) = Some o.train

abbrev pub own_at : List Own → ℕ → Own
own_at owns t = slice_index_or owns t (record { fixings = []; decisions = [] })

-- the fixing's train has one fixing more, if it is there
pub record TakesFixing (fixing : Fixing) (old new : List Own) : Type 0 where
  pub long : length new ≡ length old
  pub own : train_of_fixing fixing < length old
      → (own_at new (train_of_fixing fixing)).fixings ≡
      (own_at old (train_of_fixing fixing)).fixings ++ fixing ∷ []
  pub others : (t : ℕ) → t ≢ train_of_fixing fixing
      → (own_at new t).fixings ≡ (own_at old t).fixings
  pub decisions : (t : ℕ) → (own_at new t).decisions ≡ (own_at old t).decisions

-- the decision's train has one decision more, if it is there
pub record TakesDecision (decision : Decision) (old new : List Own) : Type 0 where
  pub long : length new ≡ length old
  pub own : (t : ℕ) → t < length old → train_of_decision decision ≡ Some t
      → (own_at new t).decisions ≡ (own_at old t).decisions ++ decision ∷ []
  pub others : (t : ℕ) → train_of_decision decision ≢ Some t
      → (own_at new t).decisions ≡ (own_at old t).decisions
  pub fixings : (t : ℕ) → (own_at new t).fixings ≡ (own_at old t).fixings

-- a train's routes agree with all fixings and decisions exactly where they agree with its own
pub record AreByTrain (fixings : List Fixing) (decisions : List Decision) (owns : List Own)
    : Type 0 where
  pub of_fixings : (t : ℕ) (route : List ℕ) → t < length owns
      → All (AgreesWithFixing t route) fixings
      ↔ All (AgreesWithFixing t route) (own_at owns t).fixings
  pub of_decisions : (t : ℕ) (route : List ℕ) → t < length owns
      → All (AgreesWithDecision t route) decisions
      ↔ All (AgreesWithDecision t route) (own_at owns t).decisions
