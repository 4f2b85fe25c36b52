-- A problem with its accepted changes, and what is kept of them.
use Rattle.std.specs.Prelude.{◌≡◌, ℕ, ◌+◌, ◌-◌, ◌<◌, ◌≤◌, true, false, List, [], ◌∷◌, ◌++◌, length, Option, Some, None, slice_get, slice_set, slice_index_or}
use Rattle.disp_model.specs.declared.fixing.Fixing.{Fixing}
use Rattle.disp_model.specs.declared.fixing.Change.{Change}
use Rattle.disp_model.specs.declared.fixing.Change.TheVariants.{Fix, Withdraw}
use Rattle.disp_model.specs.declared.problem.Problem.{Problem}
use Rattle.disp_model.specs.declared.limits.TheConstants.{MOST_CHANGES}
use Rattle.disp_model.specs.declared.reply.Reply.{Reply}
use Rattle.disp_model.specs.declared.reply.Reply.TheVariants.{Accepted, Known, Refused}
use Rattle.disp_model.specs.Changes.{numbered_standing, standing_of, withdrawn_from}
use Rattle.disp_model.specs.Replies.{IsEdition}
use Rattle.fixing_editions.specs.declared.kept.Kept.{Kept}
use Rattle.fixing_editions.specs.declared.train_fixings.Numbered.{Numbered}
use Rattle.fixing_editions.specs.Own.{train_of, own_of, without}

-- a problem with the changes that are accepted, in order
pub record Edition : Type 0 where
  pub problem : Problem
  pub changes : List Change

-- with these changes in place of its own
abbrev pub with_changes : Edition → List Change → Edition
with_changes edition changes = record { problem = edition.problem; changes = changes }

-- the changes after a reply: an accepted one is added at the end, and nothing else changes them
abbrev pub changes_after : List Change → Change → Reply → List Change
changes_after changes change (Accepted number) = changes ++ change ∷ []
changes_after changes change (Known number) = changes
changes_after changes change (Refused why) = changes

-- each train's list has its own fixings that stand
abbrev pub AreOwn : List Change → List (List Numbered) → Type 0
AreOwn changes by_train =
    (t : ℕ) → t < length by_train → slice_index_or by_train t [] ≡ own_of t
    (numbered_standing changes)

-- at each place stands by which change the one of this place was taken back, if it was
pub record AreWithdrawn (changes : List Change) (withdrawn : List (Option ℕ)) : Type 0 where
  pub long : length withdrawn ≡ length changes
  pub each : (i : ℕ) (by : Option ℕ) → slice_get withdrawn i ≡ Some by
      → withdrawn_from (i + 1) 1 changes ≡ by

-- the fixing that a change leaves standing, if it is taken back by this one or by none
abbrev pub left_standing : Change → Option ℕ → Option Fixing
left_standing (Fix fixing) None = Some fixing
left_standing (Fix fixing) (Some by) = None
left_standing (Withdraw number) by = None

-- what is kept agrees with the changes, which are an edition's
pub record IsKeptOf (problem : Problem) (changes : List Change) (kept : Kept) : Type 0 where
  pub edition : IsEdition problem changes
  pub fits : length changes ≤ MOST_CHANGES
  pub withdrawn : AreWithdrawn changes kept.withdrawn.items
  pub long : length kept.by_train.items ≡ length problem.trains
  pub own : AreOwn changes kept.by_train.items
  pub stands : kept.stale ≡ false → kept.standing.items ≡ standing_of changes
  pub room : length (standing_of changes) ≤ length kept.standing.items

-- all that is kept is as it was
pub record IsAsBefore (old new : Kept) : Type 0 where
  pub withdrawn : new.withdrawn.items ≡ old.withdrawn.items
  pub by_train : new.by_train.items ≡ old.by_train.items
  pub standing : new.standing.items ≡ old.standing.items
  pub stale : new.stale ≡ old.stale

-- a fixing is entered as the change of a number
pub record EntersFixing (number : ℕ) (fixing : Fixing) (old new : Kept) : Type 0 where
  pub withdrawn : new.withdrawn.items ≡ old.withdrawn.items ++ None ∷ []
  pub by_train :
      new.by_train.items
      ≡ slice_set old.by_train.items (train_of fixing)
      (slice_index_or old.by_train.items (train_of fixing) []
      ++ record { number = number; fixing = fixing } ∷ [])
  pub standing : new.standing.items ≡ old.standing.items ++ fixing ∷ []
  pub stale : new.stale ≡ old.stale

-- the fixing of a number is taken back by the change of another number
pub record TakesBack (number taken : ℕ) (fixing : Fixing) (old new : Kept) : Type 0 where
  pub withdrawn : new.withdrawn.items ≡ slice_set (old.withdrawn.items ++ None ∷ []) (taken - 1)
      (Some number)
  pub by_train :
      new.by_train.items
      ≡ slice_set old.by_train.items (train_of fixing)
      (without taken (slice_index_or old.by_train.items (train_of fixing) []))
  pub standing : new.standing.items ≡ old.standing.items
  pub stale : new.stale ≡ true

-- the fixings that stand are put in order
pub record SettlesChanges (changes : List Change) (old new : Kept) : Type 0 where
  pub withdrawn : new.withdrawn.items ≡ old.withdrawn.items
  pub by_train : new.by_train.items ≡ old.by_train.items
  pub standing : new.standing.items ≡ standing_of changes
  pub stale : new.stale ≡ false
