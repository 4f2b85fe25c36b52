-- The feeds of a roll.
use Rattle.std.specs.Prelude.{◌≡◌, ◌≢◌, ℕ, ◌<◌, Bool, false, List, ◌∷◌, [], ◌++◌, All, Option, map, slice_get, Some}
use Rattle.disp_outside.specs.Lines.{HasLinesOf}
use Rattle.disp_outside.specs.States.{Holdings, Counts}
use Rattle.rolling_driver.specs.Opened.{AreNew}
use Rattle.rolling_driver.specs.Rolled.{Fed}
use Rattle.dispatch_cli.specs.declared.roll_no.RollNo.{RollNo}
use Rattle.dispatch_cli.specs.declared.roll_no.RollNo.TheVariants.{TooManyFeeds, Problem, FeedFailed, Memory}

-- these are the feeds of the names, in order: each has the lines of what its name holds
pub record AreFed (holds : Holdings) (names : List (List ℕ)) (feeds : List Fed) : Type 0 where
  pub names_are : map (λ feed. feed.0) feeds ≡ names
  pub lines : All (λ feed. HasLinesOf (holds feed.0) feed.1) feeds

-- the feed of this number was not opened: the count of its name rose, and no other
pub record IsUnopened (names : List (List ℕ)) (old new : Counts) (number : ℕ) : Type 0 where
  pub name : List ℕ
  pub is : slice_get names number ≡ Some name
  pub risen : old name < new name
  pub others : (other : List ℕ) → other ≢ name → new other ≡ old other

-- ---- for private clauses

-- what stops the opening of feeds: one of them, or want of memory, and then no count changes
abbrev pub StopsFeeds : List (List ℕ) → Counts → Counts → RollNo → Type 0
StopsFeeds names old new (TooManyFeeds count) = ⊥
StopsFeeds names old new (Problem why) = ⊥
StopsFeeds names old new (FeedFailed number) = IsUnopened names old new number
StopsFeeds names old new Memory = (name : List ℕ) → new name ≡ old name

-- what stops the opening of the feed of a name, which has this number
abbrev pub StopsFeed : List ℕ → ℕ → Counts → Counts → RollNo → Type 0
StopsFeed one number old new (TooManyFeeds count) = ⊥
StopsFeed one number old new (Problem why) = ⊥
StopsFeed one number old new (FeedFailed told) = (told ≡ number) × (old one < new one)
StopsFeed one number old new Memory = new one ≡ old one

module _ {F : Type 0} where
  -- feeds of the names, in order, of which nothing was read: each has the lines of what its name
  -- holds
  pub record AreOpened (name : F → List ℕ) (told : F → Option (List (List ℕ)))
      (has_ended : F → Bool) (faults : F → ℕ) (holds : Holdings) (names : List (List ℕ))
      (feeds : List F) : Type 0 where
    pub names_are : map name feeds ≡ names
    pub lines : All (λ feed. HasLinesOf (holds (name feed)) (told feed)) feeds
    pub are_new : AreNew has_ended faults feeds

  -- one more feed, of a name, of which nothing was read
  pub record OpensOne (name : F → List ℕ) (told : F → Option (List (List ℕ))) (has_ended : F → Bool)
      (faults : F → ℕ) (holds : Holdings) (one : List ℕ) (old new : List F) : Type 0 where
    pub feed : F
    pub is : new ≡ old ++ feed ∷ []
    pub name_is : name feed ≡ one
    pub lines : HasLinesOf (holds one) (told feed)
    pub is_open : has_ended feed ≡ false
    pub unbroken : faults feed ≡ 0
