-- A file in memory, some of whose readings break.
use Rattle.std.specs.Prelude.{◌≡◌, ℕ, ◌+◌, Result, Err}
use Rattle.disp_outside.specs.declared.feed.FeedNo.{FeedNo}
use Rattle.disp_outside.specs.declared.feed.FeedNo.TheVariants.{Memory as FeedMemory}
use Rattle.disp_outside.specs.declared.shelf.FetchNo.{FetchNo}
use Rattle.disp_outside.specs.declared.shelf.FetchNo.TheVariants.{Memory}

-- the reading was counted, but for one without room
abbrev pub IsReadingCounted : {T : Type 0} → Result T FetchNo → ℕ → ℕ → Type 0
IsReadingCounted (Err Memory) old new = new ≡ old
IsReadingCounted _ old new = new ≡ old + 1

-- the same of an opening
abbrev pub IsOpeningCounted : {T : Type 0} → Result T FeedNo → ℕ → ℕ → Type 0
IsOpeningCounted (Err FeedMemory) old new = new ≡ old
IsOpeningCounted _ old new = new ≡ old + 1
