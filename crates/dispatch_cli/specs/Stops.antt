-- What stops a roll before it has begun, and what is printed for it.
use Rattle.std.specs.Prelude.{◌≡◌, ◌≢◌, ◌⊎◌, ℕ, ◌≤◌, List, [], ◌++◌, codes, Option}
use Rattle.std.specs.Fmt.{decimal}
use Rattle.disp_outside.specs.Sink.{WritesPart}
use Rattle.text_puts.specs.Outside.{Writes}
use Rattle.answered_tasks.specs.declared.cause.Cause.TheVariants as cause
use Rattle.answered_tasks.specs.Causes.{IsReadingFault, line_of as cause_line, due_line as cause_due, status_of as cause_status}
use Rattle.answered_tasks.specs.Endings.{WritesThenGivesUp}
use Rattle.answered_tasks.specs.Texts.{line}
use Rattle.dispatch_cli.specs.declared.roll_no.RollNo.{RollNo}
use Rattle.dispatch_cli.specs.declared.roll_no.RollNo.TheVariants.{TooManyFeeds, Problem, FeedFailed, Memory}

-- the line that is printed for it
abbrev pub roll_line_of : RollNo → List ℕ
roll_line_of (TooManyFeeds count) = line (codes "TooMany feeds " ++ decimal count)
roll_line_of (Problem why) = cause_line why
roll_line_of (FeedFailed number) = line (codes "feed " ++ decimal number ++ codes ": Failed")
roll_line_of Memory = cause_line cause.Memory

-- what is due before the line for want of memory: nothing where that is what stopped it
abbrev pub roll_due_line : RollNo → List ℕ
roll_due_line (TooManyFeeds count) = roll_line_of (TooManyFeeds count)
roll_due_line (Problem why) = cause_due why
roll_due_line (FeedFailed number) = roll_line_of (FeedFailed number)
roll_due_line Memory = []

-- the status for it
abbrev pub roll_status_of : RollNo → ℕ
roll_status_of (TooManyFeeds count) = 2
roll_status_of (Problem why) = cause_status why
roll_status_of (FeedFailed number) = 4
roll_status_of Memory = 5

-- a reading of a name failed
abbrev pub IsFault : RollNo → Type 0
IsFault (TooManyFeeds count) = ⊥
IsFault (Problem why) = IsReadingFault why
IsFault (FeedFailed number) = Unit {0}
IsFault Memory = ⊥

-- how the writing of a line ends that is due: the status is the wanted one, and the line went out,
-- or some of it where a write failed; or it is that for want of memory
pub record Tells (old_faults new_faults : ℕ) (old new : Option (List ℕ)) (text due : List ℕ)
    (wanted status : ℕ) : Type 0 where
  pub counted : old_faults ≤ new_faults
  pub statuses : (status ≡ wanted) ⊎ (status ≡ 5)
  pub part : status ≢ 5 → WritesPart old new text
  pub whole : status ≢ 5 → new_faults ≡ old_faults → Writes old new text
  pub memory : status ≡ 5 → WritesThenGivesUp old new due

-- how the writing of the line for what stopped a roll ends
abbrev pub StopsWith : ℕ → ℕ → Option (List ℕ) → Option (List ℕ) → RollNo → ℕ → Type 0
StopsWith old_faults new_faults old new why status =
    Tells old_faults new_faults old new (roll_line_of why) (roll_due_line why) (roll_status_of why)
    status
