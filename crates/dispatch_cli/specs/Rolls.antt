-- How a roll ends.
use Rattle.std.specs.Prelude.{◌≡◌, ◌≢◌, ◌⊎◌, ℕ, ◌<◌, ◌≤◌, List, [], Contains, length}
use Rattle.disp_model.specs.declared.entry.Entry.{Entry}
use Rattle.disp_model.specs.declared.entry.Mark.TheVariants.{Working}
use Rattle.disp_model.specs.declared.limits.TheConstants.{MOST_CALLERS}
use Rattle.disp_model.specs.declared.problem.Problem.{Problem}
use Rattle.disp_model.specs.History.{edition_of, newest, mark_of}
use Rattle.command_words.specs.declared.task.RollTask.{RollTask}
use Rattle.command_words.specs.declared.task.Task.TheVariants.{Roll}
use Rattle.command_words.specs.Settings.{roll_settings_of}
use Rattle.command_words.specs.Task.{IsTask}
use Rattle.disp_outside.specs.States.{Holdings, Counts}
use Rattle.text_puts.specs.Outside.{Outside, shelf_of}
use Rattle.solved_problems.specs.Promised.{Promises}
use Rattle.answered_tasks.specs.Causes.{StopsProblem}
use Rattle.answered_tasks.specs.Endings.{Ends}
use Rattle.answered_tasks.specs.Files.{IsProblemFile}
use Rattle.answered_tasks.specs.Outside.{ReadsNames}
use Rattle.rolling_driver.specs.Rolled.{Fed, IsRolled}
use Rattle.dispatch_cli.specs.declared.roll_no.RollNo.{RollNo}
use Rattle.dispatch_cli.specs.declared.roll_no.RollNo.TheVariants as roll_no
use Rattle.dispatch_cli.specs.Feeds.{AreFed, IsUnopened}
use Rattle.dispatch_cli.specs.Stops.{StopsWith, IsFault}

-- the name is that of the problem or of a feed
abbrev pub IsInput : RollTask → List ℕ → Type 0
IsInput task name = (name ≡ task.problem) ⊎ Contains task.feeds name

-- at most 64 feeds are named
abbrev pub HasFewFeeds : RollTask → Type 0
HasFewFeeds task = length task.feeds ≤ MOST_CALLERS

-- there is a problem, and the feed of this number was not opened
pub record IsWithoutFeed (task : RollTask) (holds : Holdings) (old new : Counts) (number : ℕ)
    : Type 0 where
  pub problem : Problem
  pub file : IsProblemFile holds task.problem problem
  pub unopened : IsUnopened task.feeds old new number
  pub few : HasFewFeeds task

-- this has happened, so that the roll did not begin
abbrev pub StopsRoll : RollTask → Holdings → Counts → Counts → RollNo → Type 0
StopsRoll task holds old new (roll_no.TooManyFeeds count) = (count ≡ length task.feeds)
    × (MOST_CALLERS < count)
StopsRoll task holds old new (roll_no.Problem why) =
    HasFewFeeds task × StopsProblem holds old new task.problem why
StopsRoll task holds old new (roll_no.FeedFailed number) = IsWithoutFeed task holds old new number
StopsRoll task holds old new roll_no.Memory = Unit {0}

-- only names of the task were read, a count rose only where that is the cause, and of one name
-- alone; nothing is put, and every name holds what it held
abbrev pub ReadsInputs : RollTask → Outside → Outside → RollNo → Type 0
ReadsInputs task old new why = ReadsNames (IsInput task) (shelf_of old) (shelf_of new)
    (IsFault why)

-- it did not begin: the cause is told, and the journal is empty
pub record EndsStopped (task : RollTask) (old new : Outside) (status : ℕ) (journal : List Entry)
    : Type 0 where
  pub why : RollNo
  pub stops : StopsRoll task old.holds old.reading new.reading why
  pub reads : ReadsInputs task old new why
  pub told : StopsWith old.faults new.faults old.written new.written why status
  pub journal_is : journal ≡ []

-- two moments with the same files, counts and output
pub record IsOutsideAsBefore (old new : Outside) : Type 0 where
  pub holds : (name : List ℕ) → new.holds name ≡ old.holds name
  pub reading : (name : List ℕ) → new.reading name ≡ old.reading name
  pub putting : (name : List ℕ) → new.putting name ≡ old.putting name
  pub faults : new.faults ≡ old.faults
  pub written : new.written ≡ old.written

-- where the newest edition is settled or stopped its mark says true of it
abbrev pub NewestIsPromised : RollTask → Problem → List Entry → Type 0
NewestIsPromised task problem journal = mark_of (newest journal) journal ≢ Working
    → Promises problem (roll_settings_of task) (edition_of journal)
    (mark_of (newest journal) journal)

-- the feeds, at most 64, were opened, which left all as before, and ran with a problem
pub record RunsFeeds (task : RollTask) (problem : Problem) (old new : Outside) (status : ℕ)
    (journal : List Entry) : Type 0 where
  pub few : HasFewFeeds task
  pub feeds : List Fed
  pub fed : AreFed old.holds task.feeds feeds
  pub start : Outside
  pub begins : IsOutsideAsBefore old start
  pub ran : IsRolled problem (roll_settings_of task) task.trees feeds start new journal status
  pub promise : NewestIsPromised task problem journal

-- the problem was read, and the feeds ran with it
pub record EndsRun (task : RollTask) (old new : Outside) (status : ℕ) (journal : List Entry)
    : Type 0 where
  pub problem : Problem
  pub file : IsProblemFile old.holds task.problem problem
  pub runs : RunsFeeds task problem old new status journal

-- how a roll ends
abbrev pub EndsRoll : RollTask → Outside → Outside → ℕ → List Entry → Type 0
EndsRoll task old new status journal = EndsStopped task old new status journal
    ⊎ EndsRun task old new status journal

-- the words ask for a roll, and it ends so
pub record RollsAs (words : List (List ℕ)) (old new : Outside) (status : ℕ) (journal : List Entry)
    : Type 0 where
  pub task : RollTask
  pub is_task : IsTask words (Roll task)
  pub ends : EndsRoll task old new status journal

-- how the program ends
abbrev pub EndsAs : List (List ℕ) → Outside → Outside → ℕ → List Entry → Type 0
EndsAs words old new status journal = Ends words old new status journal
    ⊎ RollsAs words old new status journal

-- ---- for private clauses

-- a roll has not begun, and nothing was written
pub record HasNotBegun (task : RollTask) (old new : Outside) (why : RollNo) : Type 0 where
  pub stops : StopsRoll task old.holds old.reading new.reading why
  pub reads : ReadsInputs task old new why
  pub faults : new.faults ≡ old.faults
  pub written : new.written ≡ old.written
