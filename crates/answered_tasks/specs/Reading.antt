-- What was read of the words.
use Rattle.std.specs.Prelude.{ℕ, List, Result, Ok, Err}
use Rattle.command_words.specs.declared.read.WordsNo.{WordsNo}
use Rattle.command_words.specs.declared.task.Task.{Task}
use Rattle.command_words.specs.declared.task.Task.TheVariants.{Solve, Verify, Report, Make, Check, Roll}
use Rattle.command_words.specs.Task.{IsTask, Denies}

-- this was read of the words: the task that they ask for, or why they ask for nothing
abbrev pub IsRead : List (List ℕ) → Result Task WordsNo → Type 0
IsRead words (Ok task) = IsTask words task
IsRead words (Err why) = Denies words why

-- what was read is no task to roll
abbrev pub IsNoRoll : Result Task WordsNo → Type 0
IsNoRoll (Ok (Solve task)) = Unit {0}
IsNoRoll (Ok (Verify task)) = Unit {0}
IsNoRoll (Ok (Report task)) = Unit {0}
IsNoRoll (Ok (Make task)) = Unit {0}
IsNoRoll (Ok (Check problem tree fixings plan)) = Unit {0}
IsNoRoll (Ok (Roll task)) = ⊥
IsNoRoll (Err why) = Unit {0}
