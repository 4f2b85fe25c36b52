-- What the words name to be read is told.
use Rattle.std.specs.Prelude.{◌≡◌, ℕ, List, Some, IsSome}
use Rattle.command_words.specs.declared.task.Task.{Task}
use Rattle.command_words.specs.Task.{IsTask}
use Rattle.disp_outside.specs.States.{Holdings}
use Rattle.text_puts.specs.Outside.{Outside}
use Rattle.answered_tasks.specs.declared.cause.Input.{Input}
use Rattle.answered_tasks.specs.Causes.{input_name}

-- what each name holds is told that the task gives to be read
abbrev pub TellsInputs : Holdings → Task → Type 0
TellsInputs holds task =
    (which : Input) (name : List ℕ) → input_name task which ≡ Some name → IsSome (holds name)

-- so it is for the task that the words ask for
abbrev pub AreTold : List (List ℕ) → Holdings → Type 0
AreTold words holds = (task : Task) → IsTask words task → TellsInputs holds task

-- each name holds the same at both moments
abbrev pub HoldTheSame : Outside → Outside → Type 0
HoldTheSame one other = (name : List ℕ) → other.holds name ≡ one.holds name
