-- What the words behind the program's name ask for.
use Rattle.std.specs.Prelude.{◌≡◌, ◌⊎◌, ℕ, ◌<◌, ◌^◌, List, [], Option, Some, None, codes, unwrap_or}
use Rattle.std.specs.Prelude.{max, min}
use Rattle.std.specs.Str.Parse.{IsNumeral, digits_value, without_leading_plus}
use Rattle.clap.specs.Words.{Row, subcommand_of, all_of, first_of, one_of, fault_of}
use Rattle.disp_model.specs.declared.limits.TheConstants.{MOST_CALLERS}
use Rattle.disp_model.specs.declared.settings.Rule.{Rule}
use Rattle.disp_model.specs.declared.settings.Rule.TheVariants.{Fixed, Free}
use Rattle.command_words.specs.Program.{program}
use Rattle.command_words.specs.declared.read.WordsNo.{WordsNo}
use Rattle.command_words.specs.declared.read.WordsNo.TheVariants.{Refused, Memory}
use Rattle.command_words.specs.declared.task.SolveTask.{SolveTask}
use Rattle.command_words.specs.declared.task.JudgeTask.{JudgeTask}
use Rattle.command_words.specs.declared.task.MakeTask.{MakeTask}
use Rattle.command_words.specs.declared.task.RollTask.{RollTask}
use Rattle.command_words.specs.declared.task.Task.{Task}
use Rattle.command_words.specs.declared.task.Task.TheVariants.{Solve, Verify, Report, Make}
use Rattle.command_words.specs.declared.task.Task.TheVariants.{Check, Roll}

-- clap finds no fault with the words
abbrev pub AreTaken : List (List ℕ) → Type 0
AreTaken words = fault_of program words ≡ []

-- the words name the command, and these are what clap finds for its arguments
abbrev pub Names : List (List ℕ) → List ℕ → List Row → Type 0
Names words command rows = subcommand_of program words ≡ Some (command, rows)

-- the text is that of a number of 32 bits
pub record IsNumberText (text : List ℕ) (n : ℕ) : Type 0 where
  pub numeral : IsNumeral 10 (without_leading_plus text)
  pub value : digits_value 10 (without_leading_plus text) ≡ n
  pub small : n < 2 ^ 32

-- the number that a text says, and another one where there is none
abbrev pub IsNumberOr : ℕ → Option (List ℕ) → ℕ → Type 0
IsNumberOr other None n = n ≡ other
IsNumberOr other (Some text) n =
    IsNumberText text n ⊎ (((m : ℕ) → IsNumberText text m → ⊥) × (n ≡ other))

-- the number that a text says, and a million where there is none (there always is one)
abbrev pub IsBudget : Option (List ℕ) → ℕ → Type 0
IsBudget found n = IsNumberOr 1000000 found n

-- the number that a text says, and 1 where there is none (there always is one); between these two,
-- as it always is
pub record IsWithin (least most : ℕ) (found : Option (List ℕ)) (n : ℕ) : Type 0 where
  pub said : ℕ
  pub said_is : IsNumberOr 1 found said
  pub is : n ≡ max least (min said most)

-- how many searchers a text says, and one where there is none (there always is one)
abbrev pub IsWorkers : Option (List ℕ) → ℕ → Type 0
IsWorkers found n = IsWithin 1 MOST_CALLERS found n

-- the rule that a text names, and the free one where there is none
abbrev pub IsRuleText : Option (List ℕ) → Rule → Type 0
IsRuleText None rule = rule ≡ Free
IsRuleText (Some text) rule = ((text ≡ codes "fixed") × (rule ≡ Fixed))
    ⊎ ((text ≡ codes "free") × (rule ≡ Free))

-- a text that names no rule
abbrev pub NamesNoRule : Option (List ℕ) → Type 0
NamesNoRule text = (rule : Rule) → IsRuleText text rule → ⊥

-- the name that clap finds for an argument that must be given (the empty one where it finds none,
-- but it always finds one)
abbrev pub name_found : List ℕ → List Row → List ℕ
name_found id rows = unwrap_or (first_of id rows) []

-- the names that clap finds for an argument with several values, in the order of the words (none
-- where it finds none)
abbrev pub names_found : List ℕ → List Row → List (List ℕ)
names_found id rows = unwrap_or (all_of id rows) []

-- the values that clap finds for `solve`
pub record IsSolve (words : List (List ℕ)) (task : SolveTask) : Type 0 where
  pub taken : AreTaken words
  pub rows : List Row
  pub named : Names words (codes "solve") rows
  pub problem_is : task.problem ≡ name_found (codes "problem") rows
  pub fixings_is : task.fixings ≡ first_of (codes "fixings") rows
  pub workers_is : IsWorkers (one_of (codes "workers") rows) task.workers
  pub budget_is : IsBudget (one_of (codes "budget") rows) task.budget
  pub rule_is : IsRuleText (first_of (codes "rule") rows) task.rule
  pub plan_is : task.plan ≡ first_of (codes "plan") rows
  pub tree_is : task.tree ≡ first_of (codes "tree") rows

-- the values that clap finds for a command that judges a solution
pub record IsJudge (command : List ℕ) (words : List (List ℕ)) (task : JudgeTask) : Type 0 where
  pub taken : AreTaken words
  pub rows : List Row
  pub named : Names words command rows
  pub problem_is : task.problem ≡ name_found (codes "problem") rows
  pub solution_is : task.solution ≡ name_found (codes "solution") rows
  pub fixings_is : task.fixings ≡ first_of (codes "fixings") rows

-- the values that clap finds for `make`
pub record IsMake (words : List (List ℕ)) (task : MakeTask) : Type 0 where
  pub taken : AreTaken words
  pub rows : List Row
  pub named : Names words (codes "make") rows
  pub number_is : IsWithin 0 2147483647 (one_of (codes "number") rows) task.number
  pub trains_is : IsWithin 1 2000 (one_of (codes "trains") rows) task.trains
  pub out_is : task.out ≡ first_of (codes "out") rows

-- the values that clap finds for `check`
pub record IsCheck (words : List (List ℕ)) (problem tree : List ℕ)
    (fixings plan : Option (List ℕ)) : Type 0 where
  pub taken : AreTaken words
  pub rows : List Row
  pub named : Names words (codes "check") rows
  pub problem_is : problem ≡ name_found (codes "problem") rows
  pub tree_is : tree ≡ name_found (codes "tree") rows
  pub fixings_is : fixings ≡ first_of (codes "fixings") rows
  pub plan_is : plan ≡ first_of (codes "plan") rows

-- the values that clap finds for `roll`
pub record IsRoll (words : List (List ℕ)) (task : RollTask) : Type 0 where
  pub taken : AreTaken words
  pub rows : List Row
  pub named : Names words (codes "roll") rows
  pub problem_is : task.problem ≡ name_found (codes "problem") rows
  pub feeds_is : task.feeds ≡ names_found (codes "feeds") rows
  pub workers_is : IsWorkers (one_of (codes "workers") rows) task.workers
  pub budget_is : IsBudget (one_of (codes "budget") rows) task.budget
  pub rule_is : IsRuleText (first_of (codes "rule") rows) task.rule
  pub trees_is : task.trees ≡ first_of (codes "trees") rows

-- the words ask for the task
abbrev pub IsTask : List (List ℕ) → Task → Type 0
IsTask words (Solve task) = IsSolve words task
IsTask words (Verify task) = IsJudge (codes "verify") words task
IsTask words (Report task) = IsJudge (codes "report") words task
IsTask words (Make task) = IsMake words task
IsTask words (Check problem tree fixings plan) = IsCheck words problem tree fixings plan
IsTask words (Roll task) = IsRoll words task

-- the words ask for a search by a rule that there is not
pub record AskForNoRule (words : List (List ℕ)) : Type 0 where
  pub command : List ℕ
  pub searches : (command ≡ codes "solve") ⊎ (command ≡ codes "roll")
  pub rows : List Row
  pub named : Names words command rows
  pub no_rule : NamesNoRule (first_of (codes "rule") rows)

-- clap finds fault with the words, or they name a rule that there is not
abbrev pub AreRefused : List (List ℕ) → Type 0
AreRefused words = (AreTaken words → ⊥) ⊎ AskForNoRule words

-- words are refused only where they are to be
abbrev pub Denies : List (List ℕ) → WordsNo → Type 0
Denies words (Refused text) = AreRefused words
Denies words Memory = Unit {0}
