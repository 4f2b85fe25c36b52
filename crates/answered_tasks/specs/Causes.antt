-- What stops a run before there is an answer, and what is printed for it.
use Rattle.std.specs.Prelude.{◌≡◌, ◌≢◌, ◌⊎◌, ℕ, ◌<◌, ◌≤◌, List, [], ◌++◌, codes, Option, Some, None, IfSome}
use Rattle.disp_model.specs.declared.problem.Problem.{Problem}
use Rattle.displib_reader.specs.declared.fault.ProblemNo.{ProblemNo}
use Rattle.displib_reader.specs.declared.fault.ProblemNo.TheVariants as problem_no
use Rattle.displib_reader.specs.Outcome.{IsRefused}
use Rattle.displib_reader.specs.Why.{why_text}
use Rattle.solution_text.specs.Why.{solution_why_text}
use Rattle.solution_text.specs.Reading.{IsRefusedSolution}
use Rattle.solution_text.specs.declared.fault.SolutionNo.{SolutionNo}
use Rattle.solution_text.specs.declared.fault.SolutionNo.TheVariants as solution_no
use Rattle.tree_certificate.specs.declared.fault.TreeNo.{TreeNo}
use Rattle.tree_certificate.specs.declared.fault.TreeNo.TheVariants as tree_no
use Rattle.tree_certificate.specs.TreesRead.{tree_at, AnswersTree}
use Rattle.disp_model.specs.declared.fixing.Fixing.{Fixing}
use Rattle.disp_model.specs.declared.tree.TreeNode.{TreeNode}
use Rattle.disp_model.specs.declared.tree.Verdict.{Verdict}
use Rattle.std.specs.Fmt.{decimal}
use Rattle.solution_verifier.specs.FaultText.{with_numbers}
use Rattle.fixing_lines.specs.Entries.{refusal_text}
use Rattle.fixing_files.specs.declared.take.LineNo.{LineNo}
use Rattle.fixing_files.specs.declared.take.LineNo.TheVariants as reason
use Rattle.fixing_files.specs.Files.{StopsAt}
use Rattle.command_words.specs.declared.task.JudgeTask.{JudgeTask}
use Rattle.command_words.specs.declared.task.Task.{Task}
use Rattle.command_words.specs.declared.task.Task.TheVariants.{Solve, Verify, Report, Make, Check, Roll}
use Rattle.command_words.specs.Task.{IsTask, AreRefused}
use Rattle.answered_tasks.specs.declared.cause.Cause.{Cause}
use Rattle.answered_tasks.specs.declared.cause.Cause.TheVariants.{Words, Failed, TooLong, NoProblem, NoSolution, BadLine, NoTree, WrongEdition, NoPlan, Memory}
use Rattle.answered_tasks.specs.declared.cause.Input.{Input}
use Rattle.answered_tasks.specs.declared.cause.Input.TheVariants as input
use Rattle.disp_outside.specs.States.{Holdings, Counts}
use Rattle.answered_tasks.specs.Outside.{IsFile, HoldsTooMuch, ReadsBehind}
use Rattle.answered_tasks.specs.Texts.{line}
use Rattle.answered_tasks.specs.Files.{IsProblemFile, HasFixings, IsRefusedLine, AreOfEdition, IsTreeNamed, IsTreeFile}

-- ---- what is printed

abbrev pub prefix_of : Input → List ℕ
prefix_of input.Problem = codes "problem: "
prefix_of input.Solution = codes "solution: "
prefix_of input.Fixings = codes "fixings: "
prefix_of input.Tree = codes "tree: "
prefix_of input.Plan = codes "plan: "

-- why a line of fixings is not taken
abbrev pub reason_text : LineNo → List ℕ
reason_text reason.Unreadable = codes "unreadable"
reason_text reason.Long = codes "long"
reason_text reason.TooMany = codes "toomany"
reason_text (reason.Refused why) = codes "refused " ++ refusal_text why

-- why bytes are no tree's text
abbrev pub tree_why_text : TreeNo → List ℕ
tree_why_text (tree_no.BadLine n) = codes "BadLine " ++ decimal n
tree_why_text (tree_no.TooLarge n) = codes "TooLarge " ++ decimal n
tree_why_text tree_no.Truncated = codes "Truncated"
tree_why_text (tree_no.Trailing n) = codes "Trailing " ++ decimal n
tree_why_text tree_no.Memory = codes "Memory"

-- the line that is printed for a cause; for refused words it is clap's text
abbrev pub line_of : Cause → List ℕ
line_of (Words text) = text
line_of (Failed which) = line (prefix_of which ++ codes "Failed")
line_of (TooLong which) = line (prefix_of which ++ codes "TooLong")
line_of (NoProblem refusal) = line (prefix_of input.Problem ++ why_text refusal)
line_of (NoSolution refusal) = line (prefix_of input.Solution ++ solution_why_text refusal)
line_of (BadLine number why) = line (codes "fixings line " ++ decimal number ++ codes ": "
    ++ reason_text why)
line_of (NoTree refusal) = line (prefix_of input.Tree ++ tree_why_text refusal)
line_of (WrongEdition named wanted) = line
    (prefix_of input.Tree ++ with_numbers (codes "WrongEdition") named wanted)
line_of (NoPlan refusal) = line (prefix_of input.Plan ++ solution_why_text refusal)
line_of Memory = line (codes "memory")

-- what is due where something stopped a run, before the line for want of memory: nothing where that
-- is what stopped it
abbrev pub due_line : Cause → List ℕ
due_line (Words text) = line_of (Words text)
due_line (Failed which) = line_of (Failed which)
due_line (TooLong which) = line_of (TooLong which)
due_line (NoProblem refusal) = line_of (NoProblem refusal)
due_line (NoSolution refusal) = line_of (NoSolution refusal)
due_line (BadLine number why) = line_of (BadLine number why)
due_line (NoTree refusal) = line_of (NoTree refusal)
due_line (WrongEdition named wanted) = line_of (WrongEdition named wanted)
due_line (NoPlan refusal) = line_of (NoPlan refusal)
due_line Memory = []

-- the status for a cause
abbrev pub status_of : Cause → ℕ
status_of (Words text) = 2
status_of (Failed which) = 4
status_of (TooLong which) = 2
status_of (NoProblem refusal) = 2
status_of (NoSolution refusal) = 2
status_of (BadLine number why) = 2
status_of (NoTree refusal) = 2
status_of (WrongEdition named wanted) = 2
status_of (NoPlan refusal) = 2
status_of Memory = 5

-- ---- what has happened

-- the name that is given for an input to judge a solution
abbrev pub judged_name : JudgeTask → Input → Option (List ℕ)
judged_name task input.Problem = Some task.problem
judged_name task input.Solution = Some task.solution
judged_name task input.Fixings = task.fixings
judged_name task input.Tree = None
judged_name task input.Plan = None

-- the name that a task gives for an input, where it is another than one to roll
abbrev pub input_name : Task → Input → Option (List ℕ)
input_name (Solve task) input.Problem = Some task.problem
input_name (Solve task) input.Solution = None
input_name (Solve task) input.Fixings = task.fixings
input_name (Solve task) input.Tree = None
input_name (Solve task) input.Plan = None
input_name (Verify task) which = judged_name task which
input_name (Report task) which = judged_name task which
input_name (Make task) which = None
input_name (Check problem tree fixings plan) input.Problem = Some problem
input_name (Check problem tree fixings plan) input.Solution = None
input_name (Check problem tree fixings plan) input.Fixings = fixings
input_name (Check problem tree fixings plan) input.Tree = Some tree
input_name (Check problem tree fixings plan) input.Plan = plan
input_name (Roll task) which = None

-- the file of the name is read, and its bytes are such
pub record IsBadFile (holds : Holdings) (name : List ℕ) (Bad : List ℕ → Type 0) : Type 0 where
  pub bytes : List ℕ
  pub file : IsFile holds name bytes
  pub bad : Bad bytes

-- the task gives a name for the input, and its file's bytes are such
abbrev pub IsBadInput : Holdings → Task → Input → (List ℕ → Type 0) → Type 0
IsBadInput holds task which Bad = (name : List ℕ) × (input_name task which ≡ Some name)
    × IsBadFile holds name Bad

-- the bytes are refused as a problem for this, which is no want of memory
abbrev pub IsNoProblem : List ℕ → ProblemNo → Type 0
IsNoProblem bytes refusal = IsRefused bytes refusal × (refusal ≢ problem_no.Memory)

-- so they are as a solution
abbrev pub IsNoSolution : List ℕ → SolutionNo → Type 0
IsNoSolution bytes refusal = IsRefusedSolution bytes refusal × (refusal ≢ solution_no.Memory)

-- so they are as the text of a tree
abbrev pub IsNoTree : List ℕ → TreeNo → Type 0
IsNoTree bytes refusal = AnswersTree bytes refusal (tree_at bytes) × (refusal ≢ tree_no.Memory)

-- the task gives a name for a problem, and its file is that of this problem
pub record TakesProblem (holds : Holdings) (task : Task) (problem : Problem) : Type 0 where
  pub name : List ℕ
  pub named : input_name task input.Problem ≡ Some name
  pub file : IsProblemFile holds name problem

-- the fixings that the task gives, if it gives some, are taken for the problem, and the task gives
-- a name for a tree, whose file is that of a tree of their edition
pub record TakesTree (holds : Holdings) (task : Task) (problem : Problem) : Type 0 where
  pub fixings : List Fixing
  pub edition : ℕ
  pub fixed : AreOfEdition holds problem (input_name task input.Fixings) fixings edition
  pub name : List ℕ
  pub named : input_name task input.Tree ≡ Some name
  pub verdict : Verdict
  pub tree : List TreeNode
  pub file : IsTreeFile holds name edition verdict tree

-- the files that are read before that of an input are taken
abbrev pub ComesTo : Holdings → Task → Input → Type 0
ComesTo holds task input.Problem = Unit {0}
ComesTo holds task input.Fixings = (problem : Problem) × TakesProblem holds task problem
ComesTo holds task input.Solution = (problem : Problem) × TakesProblem holds task problem
    × HasFixings holds problem (input_name task input.Fixings)
ComesTo holds task input.Tree = (problem : Problem) × TakesProblem holds task problem
    × HasFixings holds problem (input_name task input.Fixings)
ComesTo holds task input.Plan = (problem : Problem) × TakesProblem holds task problem
    × TakesTree holds task problem

-- the task gives a name for the input, and a reading of it failed
abbrev pub FailsToRead : Counts → Counts → Task → Input → Type 0
FailsToRead old new task which = (name : List ℕ) × (input_name task which ≡ Some name)
    × (old name < new name)

-- the task gives a name for the input, and its file is too long to be read at once; fixings are
-- read line by line
abbrev pub IsTooLong : Holdings → Task → Input → Type 0
IsTooLong holds task input.Problem = (name : List ℕ) × (input_name task input.Problem ≡ Some name)
    × HoldsTooMuch holds name
IsTooLong holds task input.Solution = (name : List ℕ) × (input_name task input.Solution ≡ Some name)
    × HoldsTooMuch holds name
IsTooLong holds task input.Tree = (name : List ℕ) × (input_name task input.Tree ≡ Some name)
    × HoldsTooMuch holds name
IsTooLong holds task input.Plan = (name : List ℕ) × (input_name task input.Plan ≡ Some name)
    × HoldsTooMuch holds name
IsTooLong holds task input.Fixings = ⊥

-- the task gives a name for fixings, and a line of their file is not taken for the problem
pub record HasBadLine (holds : Holdings) (task : Task) (number : ℕ) (why : LineNo) : Type 0 where
  pub problem : Problem
  pub takes : TakesProblem holds task problem
  pub name : List ℕ
  pub named : input_name task input.Fixings ≡ Some name
  pub refused : IsRefusedLine holds problem name number why

-- the fixings that the task gives, if it gives some, are taken for the problem, so many changes
-- were accepted, and the task gives a name for a tree, whose text names another edition
pub record IsOfOther (holds : Holdings) (task : Task) (named wanted : ℕ) : Type 0 where
  pub problem : Problem
  pub takes : TakesProblem holds task problem
  pub fixings : List Fixing
  pub fixed : AreOfEdition holds problem (input_name task input.Fixings) fixings wanted
  pub text : IsBadInput holds task input.Tree (IsTreeNamed named)
  pub other : named ≢ wanted

-- what stopped a task has happened, and the files before it are taken
abbrev pub StopsTask : Holdings → Counts → Counts → Task → Cause → Type 0
StopsTask holds old new task (Words text) = ⊥
StopsTask holds old new task (Failed which) = ComesTo holds task which
    × FailsToRead old new task which
StopsTask holds old new task (TooLong which) = ComesTo holds task which × IsTooLong holds task which
StopsTask holds old new task (NoProblem refusal) =
    IsBadInput holds task input.Problem (λ bytes. IsNoProblem bytes refusal)
StopsTask holds old new task (NoSolution refusal) = ComesTo holds task input.Solution
    × IsBadInput holds task input.Solution (λ bytes. IsNoSolution bytes refusal)
StopsTask holds old new task (BadLine number why) = HasBadLine holds task number why
StopsTask holds old new task (NoTree refusal) = ComesTo holds task input.Tree
    × IsBadInput holds task input.Tree (λ bytes. IsNoTree bytes refusal)
StopsTask holds old new task (WrongEdition named wanted) = IsOfOther holds task named wanted
StopsTask holds old new task (NoPlan refusal) = ComesTo holds task input.Plan
    × IsBadInput holds task input.Plan (λ bytes. IsNoSolution bytes refusal)
StopsTask holds old new task Memory = Unit {0}

-- the words ask for a task, and what stopped it has happened
pub record IsStopped (words : List (List ℕ)) (holds : Holdings) (old new : Counts) (cause : Cause)
    : Type 0 where
  pub task : Task
  pub asked : IsTask words task
  pub stops : StopsTask holds old new task cause

-- what stopped a run has happened
abbrev pub StopsRun : List (List ℕ) → Holdings → Counts → Counts → Cause → Type 0
StopsRun words holds old new (Words text) = AreRefused words
StopsRun words holds old new (Failed which) = IsStopped words holds old new (Failed which)
StopsRun words holds old new (TooLong which) = IsStopped words holds old new (TooLong which)
StopsRun words holds old new (NoProblem refusal) = IsStopped words holds old new (NoProblem refusal)
StopsRun words holds old new (NoSolution refusal) =
    IsStopped words holds old new (NoSolution refusal)
StopsRun words holds old new (BadLine number why) =
    IsStopped words holds old new (BadLine number why)
StopsRun words holds old new (NoTree refusal) = IsStopped words holds old new (NoTree refusal)
StopsRun words holds old new (WrongEdition named wanted) =
    IsStopped words holds old new (WrongEdition named wanted)
StopsRun words holds old new (NoPlan refusal) = IsStopped words holds old new (NoPlan refusal)
StopsRun words holds old new Memory = Unit {0}

-- the count of a name does not fall, and stays where the task does not give the name to be read
pub record CountsTask (task : Task) (old new : Counts) (name : List ℕ) : Type 0 where
  pub never_falls : old name ≤ new name
  pub stays : ((which : Input) → input_name task which ≡ Some name → ⊥) → new name ≡ old name

-- the count of a name does not fall, and stays where the words do not give the name to be read
pub record CountsReading (words : List (List ℕ)) (old new : Counts) (name : List ℕ) : Type 0 where
  pub never_falls : old name ≤ new name
  pub stays : ((task : Task) (which : Input) → IsTask words task → input_name task which ≡ Some name
      → ⊥) → new name ≡ old name

-- why there is no problem of a name
abbrev pub StopsProblem : Holdings → Counts → Counts → List ℕ → Cause → Type 0
StopsProblem holds old new name (Failed which) = (which ≡ input.Problem) × (old name < new name)
StopsProblem holds old new name (TooLong which) = (which ≡ input.Problem) × HoldsTooMuch holds name
StopsProblem holds old new name (NoProblem refusal) =
    IsBadFile holds name (λ bytes. IsNoProblem bytes refusal)
StopsProblem holds old new name Memory = Unit {0}
StopsProblem holds old new name _ = ⊥

-- a reading failed
abbrev pub IsReadingFault : Cause → Type 0
IsReadingFault (Failed which) = Unit {0}
IsReadingFault _ = ⊥

-- the answer ends with one of the statuses of an answer
abbrev pub IsAnswerStatus : ℕ → Type 0
IsAnswerStatus status = (status ≡ 0) ⊎ ((status ≡ 1) ⊎ (status ≡ 3))

-- ---- for private clauses

-- why there is no file of a name
abbrev pub Misses : Holdings → Counts → Counts → Input → List ℕ → Cause → Type 0
Misses holds old new which name (Failed other) = (other ≡ which) × (old name < new name)
Misses holds old new which name (TooLong other) = (other ≡ which) × HoldsTooMuch holds name
Misses holds old new which name Memory = Unit {0}
Misses holds old new which name _ = ⊥

-- why bytes are no problem
abbrev pub RefusesProblem : List ℕ → Cause → Type 0
RefusesProblem bytes (NoProblem refusal) = IsNoProblem bytes refusal
RefusesProblem bytes Memory = Unit {0}
RefusesProblem bytes _ = ⊥

-- why bytes are no solution
abbrev pub RefusesSolution : List ℕ → Cause → Type 0
RefusesSolution bytes (NoSolution refusal) = IsNoSolution bytes refusal
RefusesSolution bytes Memory = Unit {0}
RefusesSolution bytes _ = ⊥

-- why bytes are no text of a tree
abbrev pub RefusesTreeText : List ℕ → Cause → Type 0
RefusesTreeText bytes (NoTree refusal) = IsNoTree bytes refusal
RefusesTreeText bytes Memory = Unit {0}
RefusesTreeText bytes _ = ⊥

-- why bytes are no text of a tree of an edition
abbrev pub RefusesTree : List ℕ → ℕ → Cause → Type 0
RefusesTree bytes edition (NoTree refusal) = IsNoTree bytes refusal
RefusesTree bytes edition (WrongEdition named wanted) = (wanted ≡ edition) × (named ≢ edition)
    × IsTreeNamed named bytes
RefusesTree bytes edition Memory = Unit {0}
RefusesTree bytes edition _ = ⊥

-- why bytes are no plan's
abbrev pub RefusesPlan : List ℕ → Cause → Type 0
RefusesPlan bytes (NoPlan refusal) = IsNoSolution bytes refusal
RefusesPlan bytes Memory = Unit {0}
RefusesPlan bytes _ = ⊥

-- why there is no solution of a name
abbrev pub StopsSolution : Holdings → Counts → Counts → List ℕ → Cause → Type 0
StopsSolution holds old new name (Failed which) = (which ≡ input.Solution) × (old name < new name)
StopsSolution holds old new name (TooLong which) = (which ≡ input.Solution)
    × HoldsTooMuch holds name
StopsSolution holds old new name (NoSolution refusal) =
    IsBadFile holds name (λ bytes. IsNoSolution bytes refusal)
StopsSolution holds old new name Memory = Unit {0}
StopsSolution holds old new name _ = ⊥

-- why there is no tree of an edition of a name
abbrev pub StopsTree : Holdings → Counts → Counts → ℕ → List ℕ → Cause → Type 0
StopsTree holds old new edition name (Failed which) = (which ≡ input.Tree) × (old name < new name)
StopsTree holds old new edition name (TooLong which) = (which ≡ input.Tree)
    × HoldsTooMuch holds name
StopsTree holds old new edition name (NoTree refusal) =
    IsBadFile holds name (λ bytes. IsNoTree bytes refusal)
StopsTree holds old new edition name (WrongEdition named wanted) = (wanted ≡ edition)
    × (named ≢ edition) × IsBadFile holds name (IsTreeNamed named)
StopsTree holds old new edition name Memory = Unit {0}
StopsTree holds old new edition name _ = ⊥

-- why there is no plan of a name
abbrev pub StopsPlan : Holdings → Counts → Counts → List ℕ → Cause → Type 0
StopsPlan holds old new name (Failed which) = (which ≡ input.Plan) × (old name < new name)
StopsPlan holds old new name (TooLong which) = (which ≡ input.Plan) × HoldsTooMuch holds name
StopsPlan holds old new name (NoPlan refusal) =
    IsBadFile holds name (λ bytes. IsNoSolution bytes refusal)
StopsPlan holds old new name Memory = Unit {0}
StopsPlan holds old new name _ = ⊥

-- the cause is want of memory
abbrev pub IsWant : Cause → Type 0
IsWant cause = cause ≡ Memory

-- why there is no plan of a name that may be given
abbrev pub StopsGivenPlan : Holdings → Counts → Counts → Option (List ℕ) → Cause → Type 0
StopsGivenPlan holds old new None cause = IsWant cause
StopsGivenPlan holds old new (Some name) cause = StopsPlan holds old new name cause

-- why fixings are not taken
abbrev pub StopsFixings : Holdings → Counts → Counts → Problem → List ℕ → Cause → Type 0
StopsFixings holds old new problem name (Failed which) = (which ≡ input.Fixings)
    × (old name < new name)
StopsFixings holds old new problem name (BadLine number why) =
    IsRefusedLine holds problem name number why
StopsFixings holds old new problem name Memory = Unit {0}
StopsFixings holds old new problem name _ = ⊥

-- why fixings of a name that may be given are not taken
abbrev pub StopsGivenFixings : Holdings → Counts → Counts → Problem → Option (List ℕ) → Cause
    → Type 0
StopsGivenFixings holds old new problem None cause = IsWant cause
StopsGivenFixings holds old new problem (Some name) cause =
    StopsFixings holds old new problem name cause

-- why a tree is not checked, behind other readings that took a problem, fixings and the tree
abbrev pub StopsFromPlan : Holdings → Counts → Counts → Problem → List Fixing → Verdict
    → List TreeNode → Option (List ℕ) → Cause → Type 0
StopsFromPlan holds old new problem fixings verdict tree plan cause =
    (before : Holdings) (first : Counts) (problem_name : List ℕ) (fixings_name : Option (List ℕ))
    (tree_name : List ℕ) (edition : ℕ) → ReadsBehind before holds first old
    → IsProblemFile before problem_name problem
    → AreOfEdition before problem fixings_name fixings edition
    → IsTreeFile before tree_name edition verdict tree
    → StopsTask before first new (Check problem_name tree_name fixings_name plan) cause

-- so behind those that took a problem and fixings
abbrev pub StopsFromTree : Holdings → Counts → Counts → Problem → List Fixing → ℕ → List ℕ
    → Option (List ℕ) → Cause → Type 0
StopsFromTree holds old new problem fixings edition tree plan cause =
    (before : Holdings) (first : Counts) (problem_name : List ℕ) (fixings_name : Option (List ℕ))
    → ReadsBehind before holds first old
    → IsProblemFile before problem_name problem
    → AreOfEdition before problem fixings_name fixings edition
    → StopsTask before first new (Check problem_name tree fixings_name plan) cause

-- so behind that of a problem
abbrev pub StopsFromFixings : Holdings → Counts → Counts → Problem → Option (List ℕ) → List ℕ
    → Option (List ℕ) → Cause → Type 0
StopsFromFixings holds old new problem fixings tree plan cause =
    (before : Holdings) (first : Counts) (problem_name : List ℕ)
    → ReadsBehind before holds first old → IsProblemFile before problem_name problem
    → StopsTask before first new (Check problem_name tree fixings plan) cause

-- a reading of the file of the fixings failed, or behind them one of the solution's
abbrev pub FailsOf : Holdings → Counts → Counts → Problem → Option (List ℕ) → List ℕ → Input
    → Type 0
FailsOf holds old new problem fixings solution input.Problem = ⊥
FailsOf holds old new problem fixings solution input.Fixings = (name : List ℕ)
    × (fixings ≡ Some name) × (old name < new name)
FailsOf holds old new problem fixings solution input.Solution = HasFixings holds problem fixings
    × (old solution < new solution)
FailsOf holds old new problem fixings solution input.Tree = ⊥
FailsOf holds old new problem fixings solution input.Plan = ⊥

-- why a solution is not judged for a problem
abbrev pub StopsJudging : Holdings → Counts → Counts → Problem → Option (List ℕ) → List ℕ → Cause
    → Type 0
StopsJudging holds old new problem fixings solution (Words text) = ⊥
StopsJudging holds old new problem fixings solution (Failed which) =
    FailsOf holds old new problem fixings solution which
StopsJudging holds old new problem fixings solution (TooLong which) = (which ≡ input.Solution)
    × HasFixings holds problem fixings × HoldsTooMuch holds solution
StopsJudging holds old new problem fixings solution (NoProblem refusal) = ⊥
StopsJudging holds old new problem fixings solution (NoSolution refusal) =
    HasFixings holds problem fixings × IsBadFile holds solution
    (λ bytes. IsNoSolution bytes refusal)
StopsJudging holds old new problem fixings solution (BadLine number why) = (name : List ℕ)
    × (fixings ≡ Some name) × IsRefusedLine holds problem name number why
StopsJudging holds old new problem fixings solution (NoTree refusal) = ⊥
StopsJudging holds old new problem fixings solution (WrongEdition named wanted) = ⊥
StopsJudging holds old new problem fixings solution (NoPlan refusal) = ⊥
StopsJudging holds old new problem fixings solution Memory = Unit {0}

-- why a solution is not judged for the problem of a file
abbrev pub StopsVerify : Holdings → Counts → Counts → List ℕ → Option (List ℕ) → List ℕ → Cause
    → Type 0
StopsVerify holds old new problem fixings solution cause =
    StopsProblem holds old new problem cause
    ⊎ ((read : Problem) × IsProblemFile holds problem read
    × StopsJudging holds old new read fixings solution cause)

-- why the problem of a file is not solved with fixings of a name that may be given
abbrev pub StopsSolve : Holdings → Counts → Counts → List ℕ → Option (List ℕ) → Cause → Type 0
StopsSolve holds old new problem fixings cause =
    StopsProblem holds old new problem cause
    ⊎ ((read : Problem) × IsProblemFile holds problem read
    × StopsGivenFixings holds old new read fixings cause)

-- why the lines of a feed are not taken, where they are told
abbrev pub RefusesLines : Problem → Option (List (List ℕ)) → Cause → Type 0
RefusesLines problem told (Failed which) = which ≡ input.Fixings
RefusesLines problem told (BadLine number why) =
    IfSome told (λ lines. StopsAt problem lines number why)
RefusesLines problem told Memory = Unit {0}
RefusesLines problem told _ = ⊥

-- the cause is no file that is too long
abbrev pub IsNotLong : Cause → Type 0
IsNotLong (TooLong which) = ⊥
IsNotLong _ = Unit {0}
