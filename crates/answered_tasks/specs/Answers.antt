-- What the program finds for words, from the files of a shelf.
use Rattle.std.specs.Prelude.{◌≡◌, ◌⊎◌, ℕ, List, [], ◌∷◌, ◌++◌, Option, Some, None, option_map, option_and_then}
use Rattle.disp_model.specs.declared.plan.Event.{Event}
use Rattle.disp_model.specs.declared.fixing.Fixing.{Fixing}
use Rattle.disp_model.specs.declared.entry.Entry.{Entry}
use Rattle.disp_model.specs.declared.entry.Mark.{Mark}
use Rattle.disp_model.specs.declared.entry.Mark.TheVariants as mark
use Rattle.disp_model.specs.declared.entry.Standing.{Standing}
use Rattle.disp_model.specs.declared.problem.Problem.{Problem}
use Rattle.disp_model.specs.declared.tree.TreeNode.{TreeNode}
use Rattle.disp_model.specs.declared.tree.Verdict.{Verdict}
use Rattle.disp_model.specs.declared.tree.Verdict.TheVariants as verdict
use Rattle.disp_model.specs.History.{edition_of, last_plan, IsStanding}
use Rattle.disp_model.specs.declared.fixing.Change.{Change}
use Rattle.disp_model.specs.declared.settings.Rule.TheVariants.{Free}
use Rattle.disp_model.specs.declared.settings.Settings.{Settings}
use Rattle.solution_verifier.specs.declared.fault.Fault.{Fault}
use Rattle.solution_verifier.specs.First.{IsRight, IsFirstFault}
use Rattle.tree_checker.specs.declared.why.Checked.{Checked}
use Rattle.tree_checker.specs.declared.why.Checked.TheVariants.{Accepted, Refused}
use Rattle.tree_checker.specs.Checks.{IsChecked}
use Rattle.solved_problems.specs.Promised.{Promises}
use Rattle.solved_problems.specs.Solved.{IsSearched}
use Rattle.command_words.specs.declared.task.JudgeTask.{JudgeTask}
use Rattle.command_words.specs.declared.task.MakeTask.{MakeTask}
use Rattle.command_words.specs.declared.task.SolveTask.{SolveTask}
use Rattle.command_words.specs.declared.task.Task.{Task}
use Rattle.command_words.specs.declared.task.Task.TheVariants.{Solve, Verify, Report, Make, Check, Roll}
use Rattle.command_words.specs.Settings.{settings_of}
use Rattle.command_words.specs.Task.{IsTask}
use Rattle.answered_tasks.specs.declared.outcome.Answer.{Answer}
use Rattle.answered_tasks.specs.declared.judge.Telling.{Telling}
use Rattle.answered_tasks.specs.declared.judge.Telling.TheVariants.{Cost, Table}
use Rattle.dispatch_reports.specs.Tables.{report_lines}
use Rattle.instance_maker.specs.Made.{IsMade}
use Rattle.journal_printer.specs.Journal.{tree_file}
use Rattle.text_puts.specs.declared.put.Put.{Put}
use Rattle.disp_outside.specs.States.{Holdings}
use Rattle.text_puts.specs.Puts.{PutsUnder}
use Rattle.answered_tasks.specs.Files.{IsProblemFile, IsSolutionFile, AreAsked, AreFixings, AreOfEdition, IsTreeFile, IsPlanFile}
use Rattle.answered_tasks.specs.Settled.{settled_tree, ShowsMark}
use Rattle.answered_tasks.specs.Texts.{answer_lines, made_lines, plan_line, problem_file, valid_line, fault_line, accepted_line, refused_line, plan_fault_line, no_plan_line}

-- the status for a mark
abbrev pub status_of_mark : Mark → ℕ
status_of_mark mark.Working = 5
status_of_mark (mark.Optimal cost) = 0
status_of_mark mark.Infeasible = 1
status_of_mark (mark.Stopped spent bound) = 3

-- a text is to be put under a name, where both are there
abbrev pub put_under : Option (List ℕ) → Option (List ℕ) → List Put
put_under None text = []
put_under (Some name) None = []
put_under (Some name) (Some text) = record { name = name; bytes = text } ∷ []

-- the plan is to be put where there is one, and behind it the tree where the edition is settled
abbrev pub puts_of : SolveTask → ℕ → Option (List Event × ℕ) → Option (Verdict × List TreeNode)
    → List Put
puts_of task edition plan settled =
    put_under task.plan (option_map plan_line plan)
    ++ put_under task.tree (option_map (tree_file edition) settled)

-- the plan of the best cost, where there is one
abbrev pub best_plan : Standing → Option (List Event × ℕ) → Option (List Event × ℕ)
best_plan standing last = option_and_then (λ cost. last) standing.best

-- where the search of a problem stands, with the changes that are asked: the journal is a legal
-- history, which begins with these and was searched until the edition is closed; its mark promises
-- what it says, and where it tells a verdict a tree shows that
pub record IsFinished (problem : Problem) (settings : Settings) (asked : List Change)
    (journal : List Entry) (standing : Standing) : Type 0 where
  pub searched : IsSearched problem settings asked journal
  pub stands : IsStanding problem journal standing
  pub promise : Promises problem settings (edition_of journal) standing.mark
  pub shown : ShowsMark problem (edition_of journal) standing.mark
      (settled_tree standing.edition journal)

-- the problem is solved with the changes that are asked: the lines are those for where the search
-- stands, and the plan and the tree are to be put
pub record IsSolved (problem : Problem) (task : SolveTask) (asked : List Change) (answer : Answer) :
    Type 0 where
  pub standing : Standing
  pub finished : IsFinished problem (settings_of task) asked answer.journal standing
  pub status : answer.status ≡ status_of_mark standing.mark
  pub lines : answer.lines
      ≡ answer_lines standing (best_plan standing (last_plan answer.journal)) standing.mark
  pub puts : answer.puts ≡ puts_of task standing.edition
      (best_plan standing (last_plan answer.journal)) (settled_tree standing.edition answer.journal)

-- the named files are a problem's and fixings', if they are given, and the problem is solved
pub record AnswersSolve (holds : Holdings) (task : SolveTask) (answer : Answer) : Type 0 where
  pub problem : Problem
  pub file : IsProblemFile holds task.problem problem
  pub asked : List Change
  pub lines : AreAsked holds problem task.fixings asked
  pub solved : IsSolved problem task asked answer

-- what is told of a valid plan: its cost, or the table of its trains
abbrev pub told_lines : Telling → Problem → List Event → ℕ → List (List ℕ)
told_lines Cost problem plan cost = valid_line cost ∷ []
told_lines Table problem plan cost = report_lines problem plan

-- the plan is valid, costs so much, and a stated cost is that
pub record SaysValid (telling : Telling) (problem : Problem) (fixings : List Fixing)
    (plan : List Event) (stated : Option ℕ) (status : ℕ) (lines : List (List ℕ)) : Type 0 where
  pub cost : ℕ
  pub right : IsRight problem fixings plan stated cost
  pub status_is : status ≡ 0
  pub lines_are : lines ≡ told_lines telling problem plan cost

-- the plan has this first fault
pub record SaysFault (problem : Problem) (fixings : List Fixing) (plan : List Event)
    (stated : Option ℕ) (status : ℕ) (lines : List (List ℕ)) : Type 0 where
  pub fault : Fault
  pub first : IsFirstFault problem fixings plan stated fault
  pub status_is : status ≡ 1
  pub lines_are : lines ≡ fault_line problem fault ∷ []

-- a plan with a stated cost is judged
pub record IsJudged (telling : Telling) (problem : Problem) (fixings : List Fixing)
    (plan : List Event) (stated : Option ℕ) (answer : Answer) : Type 0 where
  pub journal : answer.journal ≡ []
  pub puts : answer.puts ≡ []
  pub says : SaysValid telling problem fixings plan stated answer.status answer.lines
      ⊎ SaysFault problem fixings plan stated answer.status answer.lines

-- the named files are a problem's, fixings', if they are given, and a solution's, which is judged
pub record AnswersJudge (holds : Holdings) (telling : Telling) (task : JudgeTask) (answer : Answer)
    :
    Type 0 where
  pub problem : Problem
  pub problem_file : IsProblemFile holds task.problem problem
  pub fixings : List Fixing
  pub fixings_file : AreFixings holds problem task.fixings fixings
  pub plan : List Event
  pub stated : Option ℕ
  pub solution_file : IsSolutionFile holds task.solution plan stated
  pub judged : IsJudged telling problem fixings plan stated answer

-- the first fault of a plan under a verdict of this cost: the first with the plan's own stated
-- cost, or where it has none, the first with the verdict's cost as stated
abbrev pub IsFaultUnder : Problem → List Fixing → List Event → Option ℕ → ℕ → Fault → Type 0
IsFaultUnder problem fixings plan stated cost fault =
    IsFirstFault problem fixings plan stated fault
    ⊎ ((actual : ℕ) × IsRight problem fixings plan stated actual
    × IsFirstFault problem fixings plan (Some cost) fault)

-- the line that is said of a plan with its stated cost behind a tree that is accepted, if one is:
-- none where the plan is valid, costs what the verdict says, and a stated cost is that
abbrev pub IsSaidOfPlan : Problem → List Fixing → Verdict → Option (List Event × Option ℕ)
    → Option (List ℕ) → Type 0
IsSaidOfPlan problem fixings verdict None said = said ≡ None
IsSaidOfPlan problem fixings verdict.Infeasible (Some plan) said = said ≡ Some no_plan_line
IsSaidOfPlan problem fixings (verdict.Optimal cost) (Some plan) None =
    IsRight problem fixings plan.0 plan.1 cost
IsSaidOfPlan problem fixings (verdict.Optimal cost) (Some plan) (Some line) =
    (fault : Fault) × IsFaultUnder problem fixings plan.0 plan.1 cost fault
    × (line ≡ plan_fault_line problem fault)

-- the lines for a tree that is accepted, with what is said of a plan, and the status
abbrev pub accepted_lines : Verdict → Option (List ℕ) → List (List ℕ)
accepted_lines verdict None = accepted_line verdict ∷ []
accepted_lines verdict (Some said) = accepted_line verdict ∷ said ∷ []

abbrev pub accepted_status : Option (List ℕ) → ℕ
accepted_status None = 0
accepted_status (Some said) = 1

-- what is printed where the checker answers so
abbrev pub SaysChecked : Problem → List Fixing → Verdict → Option (List Event × Option ℕ) → Checked
    → ℕ → List (List ℕ) → Type 0
SaysChecked problem fixings verdict plan Accepted status lines =
    (said : Option (List ℕ)) × IsSaidOfPlan problem fixings verdict plan said
    × (status ≡ accepted_status said) × (lines ≡ accepted_lines verdict said)
SaysChecked problem fixings verdict plan (Refused node why) status lines = (status ≡ 1)
    × (lines ≡ refused_line node why ∷ [])

-- a tree is checked for its verdict, and where it is accepted the plan is judged
pub record IsTreeChecked (problem : Problem) (fixings : List Fixing) (verdict : Verdict)
    (tree : List TreeNode) (plan : Option (List Event × Option ℕ)) (answer : Answer) : Type 0 where
  pub journal : answer.journal ≡ []
  pub puts : answer.puts ≡ []
  pub checked : Checked
  pub is_checked : IsChecked problem fixings verdict tree checked
  pub says : SaysChecked problem fixings verdict plan checked answer.status answer.lines

-- the named files are a problem's, fixings', if they are given, that of a tree of their edition,
-- and a solution's, if it is given; the tree is checked
pub record AnswersCheck (holds : Holdings) (problem_name tree_name : List ℕ)
    (fixings_name plan_name : Option (List ℕ)) (answer : Answer) : Type 0 where
  pub problem : Problem
  pub problem_file : IsProblemFile holds problem_name problem
  pub fixings : List Fixing
  pub edition : ℕ
  pub fixings_file : AreOfEdition holds problem fixings_name fixings edition
  pub verdict : Verdict
  pub tree : List TreeNode
  pub tree_file : IsTreeFile holds tree_name edition verdict tree
  pub plan : Option (List Event × Option ℕ)
  pub plan_file : IsPlanFile holds plan_name plan
  pub checked : IsTreeChecked problem fixings verdict tree plan answer

-- what the search of a problem that is made is given: the greatest budget, and the free rule
abbrev pub made_settings : Settings
made_settings = record { budget = 4294967295; rule = Free }

-- the problem of the number is made, and solved: the lines are those for its size and for where the
-- search stands, and the problem is to be put
pub record AnswersMake (task : MakeTask) (answer : Answer) : Type 0 where
  pub problem : Problem
  pub made : IsMade task.number task.trains problem
  pub standing : Standing
  pub finished : IsFinished problem made_settings [] answer.journal standing
  pub status : answer.status ≡ status_of_mark standing.mark
  pub lines : answer.lines ≡ made_lines problem standing
  pub puts : answer.puts ≡ put_under task.out (Some (problem_file problem))

-- this is the answer to a task; there is none to one to roll, which goes on from answer to answer
abbrev pub AnswersTask : Holdings → Task → Answer → Type 0
AnswersTask holds (Solve task) answer = AnswersSolve holds task answer
AnswersTask holds (Verify task) answer = AnswersJudge holds Cost task answer
AnswersTask holds (Report task) answer = AnswersJudge holds Table task answer
AnswersTask holds (Make task) answer = AnswersMake task answer
AnswersTask holds (Check problem tree fixings plan) answer =
    AnswersCheck holds problem tree fixings plan answer
AnswersTask holds (Roll task) answer = ⊥

-- the words ask for a task, and this is the answer to it
pub record IsAnswer (words : List (List ℕ)) (holds : Holdings) (answer : Answer) : Type 0 where
  pub task : Task
  pub asked : IsTask words task
  pub answers : AnswersTask holds task answer

-- the words give the name to be written, and there is something to put under it
pub record IsDuePut (words : List (List ℕ)) (holds : Holdings) (name : List ℕ) : Type 0 where
  pub answer : Answer
  pub is_answer : IsAnswer words holds answer
  pub under : PutsUnder name answer.puts

-- ---- for private clauses

-- so it is with the changes that lines of a file ask for, if there is one
pub record IsSolvedWith (holds : Holdings) (problem : Problem) (task : SolveTask) (answer : Answer)
    :
    Type 0 where
  pub asked : List Change
  pub lines : AreAsked holds problem task.fixings asked
  pub solved : IsSolved problem task asked answer

-- the answer is one line and a status
pub record IsOneLine (line : List ℕ) (status : ℕ) (answer : Answer) : Type 0 where
  pub journal : answer.journal ≡ []
  pub puts : answer.puts ≡ []
  pub lines : answer.lines ≡ line ∷ []
  pub status_is : answer.status ≡ status

-- the answer tells a valid plan
pub record IsTold (telling : Telling) (problem : Problem) (plan : List Event) (cost : ℕ)
    (answer : Answer) : Type 0 where
  pub journal : answer.journal ≡ []
  pub puts : answer.puts ≡ []
  pub lines : answer.lines ≡ told_lines telling problem plan cost
  pub status_is : answer.status ≡ 0

-- the name's file is a solution's, which is judged with fixings
pub record IsJudgedFile (holds : Holdings) (telling : Telling) (problem : Problem)
    (fixings : List Fixing) (name : List ℕ) (answer : Answer) : Type 0 where
  pub plan : List Event
  pub stated : Option ℕ
  pub file : IsSolutionFile holds name plan stated
  pub judged : IsJudged telling problem fixings plan stated answer

-- so is one with the fixings of a file, if there is one
pub record IsJudgedBy (holds : Holdings) (telling : Telling) (problem : Problem)
    (fixings_name : Option (List ℕ)) (name : List ℕ) (answer : Answer) : Type 0 where
  pub fixings : List Fixing
  pub fixings_file : AreFixings holds problem fixings_name fixings
  pub judged : IsJudgedFile holds telling problem fixings name answer

-- the answer is two lines and a status
pub record IsTwoLines (first second : List ℕ) (status : ℕ) (answer : Answer) : Type 0 where
  pub journal : answer.journal ≡ []
  pub puts : answer.puts ≡ []
  pub lines : answer.lines ≡ first ∷ second ∷ []
  pub status_is : answer.status ≡ status

-- the tree is accepted, and this is said of the plan
pub record IsAcceptedWith (verdict : Verdict) (said : Option (List ℕ)) (answer : Answer)
    : Type 0 where
  pub journal : answer.journal ≡ []
  pub puts : answer.puts ≡ []
  pub status_is : answer.status ≡ accepted_status said
  pub lines_are : answer.lines ≡ accepted_lines verdict said

-- the tree is accepted, and the plan is judged
pub record IsAcceptedFor (problem : Problem) (fixings : List Fixing) (verdict : Verdict)
    (plan : Option (List Event × Option ℕ)) (answer : Answer) : Type 0 where
  pub said : Option (List ℕ)
  pub said_of_plan : IsSaidOfPlan problem fixings verdict plan said
  pub accepted : IsAcceptedWith verdict said answer

-- the plan of a file, if there is one, is read, and the tree is checked
pub record IsCheckedWithPlan (holds : Holdings) (problem : Problem) (fixings : List Fixing)
    (verdict : Verdict) (tree : List TreeNode) (plan_name : Option (List ℕ)) (answer : Answer)
    : Type 0 where
  pub plan : Option (List Event × Option ℕ)
  pub plan_file : IsPlanFile holds plan_name plan
  pub checked : IsTreeChecked problem fixings verdict tree plan answer

-- so is the tree of a file, of this edition
pub record IsCheckedFile (holds : Holdings) (problem : Problem) (fixings : List Fixing)
    (edition : ℕ) (tree_name : List ℕ) (plan_name : Option (List ℕ)) (answer : Answer)
    : Type 0 where
  pub verdict : Verdict
  pub tree : List TreeNode
  pub tree_file : IsTreeFile holds tree_name edition verdict tree
  pub rest : IsCheckedWithPlan holds problem fixings verdict tree plan_name answer

-- so it is with the fixings of a file, if there is one
pub record IsCheckedBy (holds : Holdings) (problem : Problem) (fixings_name : Option (List ℕ))
    (tree_name : List ℕ) (plan_name : Option (List ℕ)) (answer : Answer) : Type 0 where
  pub fixings : List Fixing
  pub edition : ℕ
  pub fixings_file : AreOfEdition holds problem fixings_name fixings edition
  pub rest : IsCheckedFile holds problem fixings edition tree_name plan_name answer
