-- Answers to words whose files are told.
use Rattle.std.proofs.Common.{◌≡◌, ◌∙◌, ℕ, List, length, refl, sym, ap, subst, inl, ◌⊎◌, inr}
use Rattle.std.specs.Prelude.{Option, Some, None}
use Rattle.disp_model.specs.declared.entry.Entry.{Entry}
use Rattle.disp_model.specs.declared.entry.Standing.{Standing}
use Rattle.disp_model.specs.declared.fixing.Change.{Change}
use Rattle.disp_model.specs.declared.problem.Problem.{Problem}
use Rattle.disp_model.specs.declared.settings.Settings.{Settings}
use Rattle.disp_model.specs.Changes.{standing_of}
use Rattle.disp_model.specs.History.{edition_of}
use Rattle.command_words.specs.declared.task.SolveTask.{SolveTask}
use Rattle.command_words.specs.declared.task.Task.{Task}
use Rattle.command_words.specs.declared.task.Task.TheVariants.{Solve, Verify, Report, Make, Check, Roll}
use Rattle.command_words.specs.Settings.{settings_of}
use Rattle.command_words.specs.Task.{IsTask, AreRefused}
use Rattle.solved_problems.specs.Promised.{Promises}
use Rattle.disp_outside.specs.States.{Holdings, Counts}
use Rattle.answered_tasks.specs.declared.cause.Cause.{Cause}
use Rattle.answered_tasks.specs.declared.cause.Cause.TheVariants.{Words, Failed, TooLong, NoProblem, NoSolution, BadLine, NoTree, WrongEdition, NoPlan, Memory}
use Rattle.answered_tasks.specs.declared.cause.Input.TheVariants as input
use Rattle.answered_tasks.specs.declared.judge.Telling.TheVariants.{Cost, Table}
use Rattle.answered_tasks.specs.declared.outcome.Answer.{Answer}
use Rattle.answered_tasks.specs.Answers.{IsFinished, AnswersSolve, AnswersTask, IsAnswer}
use Rattle.answered_tasks.specs.Causes.{IsStopped, StopsRun, StopsTask}
use Rattle.answered_tasks.specs.Files.{IsProblemFile, AreAsked}
use Rattle.answer_laws.specs.Agreed.{IsFromOutside, SayTheSame, AsksForJudgement, AreOfOneEdition, IsOfWords, AreAlike}
use Rattle.answer_laws.specs.Told.{TellsInputs, AreTold}
use Rattle.answer_laws.proofs.Causes.{one_cause}
use Rattle.answer_laws.proofs.Checked.{checks_agree}
use Rattle.answer_laws.proofs.Files.{one_problem, one_asked}
use Rattle.answer_laws.proofs.Judged.{judgements_agree}
use Rattle.answer_laws.proofs.Searched.{one_edition_searched, marks_agree}
use Rattle.answer_laws.proofs.Taken.{TellsGiven, answer_takes, not_stopped}
use Rattle.answer_laws.proofs.Tasks.{one_task, not_refused}

-- the answer is one to the task that the words ask for
pub answer_of : (words : List (List ℕ)) (holds : Holdings) (task : Task) (answer : Answer)
    → IsTask words task → IsAnswer words holds answer → AnswersTask holds task answer
answer_of words holds task answer asked is =
    subst (λ (t : Task). AnswersTask holds t answer) (one_task words is.task task is.asked asked)
    is.answers

module _ (words : List (List ℕ)) (holds : Holdings) (old new : Counts) (told : AreTold words holds)
    (answer : Answer) (is : IsAnswer words holds answer) where
  stopped : (cause : Cause) → IsStopped words holds old new cause → IsFromOutside cause
  stopped cause stops =
      let tells = told stops.task stops.asked in
      not_stopped holds old new stops.task tells
      (answer_takes holds stops.task answer tells
      (answer_of words holds stops.task answer stops.asked is)) cause stops.stops

  -- where there is an answer nothing stops the run but want of memory or a failed reading
  pub answer_or_cause : (cause : Cause) → StopsRun words holds old new cause → IsFromOutside cause
  answer_or_cause (Words text) refused = absurd (not_refused words is.task is.asked refused)
  answer_or_cause (Failed which) stops = stopped (Failed which) stops
  answer_or_cause (TooLong which) stops = stopped (TooLong which) stops
  answer_or_cause (NoProblem refusal) stops = stopped (NoProblem refusal) stops
  answer_or_cause (NoSolution refusal) stops = stopped (NoSolution refusal) stops
  answer_or_cause (BadLine number why) stops = stopped (BadLine number why) stops
  answer_or_cause (NoTree refusal) stops = stopped (NoTree refusal) stops
  answer_or_cause (WrongEdition named wanted) stops = stopped (WrongEdition named wanted) stops
  answer_or_cause (NoPlan refusal) stops = stopped (NoPlan refusal) stops
  answer_or_cause Memory stops = inl refl

-- ---- two judgements

task_agrees : (holds : Holdings) (task : Task) (one other : Answer) → AsksForJudgement task
    → TellsInputs holds task → AnswersTask holds task one → AnswersTask holds task other
    → SayTheSame one other
task_agrees holds (Solve task) one other asks tells a b = absurd asks
task_agrees holds (Verify task) one other asks tells a b =
    judgements_agree holds Cost task one other tells a b
task_agrees holds (Report task) one other asks tells a b =
    judgements_agree holds Table task one other tells a b
task_agrees holds (Make task) one other asks tells a b = absurd asks
task_agrees holds (Check problem tree fixings plan) one other asks tells a b =
    checks_agree holds problem tree fixings plan one other tells a b
task_agrees holds (Roll task) one other asks tells a b = absurd asks

pub answers_agree : (words : List (List ℕ)) (holds : Holdings) (task : Task) (one other : Answer)
    → IsTask words task → AsksForJudgement task → AreTold words holds → IsAnswer words holds one
    → IsAnswer words holds other → SayTheSame one other
answers_agree words holds task one other asked judges told a b =
    task_agrees holds task one other judges (told task asked)
    (answer_of words holds task one asked a) (answer_of words holds task other asked b)

-- ---- two searches

finished_agree : (problem : Problem) (settings other : Settings) (asked : List Change)
    (history later : List Entry) (one two : Standing)
    → IsFinished problem settings asked history one → IsFinished problem other asked later two
    → AreOfOneEdition one two
finished_agree problem settings other asked history later one two a b =
    let same = one_edition_searched problem settings other asked history later a.searched
    b.searched in
    record {
      edition = a.stands.edition ∙ ap (λ (l : List Change). length l) same ∙ sym b.stands.edition;
      marks = marks_agree problem settings other (edition_of history) one.mark two.mark a.promise
          (subst (λ (l : List Change). Promises problem other (standing_of l) two.mark) (sym same)
          b.promise);
    }

-- the changes that the lines of a file ask for
same_asked : (holds : Holdings) (problem : Problem) (given : Option (List ℕ))
    (one other : List Change) → TellsGiven holds given → AreAsked holds problem given one
    → AreAsked holds problem given other → one ≡ other
same_asked holds problem None one other tells a b = a ∙ sym b
same_asked holds problem (Some name) one other tells a b =
    one_asked holds name (tells name refl) problem one other a b

pub searches_agree : (holds : Holdings) (task other : SolveTask) (one two : Answer)
    → TellsInputs holds (Solve task) → task.problem ≡ other.problem
    → task.fixings ≡ other.fixings → (a : AnswersSolve holds task one)
    → (b : AnswersSolve holds other two)
    → AreOfOneEdition a.solved.standing b.solved.standing
searches_agree holds task other one two tells problem_name fixings_name a b =
    let problem : b.problem ≡ a.problem =
    one_problem holds task.problem (tells input.Problem task.problem refl) b.problem a.problem
    (subst (λ (n : List ℕ). IsProblemFile holds n b.problem) (sym problem_name) b.file) a.file in
    let named : AreAsked holds b.problem task.fixings b.asked =
    subst (λ (n : Option (List ℕ)). AreAsked holds b.problem n b.asked) (sym fixings_name)
    b.lines in
    let asks : AreAsked holds a.problem task.fixings b.asked =
    subst (λ (p : Problem). AreAsked holds p task.fixings b.asked) problem named in
    let asked : b.asked ≡ a.asked =
    same_asked holds a.problem task.fixings b.asked a.asked (tells input.Fixings) asks a.lines in
    finished_agree a.problem (settings_of task) (settings_of other) a.asked one.journal two.journal
    a.solved.standing b.solved.standing a.solved.finished
    (subst (λ (p : Problem).
    IsFinished p (settings_of other) a.asked two.journal b.solved.standing) problem
    (subst (λ (l : List Change).
    IsFinished b.problem (settings_of other) l two.journal b.solved.standing) asked
    b.solved.finished))

-- ---- two causes

-- why a run stopped: from outside, for its words, or in its task
data Why (words : List (List ℕ)) (holds : Holdings) (old new : Counts) (cause : Cause)
    : Type 0 where
  from_outside : IsFromOutside cause → Why words holds old new cause
  of_words : IsOfWords cause → AreRefused words → Why words holds old new cause
  of_task : IsStopped words holds old new cause → Why words holds old new cause

why_stopped : (words : List (List ℕ)) (holds : Holdings) (old new : Counts) (cause : Cause)
    → StopsRun words holds old new cause → Why words holds old new cause
why_stopped words holds old new (Words text) refused = of_words tt refused
why_stopped words holds old new (Failed which) stops = from_outside (inr tt)
why_stopped words holds old new (TooLong which) stops = of_task stops
why_stopped words holds old new (NoProblem refusal) stops = of_task stops
why_stopped words holds old new (NoSolution refusal) stops = of_task stops
why_stopped words holds old new (BadLine number why) stops = of_task stops
why_stopped words holds old new (NoTree refusal) stops = of_task stops
why_stopped words holds old new (WrongEdition named wanted) stops = of_task stops
why_stopped words holds old new (NoPlan refusal) stops = of_task stops
why_stopped words holds old new Memory stops = from_outside (inl refl)

module _ (words : List (List ℕ)) (holds : Holdings) (old new before after : Counts)
    (told : AreTold words holds) (one other : Cause) where
  same_task : (a : IsStopped words holds old new one)
      → (b : IsStopped words holds before after other) → AreAlike one other
  same_task a b =
      let also : StopsTask holds before after a.task other =
      subst (λ (t : Task). StopsTask holds before after t other)
      (one_task words b.task a.task b.asked a.asked) b.stops in
      by (one_cause holds a.task (told a.task a.asked) old new before after one other a.stops also)
    where
      by : IsFromOutside one ⊎ (IsFromOutside other ⊎ (one ≡ other)) → AreAlike one other
      by (inl x) = inl x
      by (inr (inl x)) = inr (inl x)
      by (inr (inr same)) = inr (inr (inr same))

  alike : Why words holds old new one → Why words holds before after other → AreAlike one other
  alike (from_outside x) b = inl x
  alike a (from_outside y) = inr (inl y)
  alike (of_words x refused) (of_words y also) = inr (inr (inl (x, y)))
  alike (of_words x refused) (of_task b) = absurd (not_refused words b.task b.asked refused)
  alike (of_task a) (of_words y refused) = absurd (not_refused words a.task a.asked refused)
  alike (of_task a) (of_task b) = same_task a b

-- two causes that stop a run are one, but for want of memory, failed readings and what clap says
pub causes_agree : (words : List (List ℕ)) (holds : Holdings) (old new before after : Counts)
    (one other : Cause) → AreTold words holds → StopsRun words holds old new one
    → StopsRun words holds before after other → AreAlike one other
causes_agree words holds old new before after one other told a b =
    alike words holds old new before after told one other (why_stopped words holds old new one a)
    (why_stopped words holds before after other b)
