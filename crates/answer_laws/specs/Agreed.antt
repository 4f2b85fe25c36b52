-- How answers and causes agree.
use Rattle.std.specs.Prelude.{◌≡◌, ◌⊎◌, ℕ, ◌≤◌, List}
use Rattle.disp_model.specs.declared.entry.Mark.{Mark}
use Rattle.disp_model.specs.declared.entry.Mark.TheVariants.{Working, Optimal, Infeasible, Stopped}
use Rattle.disp_model.specs.declared.entry.Standing.{Standing}
use Rattle.command_words.specs.declared.task.Task.{Task}
use Rattle.command_words.specs.declared.task.Task.TheVariants.{Solve, Verify, Report, Make, Check, Roll}
use Rattle.text_puts.specs.Outside.{Outside, Writes}
use Rattle.answered_tasks.specs.declared.cause.Cause.{Cause}
use Rattle.answered_tasks.specs.declared.cause.Cause.TheVariants.{Words, Memory}
use Rattle.answered_tasks.specs.declared.outcome.Answer.{Answer}
use Rattle.answered_tasks.specs.Causes.{IsReadingFault}

-- the cause is want of memory, or that a reading failed
abbrev pub IsFromOutside : Cause → Type 0
IsFromOutside cause = (cause ≡ Memory) ⊎ IsReadingFault cause

-- the cause is that the words are refused
abbrev pub IsOfWords : Cause → Type 0
IsOfWords (Words text) = Unit {0}
IsOfWords _ = ⊥

-- two causes are one, but for want of memory, failed readings, and what clap says of refused words
abbrev pub AreAlike : Cause → Cause → Type 0
AreAlike one other =
    IsFromOutside one ⊎ (IsFromOutside other ⊎ ((IsOfWords one × IsOfWords other) ⊎ (one ≡ other)))

-- the task is to judge a solution, or to check a tree
abbrev pub AsksForJudgement : Task → Type 0
AsksForJudgement (Solve task) = ⊥
AsksForJudgement (Verify task) = Unit {0}
AsksForJudgement (Report task) = Unit {0}
AsksForJudgement (Make task) = ⊥
AsksForJudgement (Check problem tree fixings plan) = Unit {0}
AsksForJudgement (Roll task) = ⊥

-- two answers end with one status, write the same lines, put the same, and have one journal
pub record SayTheSame (one other : Answer) : Type 0 where
  pub status : one.status ≡ other.status
  pub lines : one.lines ≡ other.lines
  pub journal : one.journal ≡ other.journal
  pub puts : one.puts ≡ other.puts

-- two runs end with one status, and the same text was written
pub record AnswerAlike (old new other later : Outside) (status code : ℕ) : Type 0 where
  pub same : status ≡ code
  pub text : List ℕ
  pub written : Writes old.written new.written text
  pub also_written : Writes other.written later.written text

-- two marks of one edition of one problem: optimal costs are one, what is optimal is not
-- infeasible, and no bound is above the optimal cost; none is worked on
abbrev pub AreOfOne : Mark → Mark → Type 0
AreOfOne Working other = ⊥
AreOfOne (Optimal cost) Working = ⊥
AreOfOne (Optimal cost) (Optimal other) = cost ≡ other
AreOfOne (Optimal cost) Infeasible = ⊥
AreOfOne (Optimal cost) (Stopped spent bound) = bound ≤ cost
AreOfOne Infeasible Working = ⊥
AreOfOne Infeasible (Optimal cost) = ⊥
AreOfOne Infeasible Infeasible = Unit {0}
AreOfOne Infeasible (Stopped spent bound) = Unit {0}
AreOfOne (Stopped spent bound) Working = ⊥
AreOfOne (Stopped spent bound) (Optimal cost) = bound ≤ cost
AreOfOne (Stopped spent bound) Infeasible = Unit {0}
AreOfOne (Stopped spent bound) (Stopped other least) = Unit {0}

-- two searches stand at one edition, and their marks agree
pub record AreOfOneEdition (one other : Standing) : Type 0 where
  pub edition : one.edition ≡ other.edition
  pub marks : AreOfOne one.mark other.mark
