-- Two runs of the same words, over files that hold the same.
use Rattle.std.proofs.Common.{◌≡◌, ◌∙◌, ℕ, List, sym, ap, subst, inl, inr, arith}
use Rattle.std.specs.List.{concat}
use Rattle.disp_model.specs.declared.entry.Entry.{Entry}
use Rattle.disp_model.specs.declared.entry.Mark.{Mark}
use Rattle.disp_model.specs.declared.entry.Mark.TheVariants.{Working, Optimal, Infeasible, Stopped}
use Rattle.command_words.specs.declared.task.SolveTask.{SolveTask}
use Rattle.command_words.specs.declared.task.Task.{Task}
use Rattle.command_words.specs.declared.task.Task.TheVariants.{Solve}
use Rattle.command_words.specs.Task.{IsTask}
use Rattle.disp_outside.specs.States.{Holdings}
use Rattle.text_puts.specs.Outside.{Outside, Writes}
use Rattle.answered_tasks.specs.declared.cause.Cause.{Cause}
use Rattle.answered_tasks.specs.declared.cause.Cause.TheVariants.{Failed}
use Rattle.answered_tasks.specs.declared.outcome.Answer.{Answer}
use Rattle.answered_tasks.specs.Answers.{status_of_mark, IsAnswer}
use Rattle.answered_tasks.specs.Causes.{StopsRun, IsAnswerStatus, status_of}
use Rattle.answered_tasks.specs.Endings.{Ends}
use Rattle.answer_laws.specs.Agreed.{IsFromOutside, AsksForJudgement, AreOfOne, AnswerAlike}
use Rattle.answer_laws.specs.Told.{AreTold, HoldTheSame}
use Rattle.answer_laws.proofs.Answered.{answer_of, answer_or_cause, answers_agree, searches_agree}

-- a cause from outside has another status than 2
outside_is_not_refused : (cause : Cause) → IsFromOutside cause → status_of cause ≡ 2 → ⊥
outside_is_not_refused cause (inl want) two =
    let five : status_of cause ≡ 5 = ap status_of want in omega (arith, five, two)
outside_is_not_refused (Failed which) (inr fault) two = omega (arith, two)
outside_is_not_refused cause (inr fault) two = absurd fault

-- marks that agree are not optimal and infeasible
not_opposed : (one other : Mark) → AreOfOne one other → status_of_mark one ≡ 0
    → status_of_mark other ≡ 1 → ⊥
not_opposed Working other agree zero one = omega (arith, zero)
not_opposed (Optimal cost) Working agree zero one = agree
not_opposed (Optimal cost) (Optimal other) agree zero one = omega (arith, one)
not_opposed (Optimal cost) Infeasible agree zero one = agree
not_opposed (Optimal cost) (Stopped spent bound) agree zero one = omega (arith, one)
not_opposed Infeasible other agree zero one = omega (arith, zero)
not_opposed (Stopped spent bound) other agree zero one = omega (arith, zero)

module _ (words : List (List ℕ)) (old new other later : Outside) (status code : ℕ)
    (journal entries : List Entry) (told : AreTold words old.holds)
    (held : HoldTheSame old other) where
  -- the answer of the second run is one over the files of the first
  answered_there : (answer : Answer) → IsAnswer words other.holds answer
      → IsAnswer words old.holds answer
  answered_there answer is =
      subst (λ (h : Holdings). IsAnswer words h answer) (λ i name. held name i) is

  -- where the one run ends with an answer the other is not refused
  pub run_not_refused : Ends words old new status journal → Ends words other later code entries
      → IsAnswerStatus status → code ≡ 2 → ⊥
  run_not_refused one two answers two_is =
      let a = one.answered answers in
      let b = two.refused two_is in
      let stops : StopsRun words old.holds other.reading later.reading b.cause =
      subst (λ (h : Holdings). StopsRun words h other.reading later.reading b.cause)
      (λ i name. held name i) b.stops in
      outside_is_not_refused b.cause
      (answer_or_cause words old.holds other.reading later.reading told a.answer a.is_answer b.cause
      stops) b.status

  -- two judgements end alike
  pub runs_judge_alike : (task : Task) → IsTask words task → AsksForJudgement task
      → Ends words old new status journal → Ends words other later code entries
      → IsAnswerStatus status → IsAnswerStatus code
      → AnswerAlike old new other later status code
  runs_judge_alike task asked judges one two answers also =
      let a = one.answered answers in
      let b = two.answered also in
      let same = answers_agree words old.holds task a.answer b.answer asked judges told a.is_answer
      (answered_there b.answer b.is_answer) in
      record {
        same = a.status_is ∙ same.status ∙ sym b.status_is;
        text = concat a.answer.lines;
        written = a.written;
        also_written = subst (λ (lines : List (List ℕ)).
            Writes other.written later.written (concat lines)) (sym same.lines) b.written;
      }

  -- two searches do not end with a plan of least cost and without any plan
  pub runs_solve_alike : (task : SolveTask) → IsTask words (Solve task)
      → Ends words old new status journal → Ends words other later code entries
      → status ≡ 0 → code ≡ 1 → ⊥
  runs_solve_alike task asked one two zero_is one_is =
      let a = one.answered (inl zero_is) in
      let b = two.answered (inr (inl one_is)) in
      let first = answer_of words old.holds (Solve task) a.answer asked a.is_answer in
      let second = answer_of words old.holds (Solve task) b.answer asked
      (answered_there b.answer b.is_answer) in
      let agree = searches_agree old.holds task task a.answer b.answer (told (Solve task) asked)
      (λ i. task.problem) (λ i. task.fixings) first second in
      not_opposed first.solved.standing.mark second.solved.standing.mark agree.marks
      (sym first.solved.status ∙ sym a.status_is ∙ zero_is)
      (sym second.solved.status ∙ sym b.status_is ∙ one_is)
