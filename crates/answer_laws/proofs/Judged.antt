-- Two judgements of the same files say the same.
use Rattle.std.proofs.Common.{◌≡◌, ◌∙◌, ◌⊎◌, ℕ, List, [], ◌∷◌, refl, sym, ap, subst, inl, inr}
use Rattle.std.specs.Prelude.{Option, Result, Ok, Err}
use Rattle.disp_model.specs.declared.fixing.Fixing.{Fixing}
use Rattle.disp_model.specs.declared.plan.Event.{Event}
use Rattle.disp_model.specs.declared.problem.Problem.{Problem}
use Rattle.command_words.specs.declared.task.JudgeTask.{JudgeTask}
use Rattle.solution_verifier.specs.declared.fault.Fault.{Fault}
use Rattle.solution_verifier.specs.First.{IsRight, IsFirstFault}
use Rattle.solution_verifier.proofs.Firsts.{fault_right, fault_first}
use Rattle.disp_outside.specs.States.{Holdings}
use Rattle.answered_tasks.specs.declared.cause.Input.{Input}
use Rattle.answered_tasks.specs.declared.cause.Input.TheVariants as input
use Rattle.answered_tasks.specs.declared.judge.Telling.{Telling}
use Rattle.answered_tasks.specs.declared.outcome.Answer.{Answer}
use Rattle.answered_tasks.specs.Answers.{
  told_lines,
  SaysValid,
  SaysFault,
  IsJudged,
  AnswersJudge,
}
use Rattle.answered_tasks.specs.Causes.{judged_name}
use Rattle.answered_tasks.specs.Files.{AreFixings}
use Rattle.answered_tasks.specs.Texts.{fault_line}
use Rattle.answer_laws.specs.Agreed.{SayTheSame}
use Rattle.answer_laws.proofs.Files.{one_problem, one_solution}
use Rattle.answer_laws.proofs.Taken.{TellsGiven, one_fixings}

module _ (problem : Problem) (fixings : List Fixing) (plan : List Event) (stated : Option ℕ) where
  -- a plan that is right has no fault
  pub right_or_fault : (cost : ℕ) (fault : Fault) → IsRight problem fixings plan stated cost
      → IsFirstFault problem fixings plan stated fault → ⊥
  right_or_fault cost fault right first =
      unlike ((fault_right problem fixings plan stated fault first cost).1 right)
    where
      unlike : ◌≡◌ {A = Result ℕ Fault} (Err fault) (Ok cost) → ⊥
      unlike e = cc

  -- a plan has one first fault
  pub one_fault : (fault other : Fault) → IsFirstFault problem fixings plan stated fault
      → IsFirstFault problem fixings plan stated other → fault ≡ other
  one_fault fault other first second =
      same ((fault_first problem fixings plan stated fault first other).1 second)
    where
      same : ◌≡◌ {A = Result ℕ Fault} (Err fault) (Err other) → fault ≡ other
      same e = cc

  module _ (telling : Telling) where
    same_said : (status code : ℕ) (lines others : List (List ℕ))
        → SaysValid telling problem fixings plan stated status lines
        ⊎ SaysFault problem fixings plan stated status lines
        → SaysValid telling problem fixings plan stated code others
        ⊎ SaysFault problem fixings plan stated code others
        → (status ≡ code) × (lines ≡ others)
    same_said status code lines others (inl a) (inl b) = (
      a.status_is ∙ sym b.status_is,
      a.lines_are
          ∙ ap (λ (c : ℕ). told_lines telling problem plan c) (a.right.cost ∙ sym b.right.cost)
          ∙ sym b.lines_are,
    )
    same_said status code lines others (inl a) (inr b) =
        absurd (right_or_fault a.cost b.fault a.right b.first)
    same_said status code lines others (inr a) (inl b) =
        absurd (right_or_fault b.cost a.fault b.right a.first)
    same_said status code lines others (inr a) (inr b) = (
      a.status_is ∙ sym b.status_is,
      a.lines_are
          ∙ ap (λ (f : Fault). fault_line problem f ∷ []) (one_fault a.fault b.fault a.first b.first)
          ∙ sym b.lines_are,
    )

    same_judged : (one other : Answer) → IsJudged telling problem fixings plan stated one
        → IsJudged telling problem fixings plan stated other → SayTheSame one other
    same_judged one other a b =
        let said = same_said one.status other.status one.lines other.lines a.says b.says in record {
          status = said.0;
          lines = said.1;
          journal = a.journal ∙ sym b.journal;
          puts = a.puts ∙ sym b.puts;
        }

-- two answers to `verify`, or to `report`, of the same files
pub judgements_agree : (holds : Holdings) (telling : Telling) (task : JudgeTask)
    (one other : Answer) → ((which : Input) → TellsGiven holds (judged_name task which))
    → AnswersJudge holds telling task one → AnswersJudge holds telling task other
    → SayTheSame one other
judgements_agree holds telling task one other tells a b =
    let problem : b.problem ≡ a.problem =
    one_problem holds task.problem (tells input.Problem task.problem refl) b.problem a.problem
    b.problem_file a.problem_file in
    let fixed : AreFixings holds a.problem task.fixings b.fixings =
    subst (λ (p : Problem). AreFixings holds p task.fixings b.fixings) problem b.fixings_file in
    let fixings : b.fixings ≡ a.fixings =
    one_fixings holds a.problem task.fixings b.fixings a.fixings (tells input.Fixings) fixed
    a.fixings_file in
    let plan = one_solution holds task.solution (tells input.Solution task.solution refl) b.plan
    a.plan b.stated a.stated b.solution_file a.solution_file in
    same_judged a.problem a.fixings a.plan a.stated telling one other a.judged
    (subst (λ (p : Problem). IsJudged telling p a.fixings a.plan a.stated other) problem
    (subst (λ (f : List Fixing). IsJudged telling b.problem f a.plan a.stated other) fixings
    (subst (λ (e : List Event). IsJudged telling b.problem b.fixings e a.stated other) plan.0
    (subst (λ (s : Option ℕ). IsJudged telling b.problem b.fixings b.plan s other) plan.1
    b.judged))))
