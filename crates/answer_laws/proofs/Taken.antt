-- What an answer says of the files that its task names: each is taken. So nothing stops the task but want of memory
-- or a failed reading.
use Rattle.std.proofs.Common.{◌≡◌, ◌∙◌, ℕ, List, length, refl, sym, ap, subst, inl, inr}
use Rattle.std.specs.Prelude.{Option, Some, None, IsSome}
use Rattle.std.proofs.lemmas.Option.{none-some, same_Some}
use Rattle.disp_model.specs.declared.fixing.Change.{Change}
use Rattle.disp_model.specs.declared.fixing.Fixing.{Fixing}
use Rattle.disp_model.specs.declared.plan.Event.{Event}
use Rattle.disp_model.specs.declared.problem.Problem.{Problem}
use Rattle.disp_model.specs.declared.tree.TreeNode.{TreeNode}
use Rattle.disp_model.specs.declared.tree.Verdict.{Verdict}
use Rattle.disp_model.specs.Changes.{standing_of}
use Rattle.command_words.specs.declared.task.JudgeTask.{JudgeTask}
use Rattle.command_words.specs.declared.task.MakeTask.{MakeTask}
use Rattle.command_words.specs.declared.task.SolveTask.{SolveTask}
use Rattle.command_words.specs.declared.task.Task.{Task}
use Rattle.command_words.specs.declared.task.Task.TheVariants.{Solve, Verify, Report, Make, Check, Roll}
use Rattle.disp_outside.specs.States.{Holdings, Counts}
use Rattle.answered_tasks.specs.declared.cause.Cause.{Cause}
use Rattle.answered_tasks.specs.declared.cause.Cause.TheVariants.{Words, Failed, TooLong, NoProblem, NoSolution, BadLine, NoTree, WrongEdition, NoPlan, Memory}
use Rattle.answered_tasks.specs.declared.cause.Input.{Input}
use Rattle.answered_tasks.specs.declared.cause.Input.TheVariants as input
use Rattle.answered_tasks.specs.declared.judge.Telling.{Telling}
use Rattle.answered_tasks.specs.declared.judge.Telling.TheVariants.{Cost, Table}
use Rattle.answered_tasks.specs.declared.outcome.Answer.{Answer}
use Rattle.answered_tasks.specs.Answers.{AnswersSolve, AnswersJudge, AnswersCheck, AnswersTask}
use Rattle.answered_tasks.specs.Causes.{judged_name, input_name, StopsTask}
use Rattle.answered_tasks.specs.Files.{
  IsProblemFile,
  IsSolutionFile,
  IsFixingsFile,
  IsTreeFile,
  IsPlanFile,
  AreAsked,
  AreFixings,
  AreOfEdition,
}
use Rattle.answer_laws.specs.Agreed.{IsFromOutside}
use Rattle.answer_laws.specs.Told.{TellsInputs}
use Rattle.answer_laws.proofs.Files.{
  HasTaken,
  one_problem,
  problem_not_bad,
  problem_not_long,
  solution_not_bad,
  solution_not_long,
  tree_not_other,
  tree_not_bad,
  tree_not_long,
  fixings_taken,
  asked_taken,
  one_edition,
  taken_not_refused,
}

-- ---- one edition

-- what a name holds that is given is told
abbrev pub TellsGiven : Holdings → Option (List ℕ) → Type 0
TellsGiven holds given = (name : List ℕ) → given ≡ Some name → IsSome (holds name)

module _ (holds : Holdings) (problem : Problem) where
  same_changes : (name : List ℕ) (one other : List Fixing) → IsSome (holds name)
      → (a : IsFixingsFile holds problem name one) (b : IsFixingsFile holds problem name other)
      → a.changes ≡ b.changes
  same_changes name one other told a b =
      one_edition holds name told problem a.changes b.changes
      (fixings_taken holds name told problem one a) (fixings_taken holds name told problem other b)

  pub one_fixings : (given : Option (List ℕ)) (one other : List Fixing) → TellsGiven holds given
      → AreFixings holds problem given one → AreFixings holds problem given other → one ≡ other
  one_fixings None one other told a b = a ∙ sym b
  one_fixings (Some name) one other told a b =
      a.standing ∙ ap standing_of (same_changes name one other (told name refl) a b)
      ∙ sym b.standing

  pub one_number : (given : Option (List ℕ)) (one other : List Fixing) (m n : ℕ)
      → TellsGiven holds given → AreOfEdition holds problem given one m
      → AreOfEdition holds problem given other n → (one ≡ other) × (m ≡ n)
  one_number None one other m n told a b = (a.0 ∙ sym b.0, a.1 ∙ sym b.1)
  one_number (Some name) one other m n told a b =
      let same = same_changes name one other (told name refl) a.0 b.0 in (
        a.0.standing ∙ ap standing_of same ∙ sym b.0.standing,
        a.1 ∙ ap (λ (l : List Change). length l) same ∙ sym b.1,
      )

-- ---- the files of a task

pub record TakesFiles (holds : Holdings) (given : Input → Option (List ℕ)) : Type 0 where
  pub problem : (name : List ℕ) → given input.Problem ≡ Some name
      → (p : Problem) × IsProblemFile holds name p
  pub lines : (at name : List ℕ) (p : Problem) → given input.Problem ≡ Some at
      → IsProblemFile holds at p → given input.Fixings ≡ Some name
      → (changes : List Change) × HasTaken holds name p changes
  pub solution : (name : List ℕ) → given input.Solution ≡ Some name
      → (plan : List Event) × (stated : Option ℕ) × IsSolutionFile holds name plan stated
  pub tree : (at name : List ℕ) (p : Problem) → given input.Problem ≡ Some at
      → IsProblemFile holds at p → given input.Tree ≡ Some name
      → (fixings : List Fixing) × (edition : ℕ) × (verdict : Verdict) × (tree : List TreeNode)
      × AreOfEdition holds p (given input.Fixings) fixings edition
      × IsTreeFile holds name edition verdict tree
  pub plan : (name : List ℕ) → given input.Plan ≡ Some name
      → (plan : List Event) × (stated : Option ℕ) × IsSolutionFile holds name plan stated

module _ (holds : Holdings) (old new : Counts) (task : Task) (tells : TellsInputs holds task)
    (takes : TakesFiles holds (input_name task)) where
  -- where the files are taken nothing else stops the task
  pub not_stopped : (cause : Cause) → StopsTask holds old new task cause → IsFromOutside cause
  not_stopped (Words text) stops = absurd stops
  not_stopped (Failed which) stops = inr tt
  not_stopped (TooLong input.Problem) stops =
      let long = stops.1 in
      let file = takes.problem long.0 long.1 in
      absurd (problem_not_long holds long.0 (tells input.Problem long.0 long.1) file.0 file.1 long.2)
  not_stopped (TooLong input.Fixings) stops = absurd stops.1
  not_stopped (TooLong input.Solution) stops =
      let long = stops.1 in
      let file = takes.solution long.0 long.1 in
      absurd (solution_not_long holds long.0 (tells input.Solution long.0 long.1) file.0 file.1
      file.2 long.2)
  not_stopped (TooLong input.Tree) stops =
      let long = stops.1 in
      let before = stops.0.1 in
      let file = takes.tree before.name long.0 stops.0.0 before.named before.file long.1 in
      absurd (tree_not_long holds long.0 (tells input.Tree long.0 long.1) file.1 file.2 file.3
      file.5 long.2)
  not_stopped (TooLong input.Plan) stops =
      let long = stops.1 in
      let file = takes.plan long.0 long.1 in
      absurd (solution_not_long holds long.0 (tells input.Plan long.0 long.1) file.0 file.1 file.2
      long.2)
  not_stopped (NoProblem refusal) stops =
      let file = takes.problem stops.0 stops.1 in
      absurd (problem_not_bad holds stops.0 (tells input.Problem stops.0 stops.1) file.0 refusal
      file.1 stops.2)
  not_stopped (NoSolution refusal) stops =
      let bad = stops.1 in
      let file = takes.solution bad.0 bad.1 in
      absurd (solution_not_bad holds bad.0 (tells input.Solution bad.0 bad.1) file.0 file.1 refusal
      file.2 bad.2)
  not_stopped (BadLine number why) stops =
      let before = stops.takes in
      let file = takes.lines before.name stops.name stops.problem before.named before.file
      stops.named in
      absurd (taken_not_refused holds stops.name (tells input.Fixings stops.name stops.named)
      stops.problem file.0 number why file.1 stops.refused)
  not_stopped (NoTree refusal) stops =
      let bad = stops.1 in
      let before = stops.0.1 in
      let file = takes.tree before.name bad.0 stops.0.0 before.named before.file bad.1 in
      absurd (tree_not_bad holds bad.0 (tells input.Tree bad.0 bad.1) file.1 file.2 file.3 refusal
      file.5 bad.2)
  not_stopped (WrongEdition named wanted) stops =
      let bad = stops.text in
      let before = stops.takes in
      let file = takes.tree before.name bad.0 stops.problem before.named before.file bad.1 in
      let number = one_number holds stops.problem (input_name task input.Fixings) file.0
      stops.fixings file.1 wanted (tells input.Fixings) file.4 stops.fixed in
      absurd (stops.other (tree_not_other holds bad.0 (tells input.Tree bad.0 bad.1) file.1 named
      file.2 file.3 file.5 bad.2 ∙ number.1))
  not_stopped (NoPlan refusal) stops =
      let bad = stops.1 in
      let file = takes.plan bad.0 bad.1 in
      absurd (solution_not_bad holds bad.0 (tells input.Plan bad.0 bad.1) file.0 file.1 refusal
      file.2 bad.2)
  not_stopped Memory stops = inl refl

-- ---- what answers say of the files

module _ (holds : Holdings) where
  solve_takes : (task : SolveTask) (answer : Answer) → TellsInputs holds (Solve task)
      → AnswersSolve holds task answer → TakesFiles holds (input_name (Solve task))
  solve_takes task answer tells is = record {
    problem = λ name named. (is.problem, at_problem name named);
    lines = λ at name p given file named.
        let same : is.problem ≡ p =
        one_problem holds at (tells input.Problem at given) is.problem p (at_problem at given)
        file in
        let asks = subst (λ (given : Option (List ℕ)). AreAsked holds is.problem given is.asked)
        named is.lines in
        let taken = asked_taken holds name (tells input.Fixings name named) is.problem is.asked asks in (
          asks.taken.0,
          subst (λ (q : Problem). HasTaken holds name q asks.taken.0) same taken,
        );
    solution = λ name named. absurd (none-some name named);
    tree = λ at name p given file named. absurd (none-some name named);
    plan = λ name named. absurd (none-some name named);
  }
    where
      at_problem : (name : List ℕ) → Some task.problem ≡ Some name
          → IsProblemFile holds name is.problem
      at_problem name named =
          subst (λ (n : List ℕ). IsProblemFile holds n is.problem)
          (same_Some task.problem name named) is.file

  judge_takes : (telling : Telling) (task : JudgeTask) (answer : Answer)
      → ((which : Input) → TellsGiven holds (judged_name task which))
      → AnswersJudge holds telling task answer → TakesFiles holds (judged_name task)
  judge_takes telling task answer tells is = record {
    problem = λ name named. (is.problem, at_problem name named);
    lines = λ at name p given file named.
        let same : is.problem ≡ p =
        one_problem holds at (tells input.Problem at given) is.problem p (at_problem at given)
        file in
        let fixed = subst (λ (given : Option (List ℕ)).
        AreFixings holds is.problem given is.fixings) named is.fixings_file in
        let taken = fixings_taken holds name (tells input.Fixings name named) is.problem is.fixings
        fixed in
        (fixed.changes, subst (λ (q : Problem). HasTaken holds name q fixed.changes) same taken);
    solution = λ name named. (
      is.plan,
      is.stated,
      subst (λ (n : List ℕ). IsSolutionFile holds n is.plan is.stated)
          (same_Some task.solution name named) is.solution_file,
    );
    tree = λ at name p given file named. absurd (none-some name named);
    plan = λ name named. absurd (none-some name named);
  }
    where
      at_problem : (name : List ℕ) → Some task.problem ≡ Some name
          → IsProblemFile holds name is.problem
      at_problem name named =
          subst (λ (n : List ℕ). IsProblemFile holds n is.problem)
          (same_Some task.problem name named) is.problem_file

  check_takes : (problem_name tree_name : List ℕ) (fixings_name plan_name : Option (List ℕ))
      (answer : Answer) → TellsInputs holds (Check problem_name tree_name fixings_name plan_name)
      → AnswersCheck holds problem_name tree_name fixings_name plan_name answer
      → TakesFiles holds (input_name (Check problem_name tree_name fixings_name plan_name))
  check_takes problem_name tree_name fixings_name plan_name answer tells is = record {
    problem = λ name named. (is.problem, at_problem name named);
    lines = λ at name p given file named.
        let same = is_problem at p given file in
        let fixed = subst (λ (given : Option (List ℕ)).
        AreOfEdition holds is.problem given is.fixings is.edition) named is.fixings_file in
        let taken = fixings_taken holds name (tells input.Fixings name named) is.problem is.fixings
        fixed.0 in
        (fixed.0.changes, subst (λ (q : Problem). HasTaken holds name q fixed.0.changes) same taken);
    solution = λ name named. absurd (none-some name named);
    tree = λ at name p given file named. (
      is.fixings,
      is.edition,
      is.verdict,
      is.tree,
      subst (λ (q : Problem). AreOfEdition holds q fixings_name is.fixings is.edition)
          (is_problem at p given file) is.fixings_file,
      subst (λ (n : List ℕ). IsTreeFile holds n is.edition is.verdict is.tree)
          (same_Some tree_name name named) is.tree_file,
    );
    plan = λ name named. at_plan is.plan (subst (λ (given : Option (List ℕ)).
        IsPlanFile holds given is.plan) named is.plan_file);
  }
    where
      at_problem : (name : List ℕ) → Some problem_name ≡ Some name
          → IsProblemFile holds name is.problem
      at_problem name named =
          subst (λ (n : List ℕ). IsProblemFile holds n is.problem)
          (same_Some problem_name name named) is.problem_file

      is_problem : (at : List ℕ) (p : Problem) → Some problem_name ≡ Some at
          → IsProblemFile holds at p → is.problem ≡ p
      is_problem at p given file =
          one_problem holds at (tells input.Problem at given) is.problem p (at_problem at given) file

      at_plan : {name : List ℕ} (plan : Option (List Event × Option ℕ))
          → IsPlanFile holds (Some name) plan
          → (events : List Event) × (stated : Option ℕ) × IsSolutionFile holds name events stated
      at_plan None file = absurd file
      at_plan (Some plan) file = (plan.0, plan.1, file)

  make_takes : (task : MakeTask) → TakesFiles holds (input_name (Make task))
  make_takes task = record {
    problem = λ name named. absurd (none-some name named);
    lines = λ at name p given file named. absurd (none-some name named);
    solution = λ name named. absurd (none-some name named);
    tree = λ at name p given file named. absurd (none-some name named);
    plan = λ name named. absurd (none-some name named);
  }

  pub answer_takes : (task : Task) (answer : Answer) → TellsInputs holds task
      → AnswersTask holds task answer → TakesFiles holds (input_name task)
  answer_takes (Solve task) answer tells is = solve_takes task answer tells is
  answer_takes (Verify task) answer tells is = judge_takes Cost task answer tells is
  answer_takes (Report task) answer tells is = judge_takes Table task answer tells is
  answer_takes (Make task) answer tells is = make_takes task
  answer_takes (Check problem tree fixings plan) answer tells is =
      check_takes problem tree fixings plan answer tells is
  answer_takes (Roll task) answer tells is = absurd is
