-- Two causes that stop a task agree: one file is refused, the first that is, and for one cause.
use Rattle.std.proofs.Common.{◌≡◌, ◌≢◌, ◌∙◌, ◌⊎◌, ℕ, List, [], length, refl, sym, ap, subst, inl, inr}
use Rattle.std.specs.Prelude.{Option, Some, None, Result, Ok, Err, IsSome, IfSome}
use Rattle.std.proofs.lemmas.Option.{none-some, same_Some}
use Rattle.disp_model.specs.declared.fixing.Fixing.{Fixing}
use Rattle.disp_model.specs.declared.problem.Problem.{Problem}
use Rattle.command_words.specs.declared.task.Task.{Task}
use Rattle.command_words.specs.declared.task.Task.TheVariants.{Solve, Verify, Report, Make, Check, Roll}
use Rattle.displib_reader.specs.declared.fault.ProblemNo.{ProblemNo}
use Rattle.displib_reader.specs.declared.fault.ProblemNo.TheVariants as problem_no
use Rattle.displib_reader.proofs.OneAnswer.{refusals_agree as problems_refused}
use Rattle.solution_text.specs.declared.fault.SolutionNo.{SolutionNo}
use Rattle.solution_text.specs.declared.fault.SolutionNo.TheVariants as solution_no
use Rattle.solution_text.proofs.OneAnswer.{refusals_agree as solutions_refused}
use Rattle.fixing_files.specs.declared.take.LineNo.{LineNo}
use Rattle.fixing_files.specs.Files.{StopsAt}
use Rattle.disp_outside.specs.States.{Holdings, Counts}
use Rattle.tree_certificate.specs.declared.fault.TreeNo.{TreeNo}
use Rattle.tree_certificate.specs.declared.fault.TreeNo.TheVariants as tree_no
use Rattle.tree_certificate.specs.TreesRead.{TreeRead, tree_at, refusal_of, read_of, AnswersTree}
use Rattle.answered_tasks.specs.declared.cause.Cause.{Cause}
use Rattle.answered_tasks.specs.declared.cause.Cause.TheVariants.{Words, Failed, TooLong, NoProblem, NoSolution, BadLine, NoTree, WrongEdition, NoPlan, Memory}
use Rattle.answered_tasks.specs.declared.cause.Input.{Input}
use Rattle.answered_tasks.specs.declared.cause.Input.TheVariants as input
use Rattle.answered_tasks.specs.Causes.{
  input_name,
  IsBadFile,
  IsNoProblem,
  IsNoSolution,
  IsNoTree,
  TakesProblem,
  TakesTree,
  StopsTask,
}
use Rattle.answered_tasks.specs.Files.{
  IsProblemFile,
  IsTreeFile,
  IsTreeText,
  IsTreeNamed,
  AreFixings,
  AreOfEdition,
  HasFixings,
  IsRefusedLine,
}
use Rattle.answered_tasks.specs.Outside.{HoldsTooMuch}
use Rattle.answer_laws.specs.Agreed.{IsFromOutside}
use Rattle.answer_laws.specs.Told.{TellsInputs}
use Rattle.answer_laws.proofs.Editions.{stops_once}
use Rattle.answer_laws.proofs.Files.{
  ok_is,
  unlike,
  one_file,
  not_too_long,
  one_problem,
  problem_not_bad,
  problem_not_long,
  tree_not_other,
  tree_not_bad,
  tree_not_long,
  one_lines,
  fixings_taken,
  taken_not_refused,
}
use Rattle.answer_laws.proofs.Taken.{TellsGiven, one_number}

-- ---- bytes that are bad

abbrev BadProblem : Cause → List ℕ → Type 0
BadProblem (NoProblem refusal) bytes = IsNoProblem bytes refusal
BadProblem _ bytes = ⊥

abbrev BadSolution : Cause → List ℕ → Type 0
BadSolution (NoSolution refusal) bytes = IsNoSolution bytes refusal
BadSolution _ bytes = ⊥

abbrev BadPlan : Cause → List ℕ → Type 0
BadPlan (NoPlan refusal) bytes = IsNoSolution bytes refusal
BadPlan _ bytes = ⊥

abbrev BadTree : ℕ → Cause → List ℕ → Type 0
BadTree edition (NoTree refusal) bytes = IsNoTree bytes refusal
BadTree edition (WrongEdition named wanted) bytes =
    (wanted ≡ edition) × (named ≢ edition) × IsTreeNamed named bytes
BadTree edition _ bytes = ⊥

-- one cause speaks of bad bytes
abbrev Agrees : (Cause → List ℕ → Type 0) → Type 0
Agrees Bad = (bytes : List ℕ) (one other : Cause) → Bad one bytes → Bad other bytes → one ≡ other

same_but : {X : Type 0} {one other none : X} → (one ≢ none) → (other ≢ none)
    → (one ≡ none) ⊎ ((other ≡ none) ⊎ (one ≡ other)) → one ≡ other
same_but a b (inl is) = absurd (a is)
same_but a b (inr (inl is)) = absurd (b is)
same_but a b (inr (inr same)) = same

problem_agrees : Agrees BadProblem
problem_agrees bytes (NoProblem r) (NoProblem s) a b =
    ap NoProblem (same_but a.1 b.1 (problems_refused bytes r s a.0 b.0))
problem_agrees bytes (NoProblem r) other a b = absurd b
problem_agrees bytes one other a b = absurd a

solution_agrees : Agrees BadSolution
solution_agrees bytes (NoSolution r) (NoSolution s) a b =
    ap NoSolution (same_but a.1 b.1 (solutions_refused bytes r s a.0 b.0))
solution_agrees bytes (NoSolution r) other a b = absurd b
solution_agrees bytes one other a b = absurd a

plan_agrees : Agrees BadPlan
plan_agrees bytes (NoPlan r) (NoPlan s) a b =
    ap NoPlan (same_but a.1 b.1 (solutions_refused bytes r s a.0 b.0))
plan_agrees bytes (NoPlan r) other a b = absurd b
plan_agrees bytes one other a b = absurd a

-- the refusal is that for the fault that reading gave
abbrev IsForFault : {X F : Type 0} → (F → TreeNo) → Result X F → TreeNo → Type 0
IsForFault {X} {F} refusal read why = (fault : F) × (read ≡ Err fault) × (why ≡ refusal fault)

fault_of : (bytes : List ℕ) (why : TreeNo) → IsNoTree bytes why
    → IsForFault (refusal_of bytes) (tree_at bytes) why
fault_of bytes tree_no.Memory is = absurd (is.1 refl)
fault_of bytes (tree_no.BadLine n) is = is.0
fault_of bytes (tree_no.TooLarge n) is = is.0
fault_of bytes tree_no.Truncated is = is.0
fault_of bytes (tree_no.Trailing n) is = is.0

one_refusal : {X F : Type 0} (refusal : F → TreeNo) (read : Result X F) (why other : TreeNo)
    → IsForFault refusal read why → IsForFault refusal read other → why ≡ other
one_refusal {X} {F} refusal read why other a b =
    a.2 ∙ ap refusal (fault_is (sym a.1 ∙ b.1)) ∙ sym b.2
  where
    fault_is : {x y : F} → ◌≡◌ {A = Result X F} (Err x) (Err y) → x ≡ y
    fault_is e = cc

tree_agrees : (edition : ℕ) → Agrees (BadTree edition)
tree_agrees edition bytes (NoTree r) (NoTree s) a b =
    ap NoTree (one_refusal (refusal_of bytes) (tree_at bytes) r s (fault_of bytes r a)
    (fault_of bytes s b))
tree_agrees edition bytes (NoTree r) (WrongEdition n w) a b =
    let fault = fault_of bytes r a in
    let other = b.2 in
    absurd (unlike (sym other.text ∙ fault.1))
tree_agrees edition bytes (WrongEdition n w) (NoTree s) a b =
    let fault = fault_of bytes s b in
    let other = a.2 in
    absurd (unlike (sym other.text ∙ fault.1))
tree_agrees edition bytes (WrongEdition n w) (WrongEdition m v) a b =
    let one = a.2 in
    let two = b.2 in
    let same : read_of (Some n) one.verdict one.tree ≡ read_of (Some m) two.verdict two.tree =
    ok_is (sym one.text ∙ two.text) in
    ap (λ (k : ℕ). WrongEdition k w) (same_Some n m (ap (λ (r : TreeRead). r.edition) same))
    ∙ ap (λ (k : ℕ). WrongEdition m k) (a.0 ∙ sym b.0)
tree_agrees edition bytes (NoTree r) other a b = absurd b
tree_agrees edition bytes (WrongEdition n w) other a b = absurd b
tree_agrees edition bytes one other a b = absurd a

-- ---- a file that is refused

-- the file of the name is too long, or its bytes are bad
abbrev Refuses : Holdings → List ℕ → Cause → (Cause → List ℕ → Type 0) → Cause → Type 0
Refuses holds name long Bad cause =
    ((cause ≡ long) × HoldsTooMuch holds name) ⊎ IsBadFile holds name (Bad cause)

refused_once : (holds : Holdings) (name : List ℕ) (long : Cause) (Bad : Cause → List ℕ → Type 0)
    (one other : Cause) → IsSome (holds name) → Agrees Bad → Refuses holds name long Bad one
    → Refuses holds name long Bad other → one ≡ other
refused_once holds name long Bad one other told agrees (inl a) (inl b) = a.0 ∙ sym b.0
refused_once holds name long Bad one other told agrees (inl a) (inr b) =
    absurd (not_too_long holds name told b.bytes b.file a.1)
refused_once holds name long Bad one other told agrees (inr a) (inl b) =
    absurd (not_too_long holds name told a.bytes a.file b.1)
refused_once holds name long Bad one other told agrees (inr a) (inr b) =
    agrees a.bytes one other a.bad
    (subst (Bad other) (one_file holds name told b.bytes a.bytes b.file a.file) b.bad)

module _ (holds : Holdings) (task : Task) where
  record ProblemRefused (cause : Cause) : Type 0 where
    name : List ℕ
    named : input_name task input.Problem ≡ Some name
    why : Refuses holds name (TooLong input.Problem) BadProblem cause

  record FixingsRefused (cause : Cause) : Type 0 where
    problem : Problem
    takes : TakesProblem holds task problem
    name : List ℕ
    named : input_name task input.Fixings ≡ Some name
    number : ℕ
    reason : LineNo
    is : cause ≡ BadLine number reason
    refused : IsRefusedLine holds problem name number reason

  record SolutionRefused (cause : Cause) : Type 0 where
    problem : Problem
    takes : TakesProblem holds task problem
    fixed : HasFixings holds problem (input_name task input.Fixings)
    name : List ℕ
    named : input_name task input.Solution ≡ Some name
    why : Refuses holds name (TooLong input.Solution) BadSolution cause

  record TreeRefused (cause : Cause) : Type 0 where
    problem : Problem
    takes : TakesProblem holds task problem
    fixings : List Fixing
    edition : ℕ
    fixed : AreOfEdition holds problem (input_name task input.Fixings) fixings edition
    name : List ℕ
    named : input_name task input.Tree ≡ Some name
    why : Refuses holds name (TooLong input.Tree) (BadTree edition) cause

  record PlanRefused (cause : Cause) : Type 0 where
    problem : Problem
    takes : TakesProblem holds task problem
    tree : TakesTree holds task problem
    name : List ℕ
    named : input_name task input.Plan ≡ Some name
    why : Refuses holds name (TooLong input.Plan) BadPlan cause

  data Refused (cause : Cause) : Type 0 where
    of_problem : ProblemRefused cause → Refused cause
    of_fixings : FixingsRefused cause → Refused cause
    of_solution : SolutionRefused cause → Refused cause
    of_tree : TreeRefused cause → Refused cause
    of_plan : PlanRefused cause → Refused cause

  -- fixings that are taken are of an edition
  of_edition : (problem : Problem) (given : Option (List ℕ)) → HasFixings holds problem given
      → (fixings : List Fixing) × (edition : ℕ) × AreOfEdition holds problem given fixings edition
  of_edition problem None has = (has.0, 0, (has.1, refl))
  of_edition problem (Some name) has =
      let file = has.1 in (has.0, length file.changes, (file, refl))

  module _ (old new : Counts) where
    refused_as : (cause : Cause) → StopsTask holds old new task cause
        → IsFromOutside cause ⊎ Refused cause
    refused_as (Words text) stops = absurd stops
    refused_as (Failed which) stops = inl (inr tt)
    refused_as (TooLong input.Problem) stops =
        let long = stops.1 in
        inr (of_problem (record { name = long.0; named = long.1; why = inl (refl, long.2) }))
    refused_as (TooLong input.Fixings) stops = absurd stops.1
    refused_as (TooLong input.Solution) stops =
        let long = stops.1 in
        let came = stops.0 in
        inr (of_solution (record {
          problem = came.0;
          takes = came.1;
          fixed = came.2;
          name = long.0;
          named = long.1;
          why = inl (refl, long.2);
        }))
    refused_as (TooLong input.Tree) stops =
        let long = stops.1 in
        let came = stops.0 in
        let fixed = of_edition came.0 (input_name task input.Fixings) came.2 in
        inr (of_tree (record {
          problem = came.0;
          takes = came.1;
          fixings = fixed.0;
          edition = fixed.1;
          fixed = fixed.2;
          name = long.0;
          named = long.1;
          why = inl (refl, long.2);
        }))
    refused_as (TooLong input.Plan) stops =
        let long = stops.1 in
        let came = stops.0 in
        inr (of_plan (record {
          problem = came.0;
          takes = came.1;
          tree = came.2;
          name = long.0;
          named = long.1;
          why = inl (refl, long.2);
        }))
    refused_as (NoProblem refusal) stops =
        inr (of_problem (record { name = stops.0; named = stops.1; why = inr stops.2 }))
    refused_as (NoSolution refusal) stops =
        let bad = stops.1 in
        let came = stops.0 in
        inr (of_solution (record {
          problem = came.0;
          takes = came.1;
          fixed = came.2;
          name = bad.0;
          named = bad.1;
          why = inr bad.2;
        }))
    refused_as (BadLine number reason) stops =
        inr (of_fixings (record {
          problem = stops.problem;
          takes = stops.takes;
          name = stops.name;
          named = stops.named;
          number = number;
          reason = reason;
          is = refl;
          refused = stops.refused;
        }))
    refused_as (NoTree refusal) stops =
        let bad = stops.1 in
        let came = stops.0 in
        let fixed = of_edition came.0 (input_name task input.Fixings) came.2 in
        inr (of_tree (record {
          problem = came.0;
          takes = came.1;
          fixings = fixed.0;
          edition = fixed.1;
          fixed = fixed.2;
          name = bad.0;
          named = bad.1;
          why = inr bad.2;
        }))
    refused_as (WrongEdition named wanted) stops =
        let bad = stops.text in
        let file = bad.2 in
        inr (of_tree (record {
          problem = stops.problem;
          takes = stops.takes;
          fixings = stops.fixings;
          edition = wanted;
          fixed = stops.fixed;
          name = bad.0;
          named = bad.1;
          why = inr (record {
            bytes = file.bytes;
            file = file.file;
            bad = (refl, stops.other, file.bad);
          });
        }))
    refused_as (NoPlan refusal) stops =
        let bad = stops.1 in
        let came = stops.0 in
        inr (of_plan (record {
          problem = came.0;
          takes = came.1;
          tree = came.2;
          name = bad.0;
          named = bad.1;
          why = inr bad.2;
        }))
    refused_as Memory stops = inl (inl refl)

-- ---- two files that are refused

same_name : {given : Option (List ℕ)} (one other : List ℕ) → given ≡ Some one → given ≡ Some other
    → one ≡ other
same_name one other a b = same_Some one other (sym a ∙ b)

module _ (holds : Holdings) (task : Task) (tells : TellsInputs holds task) where
  same_takes : (one other : Problem) → TakesProblem holds task one → TakesProblem holds task other
      → one ≡ other
  same_takes one other a b =
      one_problem holds a.name (tells input.Problem a.name a.named) one other a.file
      (subst (λ (n : List ℕ). IsProblemFile holds n other)
      (same_name b.name a.name b.named a.named) b.file)

  -- ---- of one input

  problem_once : (one other : Cause) → ProblemRefused holds task one
      → ProblemRefused holds task other → one ≡ other
  problem_once one other a b =
      refused_once holds a.name (TooLong input.Problem) BadProblem one other
      (tells input.Problem a.name a.named) problem_agrees a.why
      (subst (λ (n : List ℕ). Refuses holds n (TooLong input.Problem) BadProblem other)
      (same_name b.name a.name b.named a.named) b.why)

  solution_once : (one other : Cause) → SolutionRefused holds task one
      → SolutionRefused holds task other → one ≡ other
  solution_once one other a b =
      refused_once holds a.name (TooLong input.Solution) BadSolution one other
      (tells input.Solution a.name a.named) solution_agrees a.why
      (subst (λ (n : List ℕ). Refuses holds n (TooLong input.Solution) BadSolution other)
      (same_name b.name a.name b.named a.named) b.why)

  plan_once : (one other : Cause) → PlanRefused holds task one → PlanRefused holds task other
      → one ≡ other
  plan_once one other a b =
      refused_once holds a.name (TooLong input.Plan) BadPlan one other
      (tells input.Plan a.name a.named) plan_agrees a.why
      (subst (λ (n : List ℕ). Refuses holds n (TooLong input.Plan) BadPlan other)
      (same_name b.name a.name b.named a.named) b.why)

  tree_once : (one other : Cause) → TreeRefused holds task one → TreeRefused holds task other
      → one ≡ other
  tree_once one other a b =
      let fixed = subst (λ (p : Problem).
      AreOfEdition holds p (input_name task input.Fixings) b.fixings b.edition)
      (same_takes b.problem a.problem b.takes a.takes) b.fixed in
      let number = one_number holds a.problem (input_name task input.Fixings) b.fixings a.fixings
      b.edition a.edition (tells input.Fixings) fixed a.fixed in
      refused_once holds a.name (TooLong input.Tree) (BadTree a.edition) one other
      (tells input.Tree a.name a.named) (tree_agrees a.edition) a.why
      (subst (λ (k : ℕ). Refuses holds a.name (TooLong input.Tree) (BadTree k) other) number.1
      (subst (λ (n : List ℕ). Refuses holds n (TooLong input.Tree) (BadTree b.edition) other)
      (same_name b.name a.name b.named a.named) b.why))

  fixings_once : (one other : Cause) → FixingsRefused holds task one
      → FixingsRefused holds task other → one ≡ other
  fixings_once one other a b =
      let refused : IsRefusedLine holds a.problem a.name b.number b.reason =
      subst (λ (n : List ℕ). IsRefusedLine holds a.problem n b.number b.reason)
      (same_name b.name a.name b.named a.named)
      (subst (λ (p : Problem). IsRefusedLine holds p b.name b.number b.reason)
      (same_takes b.problem a.problem b.takes a.takes) b.refused) in
      let first = a.refused in
      let lines = one_lines holds a.name (tells input.Fixings a.name a.named) first.told
      refused.told first.lines refused.lines in
      let stops : StopsAt a.problem lines.0 a.number a.reason =
      subst (λ (o : Option (List (List ℕ))). IfSome o
      (λ l. StopsAt a.problem l a.number a.reason)) lines.1 first.refused in
      let also : StopsAt a.problem lines.0 b.number b.reason =
      subst (λ (o : Option (List (List ℕ))). IfSome o
      (λ l. StopsAt a.problem l b.number b.reason)) lines.2 refused.refused in
      let same = stops_once a.problem lines.0 a.number b.number a.reason b.reason stops also in
      a.is ∙ ap (λ (n : ℕ). BadLine n a.reason) same.0
      ∙ ap (λ (w : LineNo). BadLine b.number w) same.1 ∙ sym b.is

  -- ---- of two inputs

  problem_apart : (one : Cause) (problem : Problem) → ProblemRefused holds task one
      → TakesProblem holds task problem → ⊥
  problem_apart one problem a takes = by one a.why
    where
      by : (cause : Cause) → Refuses holds a.name (TooLong input.Problem) BadProblem cause → ⊥
      by cause (inl long) = problem_not_long holds a.name (tells input.Problem a.name a.named) problem
          (subst (λ (n : List ℕ). IsProblemFile holds n problem)
          (same_name takes.name a.name takes.named a.named) takes.file) long.1
      by (NoProblem refusal) (inr bad) = problem_not_bad holds a.name
          (tells input.Problem a.name a.named) problem refusal
          (subst (λ (n : List ℕ). IsProblemFile holds n problem)
          (same_name takes.name a.name takes.named a.named) takes.file) bad
      by cause (inr bad) = absurd bad.bad

  fixings_apart : (one : Cause) (problem : Problem) → FixingsRefused holds task one
      → TakesProblem holds task problem → HasFixings holds problem (input_name task input.Fixings)
      → ⊥
  fixings_apart one problem a takes fixed =
      let named : HasFixings holds a.problem (Some a.name) =
      subst (λ (n : Option (List ℕ)). HasFixings holds a.problem n) a.named
      (subst (λ (p : Problem). HasFixings holds p (input_name task input.Fixings))
      (same_takes problem a.problem takes a.takes) fixed) in
      let file = named.1 in
      let told = tells input.Fixings a.name a.named in
      taken_not_refused holds a.name told a.problem file.changes a.number a.reason
      (fixings_taken holds a.name told a.problem named.0 file) a.refused

  tree_apart : (one : Cause) (problem : Problem) → TreeRefused holds task one
      → TakesProblem holds task problem → TakesTree holds task problem → ⊥
  tree_apart one problem a takes tree = by one a.why
    where
      at_name : IsTreeFile holds a.name tree.edition tree.verdict tree.tree
      at_name = subst (λ (n : List ℕ). IsTreeFile holds n tree.edition tree.verdict tree.tree)
          (same_name tree.name a.name tree.named a.named) tree.file

      number : a.edition ≡ tree.edition
      number =
          let fixed = subst (λ (p : Problem).
          AreOfEdition holds p (input_name task input.Fixings) tree.fixings tree.edition)
          (same_takes problem a.problem takes a.takes) tree.fixed in
          (one_number holds a.problem (input_name task input.Fixings) a.fixings tree.fixings
          a.edition tree.edition (tells input.Fixings) a.fixed fixed).1

      told : IsSome (holds a.name)
      told = tells input.Tree a.name a.named

      by : (cause : Cause)
          → Refuses holds a.name (TooLong input.Tree) (BadTree a.edition) cause → ⊥
      by cause (inl long) =
          tree_not_long holds a.name told tree.edition tree.verdict tree.tree at_name long.1
      by (NoTree refusal) (inr bad) =
          tree_not_bad holds a.name told tree.edition tree.verdict tree.tree refusal at_name bad
      by (WrongEdition named wanted) (inr bad) =
          let wrong = bad.bad in
          let other : IsBadFile holds a.name (IsTreeNamed named) =
          record { bytes = bad.bytes; file = bad.file; bad = wrong.2 } in
          wrong.1 (tree_not_other holds a.name told tree.edition named tree.verdict tree.tree
          at_name other ∙ sym number)
      by cause (inr bad) = absurd bad.bad

  -- fixings of an edition are fixings
  as_fixings : (problem : Problem) (given : Option (List ℕ)) (fixings : List Fixing) (edition : ℕ)
      → AreOfEdition holds problem given fixings edition → HasFixings holds problem given
  as_fixings problem None fixings edition fixed = (fixings, fixed.0)
  as_fixings problem (Some name) fixings edition fixed = (fixings, fixed.0)

  -- a task gives no name for a solution beside one for a tree or a plan
  no_tree : (task : Task) (one other : List ℕ) → input_name task input.Solution ≡ Some one
      → input_name task input.Tree ≡ Some other → ⊥
  no_tree (Solve task) one other a b = none-some one a
  no_tree (Verify task) one other a b = none-some other b
  no_tree (Report task) one other a b = none-some other b
  no_tree (Make task) one other a b = none-some one a
  no_tree (Check problem tree fixings plan) one other a b = none-some one a
  no_tree (Roll task) one other a b = none-some one a

  no_plan : (task : Task) (one other : List ℕ) → input_name task input.Solution ≡ Some one
      → input_name task input.Plan ≡ Some other → ⊥
  no_plan (Solve task) one other a b = none-some one a
  no_plan (Verify task) one other a b = none-some other b
  no_plan (Report task) one other a b = none-some other b
  no_plan (Make task) one other a b = none-some one a
  no_plan (Check problem tree fixings plan) one other a b = none-some one a
  no_plan (Roll task) one other a b = none-some one a

  -- ---- two refusals

  same_refusal : (one other : Cause) → Refused holds task one → Refused holds task other
      → one ≡ other
  same_refusal one other (of_problem a) (of_problem b) = problem_once one other a b
  same_refusal one other (of_fixings a) (of_fixings b) = fixings_once one other a b
  same_refusal one other (of_solution a) (of_solution b) = solution_once one other a b
  same_refusal one other (of_tree a) (of_tree b) = tree_once one other a b
  same_refusal one other (of_plan a) (of_plan b) = plan_once one other a b
  same_refusal one other (of_problem a) (of_fixings b) =
      absurd (problem_apart one b.problem a b.takes)
  same_refusal one other (of_problem a) (of_solution b) =
      absurd (problem_apart one b.problem a b.takes)
  same_refusal one other (of_problem a) (of_tree b) =
      absurd (problem_apart one b.problem a b.takes)
  same_refusal one other (of_problem a) (of_plan b) =
      absurd (problem_apart one b.problem a b.takes)
  same_refusal one other (of_fixings a) (of_problem b) =
      absurd (problem_apart other a.problem b a.takes)
  same_refusal one other (of_solution a) (of_problem b) =
      absurd (problem_apart other a.problem b a.takes)
  same_refusal one other (of_tree a) (of_problem b) =
      absurd (problem_apart other a.problem b a.takes)
  same_refusal one other (of_plan a) (of_problem b) =
      absurd (problem_apart other a.problem b a.takes)
  same_refusal one other (of_fixings a) (of_solution b) =
      absurd (fixings_apart one b.problem a b.takes b.fixed)
  same_refusal one other (of_fixings a) (of_tree b) =
      absurd (fixings_apart one b.problem a b.takes
      (as_fixings b.problem (input_name task input.Fixings) b.fixings b.edition b.fixed))
  same_refusal one other (of_fixings a) (of_plan b) =
      let tree = b.tree in
      absurd (fixings_apart one b.problem a b.takes
      (as_fixings b.problem (input_name task input.Fixings) tree.fixings tree.edition tree.fixed))
  same_refusal one other (of_solution a) (of_fixings b) =
      absurd (fixings_apart other a.problem b a.takes a.fixed)
  same_refusal one other (of_tree a) (of_fixings b) =
      absurd (fixings_apart other a.problem b a.takes
      (as_fixings a.problem (input_name task input.Fixings) a.fixings a.edition a.fixed))
  same_refusal one other (of_plan a) (of_fixings b) =
      let tree = a.tree in
      absurd (fixings_apart other a.problem b a.takes
      (as_fixings a.problem (input_name task input.Fixings) tree.fixings tree.edition tree.fixed))
  same_refusal one other (of_solution a) (of_tree b) = absurd (no_tree task a.name b.name a.named b.named)
  same_refusal one other (of_solution a) (of_plan b) = absurd (no_plan task a.name b.name a.named b.named)
  same_refusal one other (of_tree a) (of_solution b) = absurd (no_tree task b.name a.name b.named a.named)
  same_refusal one other (of_plan a) (of_solution b) = absurd (no_plan task b.name a.name b.named a.named)
  same_refusal one other (of_tree a) (of_plan b) = absurd (tree_apart one b.problem a b.takes b.tree)
  same_refusal one other (of_plan a) (of_tree b) = absurd (tree_apart other a.problem b a.takes a.tree)

  -- two causes that stop the task are one, but for want of memory and failed readings
  pub one_cause : (old new before after : Counts) (one other : Cause)
      → StopsTask holds old new task one → StopsTask holds before after task other
      → IsFromOutside one ⊎ (IsFromOutside other ⊎ (one ≡ other))
  one_cause old new before after one other a b =
      by (refused_as holds task old new one a) (refused_as holds task before after other b)
    where
      by : IsFromOutside one ⊎ Refused holds task one → IsFromOutside other ⊎ Refused holds task other
          → IsFromOutside one ⊎ (IsFromOutside other ⊎ (one ≡ other))
      by (inl x) y = inl x
      by (inr x) (inl y) = inr (inl y)
      by (inr x) (inr y) = inr (inr (same_refusal one other x y))
