-- What stopped a check, and what was read for it, from one call to the next.
use Rattle.std.proofs.Common.{◌≡◌, ◌≤◌, ℕ, List, Option, Some, None, refl, ap, inl, inr, sym, subst, arith, length, ◌∙◌}
use Rattle.std.specs.Prelude.{IfSome}
use Rattle.disp_model.specs.declared.plan.Event.{Event}
use Rattle.disp_model.specs.declared.fixing.Fixing.{Fixing}
use Rattle.disp_model.specs.declared.fixing.Change.{Change}
use Rattle.disp_model.specs.Changes.{standing_of}
use Rattle.disp_model.specs.Replies.{IsEdition}
use Rattle.disp_model.specs.declared.problem.Problem.{Problem}
use Rattle.disp_model.specs.declared.tree.TreeNode.{TreeNode}
use Rattle.disp_model.specs.declared.tree.Verdict.{Verdict}
use Rattle.solution_verifier.specs.First.{IsRight}
use Rattle.tree_checker.specs.declared.why.Checked.{Checked}
use Rattle.tree_checker.specs.Checks.{IsChecked}
use Rattle.command_words.specs.declared.task.Task.TheVariants.{Check}
use Rattle.answered_tasks.specs.declared.outcome.Answer.{Answer}
use Rattle.answered_tasks.specs.declared.cause.Cause.{Cause}
use Rattle.answered_tasks.specs.declared.cause.Cause.TheVariants.{Words, Failed, TooLong, NoProblem, NoSolution, BadLine, NoTree, WrongEdition, NoPlan, Memory}
use Rattle.answered_tasks.specs.declared.cause.Input.{Input}
use Rattle.answered_tasks.specs.declared.cause.Input.TheVariants as input
use Rattle.disp_outside.specs.States.{Holdings, Counts, ShelfState}
use Rattle.answered_tasks.specs.Outside.{ReadsOne, ReadsNames, ReadsBehind, IsName, IsGiven, IsOneOfFour}
use Rattle.answered_tasks.specs.Files.{IsProblemFile, IsTreeFile, IsPlanFile, AreFixings, AreOfEdition, AreChangesTaken, HasFixings}
use Rattle.answered_tasks.specs.Answers.{IsCheckedWithPlan, IsCheckedFile}
use Rattle.answered_tasks.specs.Causes.{StopsTree, StopsGivenPlan, StopsTask, TakesProblem, TakesTree, CountsTask, input_name}
use Rattle.answered_tasks.proofs.Stopped.{file_before, bad_before, lines_before, long_before, reads_of_one, reads_among}

-- ---- what was read behind another reading, which changed no file

plan_file_before : (holds mid : Holdings) (name : Option (List ℕ)) (plan : Option (List Event × Option ℕ)) → ((other : List ℕ) → mid other ≡ holds other) → IsPlanFile mid name plan → IsPlanFile holds name plan
plan_file_before holds mid None plan same h = h
plan_file_before holds mid (Some name) None same h = absurd h
plan_file_before holds mid (Some name) (Some plan) same h = record { bytes = h.bytes; file = file_before holds mid name h.bytes (same name) h.file; read = h.read }

pub with_plan_before : (holds mid : Holdings) (problem : Problem) (fixings : List Fixing) (verdict : Verdict) (tree : List TreeNode) (name : Option (List ℕ)) (answer : Answer) → ((other : List ℕ) → mid other ≡ holds other)
    → IsCheckedWithPlan mid problem fixings verdict tree name answer → IsCheckedWithPlan holds problem fixings verdict tree name answer
with_plan_before holds mid problem fixings verdict tree name answer same h = record {
  plan = h.plan;
  plan_file = plan_file_before holds mid name h.plan same h.plan_file;
  checked = h.checked;
}

pub tree_file_before : (holds mid : Holdings) (name : List ℕ) (edition : ℕ) (verdict : Verdict) (tree : List TreeNode) → mid name ≡ holds name → IsTreeFile mid name edition verdict tree → IsTreeFile holds name edition verdict tree
tree_file_before holds mid name edition verdict tree same h = record { bytes = h.bytes; file = file_before holds mid name h.bytes same h.file; read = h.read }

pub checked_file_before : (holds mid : Holdings) (problem : Problem) (fixings : List Fixing) (edition : ℕ) (tree : List ℕ) (plan : Option (List ℕ)) (answer : Answer) → ((other : List ℕ) → mid other ≡ holds other)
    → IsCheckedFile mid problem fixings edition tree plan answer → IsCheckedFile holds problem fixings edition tree plan answer
checked_file_before holds mid problem fixings edition tree plan answer same h = record {
  verdict = h.verdict;
  tree = h.tree;
  tree_file = tree_file_before holds mid tree edition h.verdict h.tree (same tree) h.tree_file;
  rest = with_plan_before holds mid problem fixings h.verdict h.tree plan answer same h.rest;
}

pub edition_before : (holds mid : Holdings) (problem : Problem) (name : Option (List ℕ)) (fixings : List Fixing) (edition : ℕ) → ((other : List ℕ) → mid other ≡ holds other) → AreOfEdition mid problem name fixings edition
    → AreOfEdition holds problem name fixings edition
edition_before holds mid problem None fixings edition same h = h
edition_before holds mid problem (Some name) fixings edition same (file, is) = (
  record { told = file.told; lines = lines_before holds mid name file.told (same name) file.lines; changes = file.changes; taken = file.taken; edition = file.edition; standing = file.standing },
  is,
)

-- the changes that were taken, where a file gives some, are those of the edition of their number
pub edition_of_changes : (holds : Holdings) (problem : Problem) (name : Option (List ℕ)) (asked : Problem) (changes : List Change) → AreChangesTaken holds problem name asked changes → IsEdition asked changes
    → AreOfEdition holds problem name (standing_of changes) (length changes)
edition_of_changes holds problem None asked changes (same, none) edition = rw none (refl, refl)
edition_of_changes holds problem (Some name) asked changes taken edition = (
  record { told = taken.told; lines = taken.lines; changes = changes; taken = taken.taken; edition = rw (← taken.same) edition; standing = refl },
  refl,
)

-- ---- what stopped a check

takes : (holds : Holdings) (problem tree : List ℕ) (fixings plan : Option (List ℕ)) (read : Problem) → IsProblemFile holds problem read → TakesProblem holds (Check problem tree fixings plan) read
takes holds problem tree fixings plan read file = record { name = problem; named = refl; file = file }

takes_tree : (holds : Holdings) (problem_name tree_name : List ℕ) (fixings_name plan : Option (List ℕ)) (problem : Problem) (fixings : List Fixing) (edition : ℕ) (verdict : Verdict) (tree : List TreeNode)
    → AreOfEdition holds problem fixings_name fixings edition → IsTreeFile holds tree_name edition verdict tree → TakesTree holds (Check problem_name tree_name fixings_name plan) problem
takes_tree holds problem_name tree_name fixings_name plan problem fixings edition verdict tree fixed file = record {
  fixings = fixings;
  edition = edition;
  fixed = fixed;
  name = tree_name;
  named = refl;
  verdict = verdict;
  tree = tree;
  file = file;
}

are_fixings : (holds : Holdings) (problem : Problem) (name : Option (List ℕ)) (fixings : List Fixing) (edition : ℕ) → AreOfEdition holds problem name fixings edition → AreFixings holds problem name fixings
are_fixings holds problem None fixings edition (is, none) = is
are_fixings holds problem (Some name) fixings edition (file, is) = file

has_fixings : (holds : Holdings) (problem : Problem) (name : Option (List ℕ)) (fixings : List Fixing) (edition : ℕ) → AreOfEdition holds problem name fixings edition → HasFixings holds problem name
has_fixings holds problem name fixings edition fixed = (fixings, are_fixings holds problem name fixings edition fixed)

-- the reading of the tree
pub stops_by_tree : (before holds : Holdings) (first old new : Counts) (problem : Problem) (fixings : List Fixing) (edition : ℕ) (problem_name tree : List ℕ) (fixings_name plan : Option (List ℕ)) (cause : Cause)
    → ReadsBehind before holds first old → IsProblemFile before problem_name problem → AreOfEdition before problem fixings_name fixings edition → StopsTree holds old new edition tree cause
    → StopsTask before first new (Check problem_name tree fixings_name plan) cause
stops_by_tree before holds first old new problem fixings edition problem_name tree fixings_name plan (Words text) behind file fixed stops = absurd stops
stops_by_tree before holds first old new problem fixings edition problem_name tree fixings_name plan (Failed which) behind file fixed (is, lt) = rw is ((problem, takes before problem_name tree fixings_name plan problem file, has_fixings before problem fixings_name fixings edition fixed), (tree, refl, omega (arith, behind.counted tree, lt)))
stops_by_tree before holds first old new problem fixings edition problem_name tree fixings_name plan (TooLong which) behind file fixed (is, long) = rw is ((problem, takes before problem_name tree fixings_name plan problem file, has_fixings before problem fixings_name fixings edition fixed), (tree, refl, long_before before holds tree (behind.held tree) long))
stops_by_tree before holds first old new problem fixings edition problem_name tree fixings_name plan (NoProblem refusal) behind file fixed stops = absurd stops
stops_by_tree before holds first old new problem fixings edition problem_name tree fixings_name plan (NoSolution refusal) behind file fixed stops = absurd stops
stops_by_tree before holds first old new problem fixings edition problem_name tree fixings_name plan (BadLine number reason) behind file fixed stops = absurd stops
stops_by_tree before holds first old new problem fixings edition problem_name tree fixings_name plan (NoTree refusal) behind file fixed bad = ((problem, takes before problem_name tree fixings_name plan problem file, has_fixings before problem fixings_name fixings edition fixed), (tree, refl, bad_before before holds tree _ (behind.held tree) bad))
stops_by_tree before holds first old new problem fixings edition problem_name tree fixings_name plan (WrongEdition named wanted) behind file fixed (is, unlike, bad) = rw is (record {
  problem = problem;
  takes = takes before problem_name tree fixings_name plan problem file;
  fixings = fixings;
  fixed = fixed;
  text = (tree, refl, bad_before before holds tree _ (behind.held tree) bad);
  other = unlike;
})
stops_by_tree before holds first old new problem fixings edition problem_name tree fixings_name plan (NoPlan refusal) behind file fixed stops = absurd stops
stops_by_tree before holds first old new problem fixings edition problem_name tree fixings_name plan Memory behind file fixed stops = tt

-- the reading of the plan
pub stops_by_plan : (before holds : Holdings) (first old new : Counts) (problem : Problem) (fixings : List Fixing) (edition : ℕ) (verdict : Verdict) (nodes : List TreeNode) (problem_name tree : List ℕ) (fixings_name plan : Option (List ℕ))
    (cause : Cause) → ReadsBehind before holds first old → IsProblemFile before problem_name problem → AreOfEdition before problem fixings_name fixings edition → IsTreeFile before tree edition verdict nodes
    → StopsGivenPlan holds old new plan cause → StopsTask before first new (Check problem_name tree fixings_name plan) cause
stops_by_plan before holds first old new problem fixings edition verdict nodes problem_name tree fixings_name None cause behind file fixed shown stops = rw stops tt
stops_by_plan before holds first old new problem fixings edition verdict nodes problem_name tree fixings_name (Some name) (Words text) behind file fixed shown stops = absurd stops
stops_by_plan before holds first old new problem fixings edition verdict nodes problem_name tree fixings_name (Some name) (Failed which) behind file fixed shown (is, lt) = rw is ((problem, takes before problem_name tree fixings_name (Some name) problem file, takes_tree before problem_name tree fixings_name (Some name) problem fixings edition verdict nodes fixed shown), (name, refl, omega (arith, behind.counted name, lt)))
stops_by_plan before holds first old new problem fixings edition verdict nodes problem_name tree fixings_name (Some name) (TooLong which) behind file fixed shown (is, long) = rw is ((problem, takes before problem_name tree fixings_name (Some name) problem file, takes_tree before problem_name tree fixings_name (Some name) problem fixings edition verdict nodes fixed shown), (name, refl, long_before before holds name (behind.held name) long))
stops_by_plan before holds first old new problem fixings edition verdict nodes problem_name tree fixings_name (Some name) (NoProblem refusal) behind file fixed shown stops = absurd stops
stops_by_plan before holds first old new problem fixings edition verdict nodes problem_name tree fixings_name (Some name) (NoSolution refusal) behind file fixed shown stops = absurd stops
stops_by_plan before holds first old new problem fixings edition verdict nodes problem_name tree fixings_name (Some name) (BadLine number reason) behind file fixed shown stops = absurd stops
stops_by_plan before holds first old new problem fixings edition verdict nodes problem_name tree fixings_name (Some name) (NoTree refusal) behind file fixed shown stops = absurd stops
stops_by_plan before holds first old new problem fixings edition verdict nodes problem_name tree fixings_name (Some name) (WrongEdition named wanted) behind file fixed shown stops = absurd stops
stops_by_plan before holds first old new problem fixings edition verdict nodes problem_name tree fixings_name (Some name) (NoPlan refusal) behind file fixed shown bad = ((problem, takes before problem_name tree fixings_name (Some name) problem file, takes_tree before problem_name tree fixings_name (Some name) problem fixings edition verdict nodes fixed shown), (name, refl, bad_before before holds name _ (behind.held name) bad))
stops_by_plan before holds first old new problem fixings edition verdict nodes problem_name tree fixings_name (Some name) Memory behind file fixed shown stops = tt

-- ---- which names were read

-- nothing was read
pub reads_nothing : (Given : List ℕ → Type 0) (at : ShelfState) (Fault : Type 0)
    → ReadsNames Given at at Fault
reads_nothing Given at Fault = record {
  counted = λ name. omega arith;
  fault = λ name lt. absurd (omega (arith, lt));
  one = λ name other lt also. absurd (omega (arith, lt));
  others = λ other given. refl;
  puttings = λ other. refl;
  held = λ other. refl;
}

-- one name was read, which is given
pub reads_given : (one : List ℕ) (old new : ShelfState) (Fault : Type 0) → ReadsOne one old new Fault
    → ReadsNames (IsGiven (Some one)) old new Fault
reads_given one old new Fault h = reads_among (IsName one) (IsGiven (Some one)) old new Fault (λ n e. ap Some (sym e))
    (reads_of_one one old new Fault h)

-- names were read, and no fault was met
pub reads_well : (Given : List ℕ → Type 0) (old new : ShelfState) (Never Fault : Type 0) → (Never → ⊥) → ReadsNames Given old new Never
    → ReadsNames Given old new Fault
reads_well Given old new Never Fault none h = record {
  counted = h.counted;
  fault = λ name lt. absurd (none (h.fault name lt));
  one = h.one;
  others = h.others;
  puttings = h.puttings;
  held = h.held;
}

-- what is read behind names that were read without a fault is behind them
pub behind_names : (Given : List ℕ → Type 0) (before after : ShelfState) (Fault : Type 0)
    → ReadsNames Given before after Fault
    → ReadsBehind before.holds after.holds before.reading after.reading
behind_names Given before after Fault h = record { held = h.held; counted = h.counted }

-- one reading behind another
pub behind_both : (before mid holds : Holdings) (first middle old : Counts) → ReadsBehind before mid first middle → ReadsBehind mid holds middle old → ReadsBehind before holds first old
behind_both before mid holds first middle old one two = record {
  held = λ name. two.held name ∙ one.held name;
  counted = λ name. omega (arith, one.counted name, two.counted name);
}

-- where files of a check are read, the counts of other names stay
pub counts_of_four : (problem tree : List ℕ) (fixings plan : Option (List ℕ)) (old new : Counts) → ((name : List ℕ) → old name ≤ new name)
    → ((other : List ℕ) → (IsOneOfFour problem fixings tree plan other → ⊥) → new other ≡ old other) → (name : List ℕ) → CountsTask (Check problem tree fixings plan) old new name
counts_of_four problem tree fixings plan old new counted others name = record {
  never_falls = counted name;
  stays = λ unread. others name (given unread);
}
  where
    given : ((which : Input) → input_name (Check problem tree fixings plan) which ≡ Some name → ⊥) → IsOneOfFour problem fixings tree plan name → ⊥
    given unread (inl e) = unread input.Problem (ap Some (sym e))
    given unread (inr (inl e)) = unread input.Fixings e
    given unread (inr (inr (inl e))) = unread input.Tree (ap Some (sym e))
    given unread (inr (inr (inr e))) = unread input.Plan e

-- ---- what is said of a plan

-- a plan that is right with its own stated cost, and with another, is right with its own and costs the other
pub right_under : (problem : Problem) (fixings : List Fixing) (plan : List Event) (stated : Option ℕ) (cost own other : ℕ) → IsRight problem fixings plan stated own → IsRight problem fixings plan (Some cost) other
    → IsRight problem fixings plan stated cost
right_under problem fixings plan stated cost own other one two =
    let same : own ≡ cost = one.cost ∙ sym two.cost ∙ sym two.stated_is in
    record {
      valid = one.valid;
      cost = two.stated_is ∙ two.cost;
      stated_is = subst (λ (n : ℕ). IfSome stated (λ s. s ≡ n)) same one.stated_is;
    }

-- what the checker answers of the same tree
pub checked_as : (problem : Problem) (fixings : List Fixing) (verdict : Verdict) (one two : List TreeNode) (found checked : Checked) → one ≡ two → found ≡ checked → IsChecked problem fixings verdict one found
    → IsChecked problem fixings verdict two checked
checked_as problem fixings verdict one two found checked same is h =
    subst (λ (t : List TreeNode). IsChecked problem fixings verdict t checked) same (subst (λ (x : Checked). IsChecked problem fixings verdict one x) is h)
