-- What stopped a run, from one call to the next.
use Rattle.std.proofs.Common.{◌≡◌, ◌⊎◌, ◌≤◌, ◌<◌, ℕ, Bool, true, false, List, Option, Some, None, refl, ap, inl, inr, sym, subst, length, ◌∙◌, arith}
use Rattle.std.specs.Prelude.{IfSome, IsSomeAnd}
use Rattle.std.specs.Bool.{Decides}
use Rattle.std.specs.Str.{bytes_eq}
use Rattle.std.proofs.lemmas.Slice.Eq.{bytes_eq-Decides}
use Rattle.disp_model.specs.declared.problem.Problem.{Problem}
use Rattle.disp_model.specs.declared.limits.TheConstants.{MOST_FILE_BYTES}
use Rattle.command_words.specs.declared.task.JudgeTask.{JudgeTask}
use Rattle.command_words.specs.declared.task.SolveTask.{SolveTask}
use Rattle.command_words.specs.declared.task.Task.{Task}
use Rattle.command_words.specs.declared.task.Task.TheVariants.{Solve}
use Rattle.command_words.specs.Task.{IsTask}
use Rattle.answered_tasks.specs.declared.outcome.Answer.{Answer}
use Rattle.answered_tasks.specs.declared.judge.Telling.{Telling}
use Rattle.answered_tasks.specs.declared.cause.Cause.{Cause}
use Rattle.answered_tasks.specs.declared.cause.Cause.TheVariants.{Words, Failed, TooLong, NoProblem, NoSolution, BadLine, NoTree, WrongEdition, NoPlan, Memory}
use Rattle.answered_tasks.specs.declared.cause.Input.TheVariants as input
use Rattle.disp_outside.specs.States.{Holdings, Counts, ShelfState}
use Rattle.text_puts.proofs.Counting.{never_falls}
use Rattle.answered_tasks.specs.Outside.{IsFile, HoldsTooMuch, ReadsOne, ReadsNames, ReadsBehind, IsName, IsProblemOrFixings, IsOneOfThree}
use Rattle.answered_tasks.specs.Files.{IsProblemFile, IsRefusedLine, AreAsked, AreFixings, HasFixings}
use Rattle.disp_outside.specs.Lines.{HasLinesOf}
use Rattle.disp_model.specs.declared.fixing.Change.{Change}
use Rattle.disp_model.specs.declared.fixing.Fixing.{Fixing}
use Rattle.fixing_files.specs.declared.take.LineNo.{LineNo}
use Rattle.answered_tasks.specs.declared.cause.Input.{Input}
use Rattle.answered_tasks.specs.Answers.{IsJudgedFile}
use Rattle.answered_tasks.specs.Causes.{StopsProblem, StopsSolve, StopsSolution, StopsFixings, StopsGivenFixings, StopsJudging, StopsVerify, IsWant, IsBadFile, input_name, judged_name, TakesProblem, StopsTask, StopsRun, CountsTask}

different : false ≡ true → ⊥
different e = cc

-- where the files of a problem to be solved are read, the counts of other names stay
pub counts_of_two : (task : SolveTask) (old new : Counts)
    → ((name : List ℕ) → old name ≤ new name)
    → ((other : List ℕ) → (IsProblemOrFixings task.problem task.fixings other → ⊥)
    → new other ≡ old other)
    → (name : List ℕ) → CountsTask (Solve task) old new name
counts_of_two task old new counted others name = record {
  never_falls = counted name;
  stays = λ unread. others name (given unread);
}
  where
    given : ((which : Input) → input_name (Solve task) which ≡ Some name → ⊥)
        → IsProblemOrFixings task.problem task.fixings name → ⊥
    given unread (inl e) = unread input.Problem (ap Some (sym e))
    given unread (inr e) = unread input.Fixings e

-- where files of a verification are read, the counts of other names stay
pub counts_of_three : (task : Task) (judged : JudgeTask)
    → ((which : Input) → input_name task which ≡ judged_name judged which) → (old new : Counts)
    → ((name : List ℕ) → old name ≤ new name)
    → ((other : List ℕ) → (IsOneOfThree judged.problem judged.fixings judged.solution other → ⊥)
    → new other ≡ old other) → (name : List ℕ) → CountsTask task old new name
counts_of_three task judged same old new counted others name = record {
  never_falls = counted name;
  stays = λ unread. others name (given unread);
}
  where
    given : ((which : Input) → input_name task which ≡ Some name → ⊥)
        → IsOneOfThree judged.problem judged.fixings judged.solution name → ⊥
    given unread (inl e) = unread input.Problem (same input.Problem ∙ ap Some (sym e))
    given unread (inr (inl e)) = unread input.Fixings (same input.Fixings ∙ e)
    given unread (inr (inr e)) = unread input.Solution (same input.Solution ∙ ap Some (sym e))

-- what a file held before another reading, which changed no file
pub file_before : (holds mid : Holdings) (name bytes : List ℕ) → mid name ≡ holds name → IsFile mid name bytes → IsFile holds name bytes
file_before holds mid name bytes same h = record { held = subst (λ (found : Option (Option (List ℕ))). IfSome found (λ file. file ≡ Some bytes)) same h.held; short = h.short }

pub bad_before : (holds mid : Holdings) (name : List ℕ) (Bad : List ℕ → Type 0) → mid name ≡ holds name → IsBadFile mid name Bad → IsBadFile holds name Bad
bad_before holds mid name Bad same h = record { bytes = h.bytes; file = file_before holds mid name h.bytes same h.file; bad = h.bad }

pub lines_before : (holds mid : Holdings) (name : List ℕ) (told : Option (List (List ℕ))) → mid name ≡ holds name → HasLinesOf (mid name) told → HasLinesOf (holds name) told
lines_before holds mid name told same h = subst (λ (found : Option (Option (List ℕ))). HasLinesOf found told) same h

pub refused_before : (holds mid : Holdings) (problem : Problem) (name : List ℕ) (number : ℕ) (reason : LineNo) → mid name ≡ holds name → IsRefusedLine mid problem name number reason → IsRefusedLine holds problem name number reason
refused_before holds mid problem name number reason same h = record { told = h.told; lines = lines_before holds mid name h.told same h.lines; refused = h.refused }

pub long_before : (holds mid : Holdings) (name : List ℕ) → mid name ≡ holds name → HoldsTooMuch mid name → HoldsTooMuch holds name
long_before holds mid name same h = subst (λ (found : Option (Option (List ℕ))). IfSome found (λ file. IsSomeAnd file (λ bytes. MOST_FILE_BYTES < length bytes))) same h

-- fixings that were taken behind another reading
pub fixings_before : (holds mid : Holdings) (problem : Problem) (name : Option (List ℕ)) (fixings : List Fixing) → ((other : List ℕ) → mid other ≡ holds other) → AreFixings mid problem name fixings → AreFixings holds problem name fixings
fixings_before holds mid problem None fixings same h = h
fixings_before holds mid problem (Some name) fixings same h = record { told = h.told; lines = lines_before holds mid name h.told (same name) h.lines; changes = h.changes; taken = h.taken; edition = h.edition; standing = h.standing }

has_fixings_before : (holds mid : Holdings) (problem : Problem) (name : Option (List ℕ)) → ((other : List ℕ) → mid other ≡ holds other) → HasFixings mid problem name → HasFixings holds problem name
has_fixings_before holds mid problem name same h = (h.0, fixings_before holds mid problem name h.0 same h.1)

-- what stopped the judging of a solution without fixings, or behind their reading
pub stops_solution : (holds mid_holds : Holdings) (old mid new : Counts) (problem : Problem) (fixings : Option (List ℕ)) (name : List ℕ) (cause : Cause) → HasFixings holds problem fixings
    → ((other : List ℕ) → mid_holds other ≡ holds other) → ((other : List ℕ) → old other ≤ mid other) → StopsSolution mid_holds mid new name cause → StopsJudging holds old new problem fixings name cause
stops_solution holds mid_holds old mid new problem fixings name (Failed which) taken same counted (is, lt) = rw is (taken, omega (arith, counted name, lt))
stops_solution holds mid_holds old mid new problem fixings name (TooLong which) taken same counted (is, long) = (is, taken, long_before holds mid_holds name (same name) long)
stops_solution holds mid_holds old mid new problem fixings name (NoSolution refusal) taken same counted bad = (taken, bad_before holds mid_holds name _ (same name) bad)
stops_solution holds mid_holds old mid new problem fixings name Memory taken same counted stops = tt
stops_solution holds mid_holds old mid new problem fixings name (Words text) taken same counted stops = absurd stops
stops_solution holds mid_holds old mid new problem fixings name (NoProblem refusal) taken same counted stops = absurd stops
stops_solution holds mid_holds old mid new problem fixings name (BadLine number reason) taken same counted stops = absurd stops
stops_solution holds mid_holds old mid new problem fixings name (NoTree refusal) taken same counted stops = absurd stops
stops_solution holds mid_holds old mid new problem fixings name (WrongEdition named wanted) taken same counted stops = absurd stops
stops_solution holds mid_holds old mid new problem fixings name (NoPlan refusal) taken same counted stops = absurd stops

-- what stopped the reading of the fixings
pub stops_fixings : (holds : Holdings) (old new : Counts) (problem : Problem) (name solution : List ℕ) (cause : Cause) → StopsFixings holds old new problem name cause → StopsJudging holds old new problem (Some name) solution cause
stops_fixings holds old new problem name solution (Failed which) (is, lt) = rw is (name, refl, lt)
stops_fixings holds old new problem name solution (BadLine number reason) refused = (name, refl, refused)
stops_fixings holds old new problem name solution (NoTree refusal) stops = absurd stops
stops_fixings holds old new problem name solution (WrongEdition named wanted) stops = absurd stops
stops_fixings holds old new problem name solution (NoPlan refusal) stops = absurd stops
stops_fixings holds old new problem name solution Memory stops = tt
stops_fixings holds old new problem name solution (Words text) stops = absurd stops
stops_fixings holds old new problem name solution (TooLong which) stops = absurd stops
stops_fixings holds old new problem name solution (NoProblem refusal) stops = absurd stops
stops_fixings holds old new problem name solution (NoSolution refusal) stops = absurd stops

-- what stopped the judging behind the reading of the problem
pub stops_judging : (holds mid_holds : Holdings) (old mid new : Counts) (problem : Problem) (fixings : Option (List ℕ)) (name : List ℕ) (cause : Cause) → ((other : List ℕ) → mid_holds other ≡ holds other)
    → ((other : List ℕ) → old other ≤ mid other) → StopsJudging mid_holds mid new problem fixings name cause → StopsJudging holds old new problem fixings name cause
stops_judging holds mid_holds old mid new problem fixings name (Failed input.Problem) same counted stops = absurd stops
stops_judging holds mid_holds old mid new problem fixings name (Failed input.Fixings) same counted (file, is, lt) = (file, is, omega (arith, counted file, lt))
stops_judging holds mid_holds old mid new problem fixings name (Failed input.Solution) same counted (taken, lt) = (has_fixings_before holds mid_holds problem fixings same taken, omega (arith, counted name, lt))
stops_judging holds mid_holds old mid new problem fixings name (Failed input.Tree) same counted stops = absurd stops
stops_judging holds mid_holds old mid new problem fixings name (Failed input.Plan) same counted stops = absurd stops
stops_judging holds mid_holds old mid new problem fixings name (TooLong which) same counted (is, taken, long) = (is, has_fixings_before holds mid_holds problem fixings same taken, long_before holds mid_holds name (same name) long)
stops_judging holds mid_holds old mid new problem fixings name (NoSolution refusal) same counted (taken, bad) = (has_fixings_before holds mid_holds problem fixings same taken, bad_before holds mid_holds name _ (same name) bad)
stops_judging holds mid_holds old mid new problem fixings name (BadLine number reason) same counted (file, is, refused) = (file, is, refused_before holds mid_holds problem file number reason (same file) refused)
stops_judging holds mid_holds old mid new problem fixings name (NoTree refusal) same counted stops = absurd stops
stops_judging holds mid_holds old mid new problem fixings name (WrongEdition named wanted) same counted stops = absurd stops
stops_judging holds mid_holds old mid new problem fixings name (NoPlan refusal) same counted stops = absurd stops
stops_judging holds mid_holds old mid new problem fixings name Memory same counted stops = tt
stops_judging holds mid_holds old mid new problem fixings name (Words text) same counted stops = absurd stops
stops_judging holds mid_holds old mid new problem fixings name (NoProblem refusal) same counted stops = absurd stops

-- a task whose problem is read
pub takes_named : (holds : Holdings) (task : Task) (name : List ℕ) (read : Problem)
    → input_name task input.Problem ≡ Some name → IsProblemFile holds name read
    → TakesProblem holds task read
takes_named holds task name read named file = record { name = name; named = named; file = file }

-- the reading of the problem stopped a task
pub stops_at_problem : (holds : Holdings) (old new : Counts) (task : Task) (name : List ℕ)
    (cause : Cause) → input_name task input.Problem ≡ Some name
    → StopsProblem holds old new name cause → StopsTask holds old new task cause
stops_at_problem holds old new task name (Words text) named stops = absurd stops
stops_at_problem holds old new task name (Failed which) named (is, lt) = rw is (tt, (name, named, lt))
stops_at_problem holds old new task name (TooLong which) named (is, long) =
    rw is (tt, (name, named, long))
stops_at_problem holds old new task name (NoProblem refusal) named bad = (name, named, bad)
stops_at_problem holds old new task name (NoSolution refusal) named stops = absurd stops
stops_at_problem holds old new task name (BadLine number reason) named stops = absurd stops
stops_at_problem holds old new task name (NoTree refusal) named stops = absurd stops
stops_at_problem holds old new task name (WrongEdition one other) named stops = absurd stops
stops_at_problem holds old new task name (NoPlan refusal) named stops = absurd stops
stops_at_problem holds old new task name Memory named stops = tt

-- the reading of the fixings stopped a task, behind that of the problem
stops_at_file : (before holds : Holdings) (first old new : Counts) (task : Task) (problem : Problem)
    (name : List ℕ) (cause : Cause) → input_name task input.Fixings ≡ Some name
    → ReadsBehind before holds first old → TakesProblem before task problem
    → StopsFixings holds old new problem name cause → StopsTask before first new task cause
stops_at_file before holds first old new task problem name (Words text) named behind takes stops =
    absurd stops
stops_at_file before holds first old new task problem name (Failed which) named behind takes
    (is, lt) = rw is ((problem, takes), (name, named, omega (arith, behind.counted name, lt)))
stops_at_file before holds first old new task problem name (TooLong which) named behind takes stops =
    absurd stops
stops_at_file before holds first old new task problem name (NoProblem refusal) named behind takes
    stops = absurd stops
stops_at_file before holds first old new task problem name (NoSolution refusal) named behind takes
    stops = absurd stops
stops_at_file before holds first old new task problem name (BadLine number reason) named behind takes
    refused = record {
      problem = problem;
      takes = takes;
      name = name;
      named = named;
      refused = refused_before before holds problem name number reason (behind.held name) refused;
    }
stops_at_file before holds first old new task problem name (NoTree refusal) named behind takes
    stops = absurd stops
stops_at_file before holds first old new task problem name (WrongEdition one other) named behind
    takes stops = absurd stops
stops_at_file before holds first old new task problem name (NoPlan refusal) named behind takes
    stops = absurd stops
stops_at_file before holds first old new task problem name Memory named behind takes stops = tt

pub stops_at_fixings : (before holds : Holdings) (first old new : Counts) (task : Task)
    (problem : Problem) (fixings : Option (List ℕ)) (cause : Cause)
    → input_name task input.Fixings ≡ fixings → ReadsBehind before holds first old
    → TakesProblem before task problem → StopsGivenFixings holds old new problem fixings cause
    → StopsTask before first new task cause
stops_at_fixings before holds first old new task problem None cause named behind takes stops =
    rw stops tt
stops_at_fixings before holds first old new task problem (Some name) cause named behind takes stops =
    stops_at_file before holds first old new task problem name cause named behind takes stops

-- what stopped the solving of a problem's file is what stopped its task
pub stops_solve : (holds : Holdings) (old new : Counts) (task : SolveTask) (cause : Cause)
    → StopsSolve holds old new task.problem task.fixings cause
    → StopsTask holds old new (Solve task) cause
stops_solve holds old new task cause (inl stops) =
    stops_at_problem holds old new (Solve task) task.problem cause refl stops
stops_solve holds old new task cause (inr (read, file, stops)) =
    stops_at_fixings holds holds old old new (Solve task) read task.fixings cause
    refl (record { held = λ name. refl; counted = λ name. omega arith })
    (takes_named holds (Solve task) task.problem read refl file) stops

-- want of memory stops it too
pub want_stops : (holds : Holdings) (old new : Counts) (problem : Problem)
    (fixings : Option (List ℕ)) (cause : Cause) → IsWant cause
    → StopsGivenFixings holds old new problem fixings cause
want_stops holds old new problem None cause is = is
want_stops holds old new problem (Some name) cause is = rw is tt

-- what was asked behind another reading
pub asked_before : (holds mid : Holdings) (problem : Problem) (name : Option (List ℕ))
    (asked : List Change) → ((other : List ℕ) → mid other ≡ holds other)
    → AreAsked mid problem name asked → AreAsked holds problem name asked
asked_before holds mid problem None asked same h = h
asked_before holds mid problem (Some name) asked same h = record {
  told = h.told;
  lines = lines_before holds mid name h.told (same name) h.lines;
  few = h.few;
  ask = h.ask;
  taken = h.taken;
}

-- what stopped the reading of fixings behind another reading
pub given_before : (holds mid_holds : Holdings) (old mid new : Counts) (problem : Problem)
    (fixings : Option (List ℕ)) (cause : Cause)
    → ((other : List ℕ) → mid_holds other ≡ holds other)
    → ((other : List ℕ) → old other ≤ mid other)
    → StopsGivenFixings mid_holds mid new problem fixings cause
    → StopsGivenFixings holds old new problem fixings cause
given_before holds mid_holds old mid new problem None cause same counted stops = stops
given_before holds mid_holds old mid new problem (Some name) (Failed which) same counted (is, lt) =
    (is, omega (arith, counted name, lt))
given_before holds mid_holds old mid new problem (Some name) (BadLine number reason) same counted
    refused = refused_before holds mid_holds problem name number reason (same name) refused
given_before holds mid_holds old mid new problem (Some name) Memory same counted stops = tt
given_before holds mid_holds old mid new problem (Some name) cause same counted stops = absurd stops

-- what stopped the judging of a solution is what stopped its task
module _ (holds : Holdings) (old new : Counts) (task : Task) (judged : JudgeTask)
    (same : (which : Input) → input_name task which ≡ judged_name judged which) where
  taken_for : (read : Problem) → HasFixings holds read judged.fixings
      → HasFixings holds read (input_name task input.Fixings)
  taken_for read taken = subst (HasFixings holds read) (sym (same input.Fixings)) taken

  stops_behind : (read : Problem) → TakesProblem holds task read → (cause : Cause)
      → StopsJudging holds old new read judged.fixings judged.solution cause
      → StopsTask holds old new task cause
  stops_behind read takes (Words text) stops = absurd stops
  stops_behind read takes (Failed input.Problem) stops = absurd stops
  stops_behind read takes (Failed input.Fixings) (name, is, lt) =
      ((read, takes), (name, same input.Fixings ∙ is, lt))
  stops_behind read takes (Failed input.Solution) (taken, lt) =
      ((read, takes, taken_for read taken), (judged.solution, same input.Solution, lt))
  stops_behind read takes (Failed input.Tree) stops = absurd stops
  stops_behind read takes (Failed input.Plan) stops = absurd stops
  stops_behind read takes (TooLong which) (is, taken, long) =
      rw is ((read, takes, taken_for read taken), (judged.solution, same input.Solution, long))
  stops_behind read takes (NoProblem refusal) stops = absurd stops
  stops_behind read takes (NoSolution refusal) (taken, bad) =
      ((read, takes, taken_for read taken), (judged.solution, same input.Solution, bad))
  stops_behind read takes (BadLine number reason) (name, is, refused) = record {
    problem = read;
    takes = takes;
    name = name;
    named = same input.Fixings ∙ is;
    refused = refused;
  }
  stops_behind read takes (NoTree refusal) stops = absurd stops
  stops_behind read takes (WrongEdition named wanted) stops = absurd stops
  stops_behind read takes (NoPlan refusal) stops = absurd stops
  stops_behind read takes Memory stops = tt

  pub stops_judge : (cause : Cause)
      → StopsVerify holds old new judged.problem judged.fixings judged.solution cause
      → StopsTask holds old new task cause
  stops_judge cause (inl stops) =
      stops_at_problem holds old new task judged.problem cause (same input.Problem) stops
  stops_judge cause (inr (read, file, stops)) =
      stops_behind read (takes_named holds task judged.problem read (same input.Problem) file) cause
      stops

-- a solution that was judged behind another reading
pub judged_file_before : (holds mid : Holdings) (telling : Telling) (problem : Problem)
    (fixings : List Fixing) (name : List ℕ) (answer : Answer)
    → ((other : List ℕ) → mid other ≡ holds other)
    → IsJudgedFile mid telling problem fixings name answer
    → IsJudgedFile holds telling problem fixings name answer
judged_file_before holds mid telling problem fixings name answer same h = record {
  plan = h.plan;
  stated = h.stated;
  file = record { bytes = h.file.bytes; file = file_before holds mid name h.file.bytes (same name) h.file.file; read = h.file.read };
  judged = h.judged;
}

-- one reading
pub reads_of_one : (one : List ℕ) (old new : ShelfState) (Fault : Type 0) → ReadsOne one old new Fault
    → ReadsNames (IsName one) old new Fault
reads_of_one one old new Fault h = record {
  counted = never_falls one old.reading new.reading h.counted h.others;
  fault = λ name lt. h.fault (subst (λ (n : List ℕ). old.reading n < new.reading n) (is_one name lt) lt);
  one = λ name other lt also. is_one name lt ∙ sym (is_one other also);
  others = h.others;
  puttings = h.puttings;
  held = h.held;
}
  where
    rise : (name : List ℕ) → (b : Bool) → Decides b (name ≡ one) → old.reading name < new.reading name → name ≡ one
    rise name true same lt = same.0 refl
    rise name false unlike lt = absurd (omega (arith, lt, h.others name (λ e. different (unlike.1 e))))

    is_one : (name : List ℕ) → old.reading name < new.reading name → name ≡ one
    is_one name lt = rise name (bytes_eq name one) (bytes_eq-Decides name one) lt

-- two readings, of which the first had no fault
pub reads_then : (One Two : List ℕ → Type 0) (old mid new : ShelfState) (First Fault : Type 0) → (First → ⊥)
    → ReadsNames One old mid First → ReadsNames Two mid new Fault
    → ReadsNames (λ name. One name ⊎ Two name) old new Fault
reads_then One Two old mid new First Fault none first second = record {
  counted = λ name. omega (arith, first.counted name, second.counted name);
  fault = λ name lt. second.fault name (omega (arith, lt, kept name));
  one = λ name other lt also. second.one name other (omega (arith, lt, kept name)) (omega (arith, also, kept other));
  others = λ other given. second.others other (λ two. given (inr two)) ∙ first.others other (λ one. given (inl one));
  puttings = λ other. second.puttings other ∙ first.puttings other;
  held = λ other. second.held other ∙ first.held other;
}
  where
    kept : (name : List ℕ) → mid.reading name ≡ old.reading name
    kept name = omega (arith, first.counted name, (λ (lt : old.reading name < mid.reading name). none (first.fault name lt)))

-- readings among more names
pub reads_among : (Few Many : List ℕ → Type 0) (old new : ShelfState) (Fault : Type 0) → ((name : List ℕ) → Few name → Many name)
    → ReadsNames Few old new Fault → ReadsNames Many old new Fault
reads_among Few Many old new Fault more h = record {
  counted = h.counted;
  fault = h.fault;
  one = h.one;
  others = λ other given. h.others other (λ few. given (more other few));
  puttings = h.puttings;
  held = h.held;
}

-- what stopped a task has stopped the words that ask for it
pub stops_task : (words : List (List ℕ)) (holds : Holdings) (old new : Counts) (task : Task) (cause : Cause) → IsTask words task → StopsTask holds old new task cause → StopsRun words holds old new cause
stops_task words holds old new task (Words text) asked stops = absurd stops
stops_task words holds old new task (Failed which) asked stops = record { task = task; asked = asked; stops = stops }
stops_task words holds old new task (TooLong which) asked stops = record { task = task; asked = asked; stops = stops }
stops_task words holds old new task (NoProblem refusal) asked stops = record { task = task; asked = asked; stops = stops }
stops_task words holds old new task (NoSolution refusal) asked stops = record { task = task; asked = asked; stops = stops }
stops_task words holds old new task (BadLine number reason) asked stops = record { task = task; asked = asked; stops = stops }
stops_task words holds old new task (NoTree refusal) asked stops = record { task = task; asked = asked; stops = stops }
stops_task words holds old new task (WrongEdition named wanted) asked stops = record { task = task; asked = asked; stops = stops }
stops_task words holds old new task (NoPlan refusal) asked stops = record { task = task; asked = asked; stops = stops }
stops_task words holds old new task Memory asked stops = tt
