-- How a roll ends, from how its parts end.
use Rattle.std.proofs.Common.{◌≡◌, ◌≢◌, ◌∙◌, ◌⊎◌, inl, inr, ◌<◌, ◌≤◌, ℕ, Bool, true, false, List, [], Contains, Option, Some, None, get_or, length, slice_get, refl, sym, subst, arith}
use Rattle.std.proofs.lemmas.List.Elements.{All-map}
use Rattle.std.proofs.lemmas.Option.{get_or_from_slice_get, slice_get_cases}
use Rattle.std.proofs.lemmas.Simd.{map-map}
use Rattle.std.specs.Prelude.{Result, Ok, Err, IfErr, OnErr}
use Rattle.std.specs.Bool.{Decides}
use Rattle.std.specs.Str.{bytes_eq}
use Rattle.std.proofs.lemmas.Slice.Eq.{bytes_eq-Decides}
use Rattle.disp_outside.specs.Lines.{HasLinesOf}
use Rattle.disp_model.specs.declared.entry.Entry.{Entry}
use Rattle.disp_model.specs.declared.problem.Problem.{Problem}
use Rattle.disp_model.specs.declared.settings.Settings.{Settings}
use Rattle.command_words.specs.declared.task.RollTask.{RollTask}
use Rattle.command_words.specs.Settings.{roll_settings_of}
use Rattle.solved_problems.proofs.Marks.{marks_say}
use Rattle.disp_outside.specs.States.{Holdings, Counts}
use Rattle.text_puts.specs.Outside.{Outside, shelf_of}
use Rattle.text_puts.proofs.Counting.{stays, same_all, never_falls}
use Rattle.answered_tasks.specs.Files.{IsProblemFile}
use Rattle.answered_tasks.specs.Outside.{ReadsOne}
use Rattle.rolling_driver.specs.Rolled.{Fed, IsRolled, fed}
use Rattle.dispatch_cli.specs.declared.roll_no.RollNo.{RollNo}
use Rattle.dispatch_cli.specs.declared.roll_no.RollNo.TheVariants.{TooManyFeeds, Problem as NoProblem, FeedFailed, Memory}
use Rattle.dispatch_cli.specs.Feeds.{AreFed, AreOpened, StopsFeeds}
use Rattle.dispatch_cli.specs.Rolls.{HasFewFeeds, IsOutsideAsBefore, StopsRoll, HasNotBegun, RunsFeeds, EndsRun, EndsStopped, ReadsInputs}
use Rattle.dispatch_cli.specs.Stops.{IsFault, StopsWith}

module _ {F : Type 0} (name : F → List ℕ) (told : F → Option (List (List ℕ))) (has_ended : F → Bool) (faults : F → ℕ) where
  -- what clauses see of feeds that are open
  pub fed_of_opened : (holds : Holdings) (names : List (List ℕ)) (feeds : List F) → AreOpened name told has_ended faults holds names feeds → AreFed holds names (fed name told feeds)
  fed_of_opened holds names feeds opened = record {
    names_are = map-map (λ (feed : Fed). feed.0) (λ (feed : F). (name feed, told feed)) feeds ∙ opened.names_are;
    lines = All-map (λ (feed : Fed). HasLinesOf (holds feed.0) feed.1) (λ (feed : F). (name feed, told feed)) feeds opened.lines;
  }

-- the feeds of a task ran
pub runs_of : (task : RollTask) (problem : Problem) (old start new : Outside) (settings : Settings) (trees : Option (List ℕ)) (names : List (List ℕ)) (feeds : List Fed) (status : ℕ) (journal : List Entry)
    → HasFewFeeds task → settings ≡ roll_settings_of task → trees ≡ task.trees → names ≡ task.feeds → AreFed old.holds names feeds → IsOutsideAsBefore old start
    → IsRolled problem settings trees feeds start new journal status → RunsFeeds task problem old new status journal
runs_of task problem old start new settings trees names feeds status journal few same_settings same_trees same_names are begins ran =
    let rolled : IsRolled problem (roll_settings_of task) task.trees feeds start new journal status =
    subst (λ (s : Settings). IsRolled problem s task.trees feeds start new journal status) same_settings
    (subst (λ (t : Option (List ℕ)). IsRolled problem settings t feeds start new journal status) same_trees ran) in
    record {
      few = few;
      feeds = feeds;
      fed = subst (λ (n : List (List ℕ)). AreFed old.holds n feeds) same_names are;
      start = start;
      begins = begins;
      ran = rolled;
      promise = marks_say problem (roll_settings_of task) journal rolled.legal;
    }

-- an element of a list, by its place
contains_at : (names : List (List ℕ)) (i : ℕ) (one : List ℕ) → slice_get names i ≡ Some one → Contains names one
contains_at names i one is = go (slice_get_cases names i).1
  where
    Inside : Type 0
    Inside = (x : List ℕ) × (i < length names) × (slice_get names i ≡ Some x) × (get_or names i x ≡ x)

    go : Inside ⊎ ((length names ≤ i) × (slice_get names i ≡ None)) → Contains names one
    go (inl inside) = (i, inside.1, get_or_from_slice_get names i one one is)
    go (inr past) = let none : Some one ≡ None = sym is ∙ past.1 in cc

-- the counts behind the opening of feeds
opening_counts : (task : RollTask) (old mid new : Counts) (why : RollNo) → ((name : List ℕ) → mid name ≡ old name) → StopsFeeds task.feeds mid new why
    → ((name : List ℕ) → new name ≡ old name) ⊎ ((one : List ℕ) × Contains task.feeds one × (old one < new one) × ((other : List ℕ) → other ≢ one → new other ≡ old other) × IsFault why)
opening_counts task old mid new (TooManyFeeds count) quiet stops = absurd stops
opening_counts task old mid new (NoProblem cause) quiet stops = absurd stops
opening_counts task old mid new (FeedFailed number) quiet stops =
    inr (stops.name, contains_at task.feeds number stops.name stops.is, subst (λ (n : ℕ). n < new stops.name) (quiet stops.name) stops.risen, (λ other apart. stops.others other apart ∙ quiet other), tt)
opening_counts task old mid new Memory quiet stops = inl (λ name. stops name ∙ quiet name)

-- a count that rose is that of the one name whose count may change
only_one : (one name : List ℕ) (old new : Counts) → ((other : List ℕ) → other ≢ one → new other ≡ old other) → old name < new name → name ≡ one
only_one one name old new others up = go (bytes_eq name one) (bytes_eq-Decides name one)
  where
    different : false ≡ true → ⊥
    different e = cc

    go : (b : Bool) → Decides b (name ≡ one) → name ≡ one
    go true same = same.0 refl
    go false apart = let stays = others name (λ e. different (apart.1 e)) in absurd (omega (arith, up, stays))

-- the reading of the problem's file stopped the roll
pub stopped_at_problem : (task : RollTask) (old new : Outside) (why : RollNo) → StopsRoll task old.holds old.reading new.reading why
    → ReadsOne task.problem (shelf_of old) (shelf_of new) (IsFault why) → new.faults ≡ old.faults → new.written ≡ old.written
    → HasNotBegun task old new why
stopped_at_problem task old new why stops reads faults written = record {
  stops = stops;
  reads = record {
    counted = never_falls task.problem old.reading new.reading reads.counted reads.others;
    fault = λ name up. reads.fault (subst (λ (n : List ℕ). old.reading n < new.reading n) (only_one task.problem name old.reading new.reading reads.others up) up);
    one = λ one other first second. only_one task.problem one old.reading new.reading reads.others first ∙ sym (only_one task.problem other old.reading new.reading reads.others second);
    others = λ other not. reads.others other (λ e. not (inl e));
    puttings = reads.puttings;
    held = reads.held;
  };
  faults = faults;
  written = written;
}

-- where the problem was read, no count has risen
quiet_reading : (task : RollTask) (old mid : Outside) → ReadsOne task.problem (shelf_of old) (shelf_of mid) ⊥ → (name : List ℕ) → mid.reading name ≡ old.reading name
quiet_reading task old mid reads = same_all task.problem old.reading mid.reading (stays _ _ reads.counted reads.fault) reads.others

stops_at_feeds : (task : RollTask) (problem : Problem) (holds : Holdings) (old mid new : Counts) (why : RollNo) → HasFewFeeds task → IsProblemFile holds task.problem problem
    → ((name : List ℕ) → mid name ≡ old name) → StopsFeeds task.feeds mid new why → StopsRoll task holds old new why
stops_at_feeds task problem holds old mid new (TooManyFeeds count) few file quiet stops = absurd stops
stops_at_feeds task problem holds old mid new (NoProblem cause) few file quiet stops = absurd stops
stops_at_feeds task problem holds old mid new (FeedFailed number) few file quiet stops = record {
  problem = problem;
  file = file;
  few = few;
  unopened = record {
    name = stops.name;
    is = stops.is;
    risen = subst (λ (n : ℕ). n < new stops.name) (quiet stops.name) stops.risen;
    others = λ other apart. stops.others other apart ∙ quiet other;
  };
}
stops_at_feeds task problem holds old mid new Memory few file quiet stops = tt

-- the opening of the feeds stopped the roll, or want of memory behind it
pub stopped_at_feeds : (task : RollTask) (problem : Problem) (old mid new : Outside) (why : RollNo) → HasFewFeeds task → IsProblemFile old.holds task.problem problem
    → ReadsOne task.problem (shelf_of old) (shelf_of mid) ⊥ → StopsFeeds task.feeds mid.reading new.reading why
    → ((name : List ℕ) → new.putting name ≡ mid.putting name) → ((name : List ℕ) → new.holds name ≡ mid.holds name) → new.faults ≡ old.faults → new.written ≡ old.written
    → HasNotBegun task old new why
stopped_at_feeds task problem old mid new why few file reads stops puttings held faults written = record {
  stops = stops_at_feeds task problem old.holds old.reading mid.reading new.reading why few file (quiet_reading task old mid reads) stops;
  reads = go (opening_counts task old.reading mid.reading new.reading why (quiet_reading task old mid reads) stops);
  faults = faults;
  written = written;
}
  where
    go : ((name : List ℕ) → new.reading name ≡ old.reading name)
        ⊎ ((one : List ℕ) × Contains task.feeds one × (old.reading one < new.reading one) × ((other : List ℕ) → other ≢ one → new.reading other ≡ old.reading other) × IsFault why)
        → ReadsInputs task old new why
    go (inl same) = record {
      counted = λ name. let here = same name in omega (arith, here);
      fault = λ name up. let here = same name in absurd (omega (arith, up, here));
      one = λ one other first second. let here = same one in absurd (omega (arith, first, here));
      others = λ other not. same other;
      puttings = λ name. puttings name ∙ reads.puttings name;
      held = λ name. held name ∙ reads.held name;
    }
    go (inr risen) = record {
      counted = let up = risen.2 in never_falls risen.0 old.reading new.reading (omega (arith, up)) risen.3;
      fault = λ name up. risen.4;
      one = λ one other first second. only_one risen.0 one old.reading new.reading risen.3 first ∙ sym (only_one risen.0 other old.reading new.reading risen.3 second);
      others = λ other not. risen.3 other (λ e. not (inr (subst (λ (n : List ℕ). Contains task.feeds n) (sym e) risen.1)));
      puttings = λ name. puttings name ∙ reads.puttings name;
      held = λ name. held name ∙ reads.held name;
    }

-- so it is where the running of the feeds was refused
pub not_begun : {X : Type 0} (task : RollTask) (problem : Problem) (old mid new : Outside) (r : Result X RollNo) → HasFewFeeds task → IsProblemFile old.holds task.problem problem
    → ReadsOne task.problem (shelf_of old) (shelf_of mid) ⊥ → IfErr r (StopsFeeds task.feeds mid.reading new.reading)
    → OnErr r ((name : List ℕ) → new.putting name ≡ mid.putting name) → OnErr r ((name : List ℕ) → new.holds name ≡ mid.holds name)
    → OnErr r (new.faults ≡ old.faults) → OnErr r (new.written ≡ old.written) → IfErr r (HasNotBegun task old new)
not_begun task problem old mid new (Ok x) few file reads stops puttings held faults written = tt
not_begun task problem old mid new (Err why) few file reads stops puttings held faults written =
    stopped_at_feeds task problem old mid new why few file reads stops puttings held faults written

-- the problem was read, and the feeds ran behind it
pub run_of : (task : RollTask) (problem : Problem) (old mid new : Outside) (status : ℕ) (journal : List Entry) → IsProblemFile old.holds task.problem problem
    → ReadsOne task.problem (shelf_of old) (shelf_of mid) ⊥ → mid.faults ≡ old.faults → mid.written ≡ old.written
    → RunsFeeds task problem mid new status journal → EndsRun task old new status journal
run_of task problem old mid new status journal file reads faults written runs = record {
  problem = problem;
  file = file;
  runs = record {
    few = runs.few;
    feeds = runs.feeds;
    fed = record {
      names_are = runs.fed.names_are;
      lines = λ k d within. subst (λ (file : Option (Option (List ℕ))). HasLinesOf file (get_or runs.feeds k d).1) (reads.held (get_or runs.feeds k d).0) (runs.fed.lines k d within);
    };
    start = runs.start;
    begins = record {
      holds = λ name. runs.begins.holds name ∙ reads.held name;
      reading = λ name. runs.begins.reading name ∙ quiet_reading task old mid reads name;
      putting = λ name. runs.begins.putting name ∙ reads.puttings name;
      faults = runs.begins.faults ∙ faults;
      written = runs.begins.written ∙ written;
    };
    ran = runs.ran;
    promise = runs.promise;
  };
}

-- the roll did not begin, and its cause was told
pub stopped_of : (task : RollTask) (old mid new : Outside) (why : RollNo) (status : ℕ) (journal : List Entry) → HasNotBegun task old mid why
    → StopsWith mid.faults new.faults mid.written new.written why status → new.holds ≡ mid.holds → new.reading ≡ mid.reading → new.putting ≡ mid.putting → journal ≡ []
    → EndsStopped task old new status journal
stopped_of task old mid new why status journal before told holds reading putting none = record {
  why = why;
  stops = rw (reading) before.stops;
  reads = rw (reading, putting, holds) before.reads;
  told = rw (← before.faults, ← before.written) told;
  journal_is = none;
}
