-- How a run ends, from how its parts end.
use Rattle.std.proofs.Common.{◌≡◌, ◌≢◌, ◌⊎◌, ◌≤◌, ◌<◌, ℕ, List, [], Option, refl, inl, inr, sym, subst, ◌∙◌, arith}
use Rattle.std.specs.List.{concat}
use Rattle.disp_model.specs.declared.entry.Entry.{Entry}
use Rattle.answered_tasks.specs.declared.outcome.Answer.{Answer}
use Rattle.answered_tasks.specs.declared.cause.Cause.{Cause}
use Rattle.answered_tasks.specs.declared.cause.Cause.TheVariants.{Words, Failed, TooLong, NoProblem, NoSolution, BadLine, NoTree, WrongEdition, NoPlan, Memory}
use Rattle.disp_outside.specs.States.{Counts}
use Rattle.text_puts.specs.Outside.{Outside, Writes}
use Rattle.text_puts.specs.Puts.{PutsUnder, PutsOnly}
use Rattle.answered_tasks.specs.Outside.{FailsOfOne}
use Rattle.answered_tasks.specs.Answers.{IsAnswer, IsDuePut}
use Rattle.answered_tasks.specs.Causes.{StopsRun, IsAnswerStatus, IsReadingFault, CountsReading, due_line, status_of}
use Rattle.answered_tasks.specs.Endings.{Ends, EndsAnswered, EndsRefused, EndsFailed, GivesUp, PutsNothing, Publishes, PutFails, WriteFails, WriteGivesUp, PutGivesUp, Halts, ReadsWell}
use Rattle.text_puts.proofs.Puttings.{stands_before, some_before, misses_before}

-- a putting or a write of an answer failed; between the run and the putting no count of puttings changed
fails_of_answer : (words : List (List ℕ)) (old mid new : Outside) (answer : Answer) (journal : List Entry) → IsAnswer words old.holds answer → journal ≡ answer.journal
    → ReadsWell old new → ((name : List ℕ) → mid.holds name ≡ old.holds name) → ((name : List ℕ) → mid.putting name ≡ old.putting name) → mid.faults ≡ old.faults → mid.written ≡ old.written
    → PutFails answer mid new ⊎ WriteFails answer mid new → EndsFailed words old new journal
fails_of_answer words old mid new answer journal is_answer same read held puttings faults written (inl h) = inr (inl (record {
  answer = answer;
  is_answer = is_answer;
  journal_is = same;
  misses = misses_before answer.puts old.holds mid.holds new.holds old.putting mid.putting new.putting held puttings h.misses;
  nothing = h.nothing ∙ written;
  counted = h.counted ∙ faults;
  read = read;
}))
fails_of_answer words old mid new answer journal is_answer same read held puttings faults written (inr h) = inr (inr (record {
  answer = answer;
  is_answer = is_answer;
  journal_is = same;
  puts = stands_before answer.puts old.holds mid.holds new.holds held h.puts;
  fault = rw (← faults) h.fault;
  part = rw (← written) h.part;
  read = read;
}))

-- memory ran out at the putting or the writing of an answer; the run before it changed no file and wrote nothing
gives_up_of_answer : (words : List (List ℕ)) (old mid new : Outside) (answer : Answer) (journal : List Entry) → IsAnswer words old.holds answer → journal ≡ answer.journal
    → ReadsWell old new → ((name : List ℕ) → mid.holds name ≡ old.holds name) → mid.written ≡ old.written → WriteGivesUp answer mid new ⊎ PutGivesUp answer mid new → GivesUp words old new journal
gives_up_of_answer words old mid new answer journal is_answer same read held written (inl h) = record {
  text = concat answer.lines;
  due = inl (record { answer = answer; is_answer = is_answer; text_is = refl; journal_is = same; puts = stands_before answer.puts old.holds mid.holds new.holds held h.puts; read = read });
  between = h.writes.between;
  part = rw (← written) h.writes.part;
  memory = h.writes.memory;
}
gives_up_of_answer words old mid new answer journal is_answer same read held written (inr h) = record {
  text = [];
  due = inr (inl (record { answer = answer; is_answer = is_answer; text_is = refl; journal_is = same; some = some_before answer.puts old.holds mid.holds new.holds held h.some; read = read }));
  between = h.writes.between;
  part = rw (← written) h.writes.part;
  memory = h.writes.memory;
}

not_two : ◌≡◌ {A = ℕ} 2 4 → ⊥
not_two e = cc

not_five : ◌≡◌ {A = ℕ} 5 4 → ⊥
not_five e = cc

-- of the causes a reading's fault alone has the status 4
fails_of_stop : (words : List (List ℕ)) (old new : Outside) (cause : Cause) (journal : List Entry) (status : ℕ) → StopsRun words old.holds old.reading new.reading cause
    → Halts old.faults new.faults old.written new.written cause status → PutsNothing old new → journal ≡ [] → status ≡ 4 → EndsFailed words old new journal
fails_of_stop words old new cause journal status stops halts puts none is = go cause stops halts halts.statuses
  where
    two : (status ≡ 2) ⊎ (status ≡ 5) → EndsFailed words old new journal
    two (inl e) = absurd (not_two (sym e ∙ is))
    two (inr e) = absurd (not_five (sym e ∙ is))

    go : (cause : Cause) → StopsRun words old.holds old.reading new.reading cause → Halts old.faults new.faults old.written new.written cause status
        → (status ≡ status_of cause) ⊎ (status ≡ 5) → EndsFailed words old new journal
    go (Failed which) stops halts e = inl (record {
      which = which;
      stops = stops;
      journal_is = none;
      part = halts.part (λ five. not_five (sym five ∙ is));
      whole = halts.whole (λ five. not_five (sym five ∙ is));
      puts = puts;
    })
    go (Words text) stops halts e = two e
    go (TooLong which) stops halts e = two e
    go (NoProblem refusal) stops halts e = two e
    go (NoSolution refusal) stops halts e = two e
    go (BadLine number reason) stops halts e = two e
    go (NoTree refusal) stops halts e = two e
    go (WrongEdition named wanted) stops halts e = two e
    go (NoPlan refusal) stops halts e = two e
    go Memory stops halts (inl e) = absurd (not_five (sym e ∙ is))
    go Memory stops halts (inr e) = absurd (not_five (sym e ∙ is))

-- what was read without a fault was read well, and nothing is read behind it
pub read_well : (old mid new : Counts) (Fault : Type 0) → ((name : List ℕ) → old name ≤ mid name) → ((name : List ℕ) → old name < mid name → Fault) → (Fault → ⊥) → ((name : List ℕ) → new name ≡ mid name)
    → (name : List ℕ) → new name ≡ old name
read_well old mid new Fault counted fault none same name = same name ∙ omega (arith, counted name, (λ (lt : old name < mid name). none (fault name lt)))

-- the statuses of an answer are others than those of a refusal, of a failure and of want of memory
not_answer_two : (status : ℕ) → IsAnswerStatus status → status ≢ 2
not_answer_two status (inl is) e = omega (arith, is, e)
not_answer_two status (inr (inl is)) e = omega (arith, is, e)
not_answer_two status (inr (inr is)) e = omega (arith, is, e)

not_answer_four : (status : ℕ) → IsAnswerStatus status → status ≢ 4
not_answer_four status (inl is) e = omega (arith, is, e)
not_answer_four status (inr (inl is)) e = omega (arith, is, e)
not_answer_four status (inr (inr is)) e = omega (arith, is, e)

not_answer_five : (status : ℕ) → IsAnswerStatus status → status ≢ 5
not_answer_five status (inl is) e = omega (arith, is, e)
not_answer_five status (inr (inl is)) e = omega (arith, is, e)
not_answer_five status (inr (inr is)) e = omega (arith, is, e)

of_answer : (status wanted : ℕ) → status ≢ 4 → status ≢ 5
    → (status ≡ wanted) ⊎ ((status ≡ 4) ⊎ (status ≡ 5)) → status ≡ wanted
of_answer status wanted four five (inl is) = is
of_answer status wanted four five (inr (inl is)) = absurd (four is)
of_answer status wanted four five (inr (inr is)) = absurd (five is)

-- ---- an answer

-- the statuses of what was published are those of an answer, of a failure and of want of memory
published_statuses : (status wanted : ℕ) → IsAnswerStatus wanted
    → (status ≡ wanted) ⊎ ((status ≡ 4) ⊎ (status ≡ 5))
    → IsAnswerStatus status ⊎ ((status ≡ 2) ⊎ ((status ≡ 4) ⊎ (status ≡ 5)))
published_statuses status wanted is (inl same) = inl (subst IsAnswerStatus (sym same) is)
published_statuses status wanted is (inr (inl four)) = inr (inr (inl four))
published_statuses status wanted is (inr (inr five)) = inr (inr (inr five))

published_not_two : (status wanted : ℕ) → IsAnswerStatus wanted
    → (status ≡ wanted) ⊎ ((status ≡ 4) ⊎ (status ≡ 5)) → status ≢ 2
published_not_two status wanted is (inl same) e =
    not_answer_two status (subst IsAnswerStatus (sym same) is) e
published_not_two status wanted is (inr (inl four)) e = not_two (sym e ∙ four)
published_not_two status wanted is (inr (inr five)) e = omega (arith, five, e)

-- what was published is the answer
answered_by : (words : List (List ℕ)) (old mid new : Outside) (answer : Answer) (status : ℕ)
    (journal : List Entry) → IsAnswer words old.holds answer → journal ≡ answer.journal
    → ((name : List ℕ) → mid.holds name ≡ old.holds name) → mid.written ≡ old.written
    → Publishes answer mid new status → IsAnswerStatus status
    → EndsAnswered words old new status journal
answered_by words old mid new answer status journal is_answer same held written ends is =
    let four : status ≢ 4 = not_answer_four status is in
    let five : status ≢ 5 = not_answer_five status is in
    record {
      answer = answer;
      is_answer = is_answer;
      status_is = of_answer status answer.status four five ends.statuses;
      journal_is = same;
      written = subst (λ (w : Option (List ℕ)). Writes w new.written (concat answer.lines)) written
          (ends.written four five);
      puts = stands_before answer.puts old.holds mid.holds new.holds held (ends.puts four five);
    }

-- an answer that was published after a run that changed no file and wrote nothing
pub ends_of_answer : (words : List (List ℕ)) (old mid new : Outside) (answer : Answer)
    (status : ℕ) (journal : List Entry) → IsAnswer words old.holds answer
    → IsAnswerStatus answer.status → journal ≡ answer.journal → ReadsWell old new
    → ((name : List ℕ) → mid.holds name ≡ old.holds name)
    → ((name : List ℕ) → mid.putting name ≡ old.putting name)
    → mid.faults ≡ old.faults → mid.written ≡ old.written → Publishes answer mid new status
    → ((name : List ℕ) → mid.putting name < new.putting name → status ≡ 4)
    → ((name : List ℕ) → PutsOnly answer.puts mid.holds new.holds mid.putting new.putting name)
    → Ends words old new status journal
ends_of_answer words old mid new answer status journal is_answer wanted same read held puttings
    faults written ends risen others = record {
      statuses = published_statuses status answer.status wanted ends.statuses;
      answered = answered_by words old mid new answer status journal is_answer same held written ends;
      refused = λ two. absurd (published_not_two status answer.status wanted ends.statuses two);
      failed = λ four. fails_of_answer words old mid new answer journal is_answer same read held
          puttings faults written (ends.failed four);
      memory = λ five. gives_up_of_answer words old mid new answer journal is_answer same read held
          written (ends.memory five);
      reading_fault = λ name lt. absurd (omega (arith, read name, lt));
      reading_ends = λ one other lt also. absurd (omega (arith, read one, lt));
      putting_fault = λ name lt. risen name (rw (puttings name) lt);
      write_fault = λ lt is. omega (
        arith,
        ends.quiet (not_answer_four status is)
            (not_answer_five status is),
        faults,
        lt,
      );
      write_counted = omega (arith, faults, ends.counted);
      reading_counts = λ name. record {
        never_falls = omega (arith, read name);
        stays = λ unread. read name;
      };
      putting_counts = λ name. record {
        never_falls = omega (arith, puttings name, (others name).never_falls);
        stays = λ undue. (others name).stays (not_under name undue) ∙ puttings name;
      };
      held = λ name undue. (others name).held (not_under name undue) ∙ held name;
    }
  where
    not_under : (name : List ℕ) → (IsDuePut words old.holds name → ⊥)
        → PutsUnder name answer.puts → ⊥
    not_under name undue under =
        undue (record { answer = answer; is_answer = is_answer; under = under })

-- ---- what stopped a run

stopped_statuses : (cause : Cause) (status : ℕ) → (status ≡ status_of cause) ⊎ (status ≡ 5)
    → (status ≡ 2) ⊎ ((status ≡ 4) ⊎ (status ≡ 5))
stopped_statuses (Words text) status (inl is) = inl is
stopped_statuses (Failed which) status (inl is) = inr (inl is)
stopped_statuses (TooLong which) status (inl is) = inl is
stopped_statuses (NoProblem refusal) status (inl is) = inl is
stopped_statuses (NoSolution refusal) status (inl is) = inl is
stopped_statuses (BadLine number reason) status (inl is) = inl is
stopped_statuses (NoTree refusal) status (inl is) = inl is
stopped_statuses (WrongEdition named wanted) status (inl is) = inl is
stopped_statuses (NoPlan refusal) status (inl is) = inl is
stopped_statuses Memory status (inl is) = inr (inr is)
stopped_statuses cause status (inr five) = inr (inr five)

stopped_not_answer : (status : ℕ) → (status ≡ 2) ⊎ ((status ≡ 4) ⊎ (status ≡ 5))
    → IsAnswerStatus status → ⊥
stopped_not_answer status (inl two) is = not_answer_two status is two
stopped_not_answer status (inr (inl four)) is = not_answer_four status is four
stopped_not_answer status (inr (inr five)) is = not_answer_five status is five

-- a reading's fault has its status, unless memory ran out
stopped_by_fault : (cause : Cause) (status : ℕ) → IsReadingFault cause
    → (status ≡ status_of cause) ⊎ (status ≡ 5) → (status ≡ 4) ⊎ (status ≡ 5)
stopped_by_fault (Words text) status fault is = absurd fault
stopped_by_fault (Failed which) status fault is = is
stopped_by_fault (TooLong which) status fault is = absurd fault
stopped_by_fault (NoProblem refusal) status fault is = absurd fault
stopped_by_fault (NoSolution refusal) status fault is = absurd fault
stopped_by_fault (BadLine number reason) status fault is = absurd fault
stopped_by_fault (NoTree refusal) status fault is = absurd fault
stopped_by_fault (WrongEdition named wanted) status fault is = absurd fault
stopped_by_fault (NoPlan refusal) status fault is = absurd fault
stopped_by_fault Memory status fault is = absurd fault

refused_by : (words : List (List ℕ)) (old new : Outside) (cause : Cause) (status : ℕ)
    (journal : List Entry) → StopsRun words old.holds old.reading new.reading cause
    → Halts old.faults new.faults old.written new.written cause status → PutsNothing old new
    → journal ≡ [] → status ≡ 2 → EndsRefused words old new journal
refused_by words old new cause status journal stops halts puts none two = record {
  cause = cause;
  stops = stops;
  status = told halts.statuses;
  journal_is = none;
  part = halts.part other;
  whole = halts.whole other;
  puts = puts;
}
  where
    other : status ≢ 5
    other five = omega (arith, two, five)

    told : (status ≡ status_of cause) ⊎ (status ≡ 5) → status_of cause ≡ 2
    told (inl is) = sym is ∙ two
    told (inr five) = absurd (other five)

-- a run that was stopped, and what stopped it was told
pub ends_of_stop : (words : List (List ℕ)) (old new : Outside) (cause : Cause) (status : ℕ)
    (journal : List Entry) → StopsRun words old.holds old.reading new.reading cause
    → Halts old.faults new.faults old.written new.written cause status → PutsNothing old new
    → journal ≡ [] → ((name : List ℕ) → CountsReading words old.reading new.reading name)
    → FailsOfOne old.reading new.reading
    → ((name : List ℕ) → old.reading name < new.reading name → IsReadingFault cause)
    → Ends words old new status journal
ends_of_stop words old new cause status journal stops halts puts none counts one fault = record {
  statuses = inr (stopped_statuses cause status halts.statuses);
  answered = λ is. absurd (stopped_not_answer status
      (stopped_statuses cause status halts.statuses) is);
  refused = refused_by words old new cause status journal stops halts puts none;
  failed = fails_of_stop words old new cause journal status stops halts puts none;
  memory = λ five. record {
    text = due_line cause;
    due = inr (inr (record {
      cause = cause;
      stops = stops;
      text_is = refl;
      journal_is = none;
      fault = fault;
      puts = puts;
    }));
    between = (halts.memory five).between;
    part = (halts.memory five).part;
    memory = (halts.memory five).memory;
  };
  reading_fault = λ name lt. stopped_by_fault cause status (fault name lt) halts.statuses;
  reading_ends = one;
  putting_fault = λ name lt. absurd (omega (arith, puts.counts name, lt));
  write_fault = λ lt. stopped_not_answer status (stopped_statuses cause status halts.statuses);
  write_counted = halts.counted;
  reading_counts = counts;
  putting_counts = λ name. record {
    never_falls = omega (arith, puts.counts name);
    stays = λ undue. puts.counts name;
  };
  held = λ name undue. puts.held name;
}
