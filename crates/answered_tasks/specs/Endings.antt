-- How a run of the program ends.
use Rattle.std.specs.Prelude.{◌≡◌, ◌≢◌, ◌⊎◌, ℕ, ◌<◌, ◌≤◌, List, [], Option}
use Rattle.std.specs.List.{concat}
use Rattle.disp_outside.specs.Sink.{WritesPart}
use Rattle.disp_model.specs.declared.entry.Entry.{Entry}
use Rattle.answered_tasks.specs.declared.outcome.Answer.{Answer}
use Rattle.answered_tasks.specs.declared.cause.Cause.{Cause}
use Rattle.answered_tasks.specs.declared.cause.Cause.TheVariants.{Failed, Memory}
use Rattle.answered_tasks.specs.declared.cause.Input.{Input}
use Rattle.disp_outside.specs.States.{Holdings, Counts}
use Rattle.text_puts.specs.Outside.{Outside, Writes}
use Rattle.text_puts.specs.Puts.{StandsAfter, PutsSome, PutMisses}
use Rattle.answered_tasks.specs.Answers.{IsAnswer, IsDuePut}
use Rattle.answered_tasks.specs.Causes.{StopsRun, IsReadingFault, IsAnswerStatus, CountsReading, line_of, due_line, status_of}
use Rattle.answered_tasks.specs.Outside.{FailsOfOne}

-- status 0, 1 or 3: what was to be put is held, and the lines of the answer were written
pub record EndsAnswered (words : List (List ℕ)) (old new : Outside) (status : ℕ)
    (journal : List Entry) : Type 0 where
  pub answer : Answer
  pub is_answer : IsAnswer words old.holds answer
  pub status_is : status ≡ answer.status
  pub journal_is : journal ≡ answer.journal
  pub written : Writes old.written new.written (concat answer.lines)
  pub puts : StandsAfter answer.puts old.holds new.holds

-- every name holds what it held, and no putting failed
pub record PutsNothing (old new : Outside) : Type 0 where
  pub held : (name : List ℕ) → new.holds name ≡ old.holds name
  pub counts : (name : List ℕ) → new.putting name ≡ old.putting name

-- status 2: the words or a file were refused, and the line for it was written, or some of it where
-- a write failed
pub record EndsRefused (words : List (List ℕ)) (old new : Outside) (journal : List Entry)
    : Type 0 where
  pub cause : Cause
  pub stops : StopsRun words old.holds old.reading new.reading cause
  pub status : status_of cause ≡ 2
  pub journal_is : journal ≡ []
  pub part : WritesPart old.written new.written (line_of cause)
  pub whole : new.faults ≡ old.faults → Writes old.written new.written (line_of cause)
  pub puts : PutsNothing old new

-- a named file could not be read, and the line for it was written, or some of it where a write
-- failed
pub record CannotRead (words : List (List ℕ)) (old new : Outside) (journal : List Entry)
    : Type 0 where
  pub which : Input
  pub stops : StopsRun words old.holds old.reading new.reading (Failed which)
  pub journal_is : journal ≡ []
  pub part : WritesPart old.written new.written (line_of (Failed which))
  pub whole : new.faults ≡ old.faults → Writes old.written new.written (line_of (Failed which))
  pub puts : PutsNothing old new

-- no reading of any name failed
abbrev pub ReadsWell : Outside → Outside → Type 0
ReadsWell old new = (name : List ℕ) → new.reading name ≡ old.reading name

-- something could not be put, and nothing was put or written behind it
pub record CannotPut (words : List (List ℕ)) (old new : Outside) (journal : List Entry)
    : Type 0 where
  pub answer : Answer
  pub is_answer : IsAnswer words old.holds answer
  pub journal_is : journal ≡ answer.journal
  pub misses : PutMisses answer.puts old.holds new.holds old.putting new.putting
  pub nothing : new.written ≡ old.written
  pub counted : new.faults ≡ old.faults
  pub read : ReadsWell old new

-- what was to be put is held, and a write of the lines failed
pub record CannotWrite (words : List (List ℕ)) (old new : Outside) (journal : List Entry)
    : Type 0 where
  pub answer : Answer
  pub is_answer : IsAnswer words old.holds answer
  pub journal_is : journal ≡ answer.journal
  pub puts : StandsAfter answer.puts old.holds new.holds
  pub fault : old.faults < new.faults
  pub part : WritesPart old.written new.written (concat answer.lines)
  pub read : ReadsWell old new

-- status 4: a reading of a named file, a putting under a named one, or a write failed
abbrev pub EndsFailed : List (List ℕ) → Outside → Outside → List Entry → Type 0
EndsFailed words old new journal = CannotRead words old new journal
    ⊎ (CannotPut words old new journal ⊎ CannotWrite words old new journal)

-- the lines of an answer are due, and what was to be put is held
pub record IsDueAnswer (words : List (List ℕ)) (old new : Outside) (text : List ℕ)
    (journal : List Entry) : Type 0 where
  pub answer : Answer
  pub is_answer : IsAnswer words old.holds answer
  pub text_is : text ≡ concat answer.lines
  pub journal_is : journal ≡ answer.journal
  pub puts : StandsAfter answer.puts old.holds new.holds
  pub read : ReadsWell old new

-- nothing is due, since not all that was to be put of an answer is
pub record IsDueUnput (words : List (List ℕ)) (old new : Outside) (text : List ℕ)
    (journal : List Entry) : Type 0 where
  pub answer : Answer
  pub is_answer : IsAnswer words old.holds answer
  pub text_is : text ≡ []
  pub journal_is : journal ≡ answer.journal
  pub some : PutsSome answer.puts old.holds new.holds
  pub read : ReadsWell old new

-- the line for what stopped the run is due, or nothing where that was want of memory
pub record IsDueCause (words : List (List ℕ)) (old new : Outside) (text : List ℕ)
    (journal : List Entry) : Type 0 where
  pub cause : Cause
  pub stops : StopsRun words old.holds old.reading new.reading cause
  pub text_is : text ≡ due_line cause
  pub journal_is : journal ≡ []
  pub fault : (name : List ℕ) → old.reading name < new.reading name → IsReadingFault cause
  pub puts : PutsNothing old new

-- what would have been written, and the journal that goes with it
abbrev pub IsDue : List (List ℕ) → Outside → Outside → List ℕ → List Entry → Type 0
IsDue words old new text journal = IsDueAnswer words old new text journal
    ⊎ (IsDueUnput words old new text journal ⊎ IsDueCause words old new text journal)

-- status 5: some of what would have been written went out, and behind it some of the line for want
-- of memory, once
pub record GivesUp (words : List (List ℕ)) (old new : Outside) (journal : List Entry) : Type 0 where
  pub text : List ℕ
  pub due : IsDue words old new text journal
  pub between : Option (List ℕ)
  pub part : WritesPart old.written between text
  pub memory : WritesPart between new.written (line_of Memory)

-- the count of failed puttings of a name does not fall, and stays where nothing is to be put under
-- the name
pub record CountsPutting (words : List (List ℕ)) (holds : Holdings) (old new : Counts)
    (name : List ℕ) : Type 0 where
  pub never_falls : old name ≤ new name
  pub stays : (IsDuePut words holds name → ⊥) → new name ≡ old name

-- how a run ends, by its status, for words that ask for another task than to roll
pub record Ends (words : List (List ℕ)) (old new : Outside) (status : ℕ) (journal : List Entry) :
    Type 0 where
  pub statuses : IsAnswerStatus status ⊎ ((status ≡ 2) ⊎ ((status ≡ 4) ⊎ (status ≡ 5)))
  -- An answer's journal is legal; an optimal plan is valid and none costs less; an infeasible
  -- problem has no valid plan; the tree that is put shows that; where it is unfinished the whole
  -- budget is spent, and no valid plan costs less than the bound.
  pub answered : IsAnswerStatus status → EndsAnswered words old new status journal
  pub refused : status ≡ 2 → EndsRefused words old new journal
  pub failed : status ≡ 4 → EndsFailed words old new journal
  pub memory : status ≡ 5 → GivesUp words old new journal
  -- A fault shows in the status, ends the reading, and no other count changes.
  pub reading_fault : (name : List ℕ) → old.reading name < new.reading name
      → (status ≡ 4) ⊎ (status ≡ 5)
  pub reading_ends : FailsOfOne old.reading new.reading
  pub putting_fault : (name : List ℕ) → old.putting name < new.putting name → status ≡ 4
  pub write_fault : old.faults < new.faults → IsAnswerStatus status → ⊥
  pub write_counted : old.faults ≤ new.faults
  pub reading_counts : (name : List ℕ) → CountsReading words old.reading new.reading name
  pub putting_counts : (name : List ℕ)
      → CountsPutting words old.holds old.putting new.putting name
  -- Each name under which there is nothing to put holds what it held.
  pub held : (name : List ℕ) → (IsDuePut words old.holds name → ⊥)
      → new.holds name ≡ old.holds name

-- some of the text went out, and some of the line for want of memory behind it
pub record WritesThenGivesUp (old new : Option (List ℕ)) (text : List ℕ) : Type 0 where
  pub between : Option (List ℕ)
  pub part : WritesPart old between text
  pub memory : WritesPart between new (line_of Memory)

-- how the writing of the line for what stopped a run ends
pub record Halts (old_faults new_faults : ℕ) (old new : Option (List ℕ)) (cause : Cause)
    (status : ℕ) : Type 0 where
  pub counted : old_faults ≤ new_faults
  pub statuses : (status ≡ status_of cause) ⊎ (status ≡ 5)
  pub part : status ≢ 5 → WritesPart old new (line_of cause)
  pub whole : status ≢ 5 → new_faults ≡ old_faults → Writes old new (line_of cause)
  pub memory : status ≡ 5 → WritesThenGivesUp old new (due_line cause)

-- ---- for private clauses

-- how the writing of the lines of an answer ends
pub record Finishes (old_faults new_faults : ℕ) (old new : Option (List ℕ)) (text : List ℕ)
    (wanted status : ℕ) : Type 0 where
  pub counted : old_faults ≤ new_faults
  pub statuses : (status ≡ wanted) ⊎ ((status ≡ 4) ⊎ (status ≡ 5))
  pub done : status ≢ 4 → status ≢ 5 → Writes old new text × (new_faults ≡ old_faults)
  pub failed : status ≡ 4 → WritesPart old new text × (old_faults < new_faults)
  pub memory : status ≡ 5 → WritesThenGivesUp old new text

-- a putting failed, and nothing was written
pub record PutFails (answer : Answer) (old new : Outside) : Type 0 where
  pub misses : PutMisses answer.puts old.holds new.holds old.putting new.putting
  pub nothing : new.written ≡ old.written
  pub counted : new.faults ≡ old.faults

-- what was to be put is held, and a write failed
pub record WriteFails (answer : Answer) (old new : Outside) : Type 0 where
  pub puts : StandsAfter answer.puts old.holds new.holds
  pub fault : old.faults < new.faults
  pub part : WritesPart old.written new.written (concat answer.lines)

-- what was to be put is held, and memory ran out
pub record WriteGivesUp (answer : Answer) (old new : Outside) : Type 0 where
  pub puts : StandsAfter answer.puts old.holds new.holds
  pub writes : WritesThenGivesUp old.written new.written (concat answer.lines)

-- memory ran out at the putting
pub record PutGivesUp (answer : Answer) (old new : Outside) : Type 0 where
  pub some : PutsSome answer.puts old.holds new.holds
  pub writes : WritesThenGivesUp old.written new.written []

-- how the putting and the writing of an answer end
pub record Publishes (answer : Answer) (old new : Outside) (status : ℕ) : Type 0 where
  pub counted : old.faults ≤ new.faults
  pub statuses : (status ≡ answer.status) ⊎ ((status ≡ 4) ⊎ (status ≡ 5))
  pub written : status ≢ 4 → status ≢ 5 → Writes old.written new.written (concat answer.lines)
  pub puts : status ≢ 4 → status ≢ 5 → StandsAfter answer.puts old.holds new.holds
  pub quiet : status ≢ 4 → status ≢ 5 → new.faults ≡ old.faults
  pub failed : status ≡ 4 → PutFails answer old new ⊎ WriteFails answer old new
  pub memory : status ≡ 5 → WriteGivesUp answer old new ⊎ PutGivesUp answer old new
