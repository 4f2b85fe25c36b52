-- One entry that is printed.
use Rattle.std.proofs.Common.{
  ◌≡◌,
  ◌∙◌,
  ◌<◌,
  ◌≤◌,
  ℕ,
  List,
  [],
  ◌∷◌,
  ◌++◌,
  length,
  Option,
  None,
  Some,
  Err,
  refl,
  ap,
  subst,
  inl,
  inr,
  arith,
  append-nil,
  length-append,
}
use Rattle.disp_model.specs.declared.entry.Entry.{Entry}
use Rattle.disp_model.specs.declared.entry.Entry.TheVariants.{
  Asked,
  Unread,
  Shown,
  Grown,
  Published,
  Settled,
  Stopped,
}
use Rattle.disp_outside.specs.Sink.{WritesPart}
use Rattle.disp_outside.specs.declared.shelf.PutNo.{PutNo}
use Rattle.disp_outside.specs.declared.shelf.PutNo.TheVariants as put
use Rattle.disp_outside.specs.declared.sink.WriteNo.{WriteNo}
use Rattle.disp_outside.specs.declared.sink.WriteNo.TheVariants as write
use Rattle.fixing_lines.specs.Entries.{entry_text}
use Rattle.text_puts.specs.declared.put.Put.{Put}
use Rattle.disp_outside.specs.States.{Holdings}
use Rattle.text_puts.specs.Outside.{Outside, Writes}
use Rattle.text_puts.specs.Puts.{StandsAfter, PutsSome, PutMisses, PutsOnly}
use Rattle.text_puts.proofs.Counting.{stays}
use Rattle.text_puts.proofs.Puttings.{stands_none, stands_same, only_all}
use Rattle.text_puts.proofs.Writings.{writes_nothing}
use Rattle.journal_printer.specs.Causes.{of_put, of_write}
use Rattle.journal_printer.specs.Journal.{entry_puts, tree_puts}
use Rattle.journal_printer.specs.Printing.{PrintsAll, Prints}

-- ---- an entry has one tree at most

few : (trees : Option (List ℕ)) (entry : Entry) → length (entry_puts trees entry) ≤ 1
few None entry = omega arith
few (Some prefix) (Asked feed line change reply) = omega arith
few (Some prefix) (Unread feed line why) = omega arith
few (Some prefix) (Shown feed line standing) = omega arith
few (Some prefix) (Grown searcher edition seen node splits) = omega arith
few (Some prefix) (Published edition plan cost) = omega arith
few (Some prefix) (Settled edition verdict tree) = omega arith
few (Some prefix) (Stopped edition spent bound) = omega arith

none_before : (puts done rest : List Put) (put : Put) → length puts ≤ 1
    → puts ≡ done ++ put ∷ rest → done ≡ []
none_before puts [] rest put le parts = refl
none_before puts (first ∷ done) rest put le parts =
    absurd (omega (arith, le, ap length parts, length-append done (put ∷ rest)))

-- where memory ran out at its putting every name holds what it held
pub held_before : (trees : Option (List ℕ)) (entry : Entry) (old new : Holdings)
    → PutsSome (entry_puts trees entry) old new → (name : List ℕ) → new name ≡ old name
held_before trees entry old new some name =
    (subst (λ (l : List Put). StandsAfter l old new)
    (none_before (entry_puts trees entry) some.done some.rest some.put (few trees entry) some.parts)
    some.stands).others name (λ under. under)

-- ---- how its printing ends

-- what stands behind its puts
trees_one : (trees : Option (List ℕ)) (entry : Entry) (old new : Holdings)
    → StandsAfter (entry_puts trees entry) old new
    → StandsAfter (tree_puts trees (entry ∷ [])) old new
trees_one trees entry old new stands = rw (append-nil (entry_puts trees entry)) stands

only_one : (trees : Option (List ℕ)) (entry : Entry) (old new : Outside) (name : List ℕ)
    → PutsOnly (entry_puts trees entry) old.holds new.holds old.putting new.putting name
    → PutsOnly (tree_puts trees (entry ∷ [])) old.holds new.holds old.putting new.putting name
only_one trees entry old new name only = rw (append-nil (entry_puts trees entry)) only

pub one_all : (trees : Option (List ℕ)) (entry : Entry) (old new : Outside)
    → StandsAfter (entry_puts trees entry) old.holds new.holds
    → ((name : List ℕ) → new.putting name ≡ old.putting name)
    → ((name : List ℕ) → new.reading name ≡ old.reading name)
    → Writes old.written new.written (entry_text entry) → new.faults ≡ old.faults
    → PrintsAll trees (entry ∷ []) old new
one_all trees entry old new puts putting reading written faults = record {
  written = rw (append-nil (entry_text entry)) written;
  puts = trees_one trees entry old.holds new.holds puts;
  faults = faults;
  putting = putting;
  reading = reading;
}

-- its tree was not put
pub one_unput : (trees : Option (List ℕ)) (entry : Entry) (old new : Outside) (refused : PutNo)
    → (refused ≡ put.Failed
    → PutMisses (entry_puts trees entry) old.holds new.holds old.putting new.putting)
    → (refused ≡ put.Memory → (name : List ℕ) → new.holds name ≡ old.holds name)
    → ((name : List ℕ) → old.putting name < new.putting name → refused ≡ put.Failed)
    → ((name : List ℕ)
    → PutsOnly (entry_puts trees entry) old.holds new.holds old.putting new.putting name)
    → ((name : List ℕ) → new.reading name ≡ old.reading name)
    → new.written ≡ old.written → new.faults ≡ old.faults
    → Prints trees (entry ∷ []) old new (Err (of_put refused))
one_unput trees entry old new put.Failed failed memory risen others reading written faults =
    record {
      all = tt;
      stops = record {
        done = [];
        next = entry;
        comes = record { rest = []; parts = refl };
        written = written ∙ writes_nothing old.written;
        faults = faults;
        before = old.holds;
        puts = stands_none old.holds;
        misses = failed refl;
      };
      unput = λ name rises. refl;
      unwritten = λ rises. absurd (omega (arith, faults, rises));
      counted = omega (arith, faults);
      reading = reading;
      others = λ name. only_one trees entry old new name (others name);
    }
one_unput trees entry old new put.Memory failed memory risen others reading written faults =
    record {
      all = tt;
      stops = record {
        done = [];
        next = entry;
        comes = record { rest = []; parts = refl };
        written = written ∙ writes_nothing old.written;
        faults = faults;
        puts = inl (stands_same [] old.holds old.holds new.holds (memory refl)
            (stands_none old.holds));
        putting = λ name. stays (old.putting name) (new.putting name) (others name).never_falls
            (λ rises. unlike (risen name rises));
      };
      unput = λ name rises. absurd (unlike (risen name rises));
      unwritten = λ rises. absurd (omega (arith, faults, rises));
      counted = omega (arith, faults);
      reading = reading;
      others = λ name. only_one trees entry old new name (others name);
    }
  where
    unlike : put.Memory ≡ put.Failed → ⊥
    unlike e = cc

-- its line was not written
pub one_unwritten : (trees : Option (List ℕ)) (entry : Entry) (old new : Outside)
    (refused : WriteNo)
    → StandsAfter (entry_puts trees entry) old.holds new.holds
    → ((name : List ℕ) → new.putting name ≡ old.putting name)
    → ((name : List ℕ) → new.reading name ≡ old.reading name)
    → (refused ≡ write.Failed → WritesPart old.written new.written (entry_text entry))
    → (refused ≡ write.Memory → new.written ≡ old.written)
    → (refused ≡ write.Failed → old.faults < new.faults)
    → (old.faults < new.faults → refused ≡ write.Failed) → old.faults ≤ new.faults
    → Prints trees (entry ∷ []) old new (Err (of_write refused))
one_unwritten trees entry old new write.Failed puts putting reading part memory rises
    risen counted = record {
      all = tt;
      stops = record {
        done = [];
        next = entry;
        comes = record { rest = []; parts = refl };
        before = old.written;
        written = writes_nothing old.written;
        part = part refl;
        fault = rises refl;
        puts = trees_one trees entry old.holds new.holds puts;
        putting = putting;
      };
      unput = λ name rose. absurd (omega (arith, putting name, rose));
      unwritten = λ rose. refl;
      counted = counted;
      reading = reading;
      others = λ name. only_one trees entry old new name
          (only_all (entry_puts trees entry) old.holds new.holds old.putting new.putting
          puts putting name);
    }
one_unwritten trees entry old new write.Memory puts putting reading part memory rises
    risen counted = record {
      all = tt;
      stops = record {
        done = [];
        next = entry;
        comes = record { rest = []; parts = refl };
        written = memory refl ∙ writes_nothing old.written;
        faults = stays old.faults new.faults counted (λ rose. unlike (risen rose));
        puts = inr (trees_one trees entry old.holds new.holds puts);
        putting = putting;
      };
      unput = λ name rose. absurd (omega (arith, putting name, rose));
      unwritten = λ rose. absurd (unlike (risen rose));
      counted = counted;
      reading = reading;
      others = λ name. only_one trees entry old new name
          (only_all (entry_puts trees entry) old.holds new.holds old.putting new.putting
          puts putting name);
    }
  where
    unlike : write.Memory ≡ write.Failed → ⊥
    unlike e = cc
