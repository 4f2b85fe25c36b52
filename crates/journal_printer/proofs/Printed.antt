-- Entries that are printed, and more behind them.
use Rattle.std.proofs.Common.{
  ◌≡◌,
  ◌⊎◌,
  ◌∙◌,
  ◌<◌,
  ◌+◌,
  ℕ,
  suc,
  length,
  take,
  drop,
  get_or,
  List,
  [],
  ◌∷◌,
  ◌++◌,
  Option,
  Result,
  Ok,
  Err,
  refl,
  sym,
  ap,
  subst,
  inl,
  inr,
  arith,
  append_assoc,
}
use Rattle.std.proofs.lemmas.Grind.{flat_map-append}
use Rattle.std.proofs.lemmas.Result.{IfErr-weaker, on_ok_weaker}
use Rattle.disp_model.specs.declared.entry.Entry.{Entry}
use Rattle.fixing_lines.specs.Entries.{entry_text}
use Rattle.disp_outside.specs.States.{Holdings}
use Rattle.text_puts.specs.Outside.{Outside, Writes}
use Rattle.text_puts.specs.Puts.{StandsAfter}
use Rattle.text_puts.proofs.Counting.{one_more, parts_at}
use Rattle.text_puts.proofs.Puttings.{
  stands_none,
  stands_both,
  misses_before,
  only_all,
  only_both,
  only_front,
}
use Rattle.text_puts.proofs.Writings.{writes_nothing, writes_more}
use Rattle.journal_printer.specs.declared.no.PrintNo.{PrintNo}
use Rattle.journal_printer.specs.declared.no.PrintNo.TheVariants.{Unput, Unwritten, Memory}
use Rattle.journal_printer.specs.Journal.{journal_text, entry_puts, tree_puts}
use Rattle.journal_printer.specs.Printing.{PrintsAll, ComesNext, StopsPrinting, Prints}

-- an entry that comes next of those behind others comes next of all
abbrev comes_behind : (xs ys done : List Entry) (next : Entry) → ComesNext ys done next
    → ComesNext (xs ++ ys) (xs ++ done) next
comes_behind xs ys done next comes = record {
  rest = comes.rest;
  parts = ap (λ (l : List Entry). xs ++ l) comes.parts
      ∙ sym (append_assoc xs done (next ∷ comes.rest));
}

-- and so does one that comes next of those in front
abbrev comes_first : (xs ys done : List Entry) (next : Entry) → ComesNext xs done next
    → ComesNext (xs ++ ys) done next
comes_first xs ys done next comes = record {
  rest = comes.rest ++ ys;
  parts = ap (λ (l : List Entry). l ++ ys) comes.parts ∙ append_assoc done (next ∷ comes.rest) ys;
}

writes_both : (xs ys : List Entry) (old mid new : Option (List ℕ))
    → Writes old mid (journal_text xs) → Writes mid new (journal_text ys)
    → Writes old new (journal_text (xs ++ ys))
writes_both xs ys old mid new first second = rw (flat_map-append entry_text xs ys)
    (writes_more old mid new (journal_text xs) (journal_text ys) first second)

trees_both : (trees : Option (List ℕ)) (xs ys : List Entry) (old mid new : Holdings)
    → StandsAfter (tree_puts trees xs) old mid → StandsAfter (tree_puts trees ys) mid new
    → StandsAfter (tree_puts trees (xs ++ ys)) old new
trees_both trees xs ys old mid new first second = rw (flat_map-append (entry_puts trees) xs ys)
    (stands_both (tree_puts trees xs) (tree_puts trees ys) old mid new first second)

-- the same, up to an entry that comes next
trees_next : (trees : Option (List ℕ)) (xs done : List Entry) (next : Entry)
    (old mid new : Holdings)
    → StandsAfter (tree_puts trees xs) old mid
    → StandsAfter (tree_puts trees (done ++ next ∷ [])) mid new
    → StandsAfter (tree_puts trees ((xs ++ done) ++ next ∷ [])) old new
trees_next trees xs done next old mid new first second =
    subst (λ (l : List Entry). StandsAfter (tree_puts trees l) old new)
    (sym (append_assoc xs done (next ∷ [])))
    (trees_both trees xs (done ++ next ∷ []) old mid new first second)

pub all_none : (trees : Option (List ℕ)) (old : Outside) → PrintsAll trees [] old old
all_none trees old = record {
  written = writes_nothing old.written;
  puts = stands_none old.holds;
  faults = refl;
  putting = λ name. refl;
  reading = λ name. refl;
}

pub all_more : (trees : Option (List ℕ)) (xs ys : List Entry) (old mid new : Outside)
    → PrintsAll trees xs old mid → PrintsAll trees ys mid new → PrintsAll trees (xs ++ ys) old new
all_more trees xs ys old mid new first second = record {
  written = writes_both xs ys old.written mid.written new.written first.written second.written;
  puts = trees_both trees xs ys old.holds mid.holds new.holds first.puts second.puts;
  faults = second.faults ∙ first.faults;
  putting = λ name. second.putting name ∙ first.putting name;
  reading = λ name. second.reading name ∙ first.reading name;
}

-- where all of the first entries were printed, and the printing of more stopped
stops_more : (trees : Option (List ℕ)) (xs ys : List Entry) (old mid new : Outside)
    → PrintsAll trees xs old mid → (why : PrintNo) → StopsPrinting trees ys mid new why
    → StopsPrinting trees (xs ++ ys) old new why
stops_more trees xs ys old mid new first Unput stops = record {
  done = xs ++ stops.done;
  next = stops.next;
  comes = comes_behind xs ys stops.done stops.next stops.comes;
  written = writes_both xs stops.done old.written mid.written new.written first.written
      stops.written;
  faults = stops.faults ∙ first.faults;
  before = stops.before;
  puts = trees_both trees xs stops.done old.holds mid.holds stops.before first.puts stops.puts;
  misses = misses_before (entry_puts trees stops.next) stops.before stops.before new.holds
      old.putting mid.putting new.putting (λ name. refl) first.putting stops.misses;
}
stops_more trees xs ys old mid new first Unwritten stops = record {
  done = xs ++ stops.done;
  next = stops.next;
  comes = comes_behind xs ys stops.done stops.next stops.comes;
  before = stops.before;
  written = writes_both xs stops.done old.written mid.written stops.before first.written
      stops.written;
  part = stops.part;
  fault = rw (← first.faults) stops.fault;
  puts = trees_next trees xs stops.done stops.next old.holds mid.holds new.holds first.puts
      stops.puts;
  putting = λ name. stops.putting name ∙ first.putting name;
}
stops_more trees xs ys old mid new first Memory stops = record {
  done = xs ++ stops.done;
  next = stops.next;
  comes = comes_behind xs ys stops.done stops.next stops.comes;
  written = writes_both xs stops.done old.written mid.written new.written first.written
      stops.written;
  faults = stops.faults ∙ first.faults;
  puts = trees_of stops.puts;
  putting = λ name. stops.putting name ∙ first.putting name;
}
  where
    trees_of : StandsAfter (tree_puts trees stops.done) mid.holds new.holds
        ⊎ StandsAfter (tree_puts trees (stops.done ++ stops.next ∷ [])) mid.holds new.holds
        → StandsAfter (tree_puts trees (xs ++ stops.done)) old.holds new.holds
        ⊎ StandsAfter (tree_puts trees ((xs ++ stops.done) ++ stops.next ∷ [])) old.holds new.holds
    trees_of (inl stands) = inl (trees_both trees xs stops.done old.holds mid.holds new.holds
        first.puts stands)
    trees_of (inr stands) = inr (trees_next trees xs stops.done stops.next old.holds mid.holds
        new.holds first.puts stands)

-- where the printing of the first entries stopped
stops_first : (trees : Option (List ℕ)) (xs ys : List Entry) (old new : Outside) (why : PrintNo)
    → StopsPrinting trees xs old new why → StopsPrinting trees (xs ++ ys) old new why
stops_first trees xs ys old new Unput stops = record {
  done = stops.done;
  next = stops.next;
  comes = comes_first xs ys stops.done stops.next stops.comes;
  written = stops.written;
  faults = stops.faults;
  before = stops.before;
  puts = stops.puts;
  misses = stops.misses;
}
stops_first trees xs ys old new Unwritten stops = record {
  done = stops.done;
  next = stops.next;
  comes = comes_first xs ys stops.done stops.next stops.comes;
  before = stops.before;
  written = stops.written;
  part = stops.part;
  fault = stops.fault;
  puts = stops.puts;
  putting = stops.putting;
}
stops_first trees xs ys old new Memory stops = record {
  done = stops.done;
  next = stops.next;
  comes = comes_first xs ys stops.done stops.next stops.comes;
  written = stops.written;
  faults = stops.faults;
  puts = stops.puts;
  putting = stops.putting;
}

pub printed_all : (trees : Option (List ℕ)) (xs : List Entry) (old new : Outside)
    → PrintsAll trees xs old new → Prints trees xs old new (Ok tt)
printed_all trees xs old new all = record {
  all = all;
  stops = tt;
  unput = λ name rises. absurd (omega (arith, all.putting name, rises));
  unwritten = λ rises. absurd (omega (arith, all.faults, rises));
  counted = omega (arith, all.faults);
  reading = all.reading;
  others = only_all (tree_puts trees xs) old.holds new.holds old.putting new.putting all.puts
      all.putting;
}

-- printing entries, and then more, is printing all of them
pub printed_more : (trees : Option (List ℕ)) (xs ys : List Entry) (old mid new : Outside)
    (result : Result (Unit {0}) PrintNo) → PrintsAll trees xs old mid
    → Prints trees ys mid new result
    → Prints trees (xs ++ ys) old new result
printed_more trees xs ys old mid new result first second = record {
  all = on_ok_weaker result (all_more trees xs ys old mid new first) second.all;
  stops = IfErr-weaker result (StopsPrinting trees ys mid new)
      (StopsPrinting trees (xs ++ ys) old new)
      (stops_more trees xs ys old mid new first) second.stops;
  unput = λ name rises. second.unput name (rw (first.putting name) rises);
  unwritten = λ rises. second.unwritten (rw first.faults rises);
  counted = omega (arith, first.faults, second.counted);
  reading = λ name. second.reading name ∙ first.reading name;
  others = λ name. rw (flat_map-append (entry_puts trees) xs ys)
      (only_both (tree_puts trees xs) (tree_puts trees ys) old.holds mid.holds new.holds
      old.putting mid.putting new.putting first.puts first.putting name (second.others name));
}

-- where the printing of the first entries stopped, that of all of them did
pub printed_first : (trees : Option (List ℕ)) (xs ys : List Entry) (old new : Outside)
    (why : PrintNo)
    → Prints trees xs old new (Err why) → Prints trees (xs ++ ys) old new (Err why)
printed_first trees xs ys old new why prints = record {
  all = tt;
  stops = stops_first trees xs ys old new why prints.stops;
  unput = prints.unput;
  unwritten = prints.unwritten;
  counted = prints.counted;
  reading = prints.reading;
  others = λ name. rw (flat_map-append (entry_puts trees) xs ys)
      (only_front (tree_puts trees xs) (tree_puts trees ys) old.holds new.holds
      old.putting new.putting name (prints.others name));
}

-- ---- the next entry of a list

pub all_at : (trees : Option (List ℕ)) (entries : List Entry) (i : ℕ) (entry : Entry)
    (old mid new : Outside) → i < length entries → entry ≡ get_or entries i entry
    → PrintsAll trees (take i entries) old mid → PrintsAll trees (entry ∷ []) mid new
    → PrintsAll trees (take (i + 1) entries) old new
all_at trees entries i entry old mid new within is done next =
    subst (λ (l : List Entry). PrintsAll trees l old new) (sym (one_more entries i entry within is))
    (all_more trees (take i entries) (entry ∷ []) old mid new done next)

entries_at : (entries : List Entry) (i : ℕ) (entry : Entry) → i < length entries
    → entry ≡ get_or entries i entry
    → entries ≡ (take i entries ++ entry ∷ []) ++ drop (suc i) entries
entries_at entries i entry within is = parts_at entries i entry within
    ∙ ap (λ (e : Entry). take i entries ++ e ∷ drop (suc i) entries) (sym is)
    ∙ sym (append_assoc (take i entries) (entry ∷ []) (drop (suc i) entries))

pub stopped_at : (trees : Option (List ℕ)) (entries : List Entry) (i : ℕ) (entry : Entry)
    (old mid new : Outside) (why : PrintNo) → i < length entries → entry ≡ get_or entries i entry
    → PrintsAll trees (take i entries) old mid → Prints trees (entry ∷ []) mid new (Err why)
    → Prints trees entries old new (Err why)
stopped_at trees entries i entry old mid new why within is done next =
    subst (λ (l : List Entry). Prints trees l old new (Err why))
    (sym (entries_at entries i entry within is))
    (printed_first trees (take i entries ++ entry ∷ []) (drop (suc i) entries) old new why
    (printed_more trees (take i entries) (entry ∷ []) old mid new (Err why) done next))
