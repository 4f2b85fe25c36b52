-- What the printing of entries leaves.
use Rattle.std.specs.Prelude.{
  ◌≡◌,
  ◌⊎◌,
  ℕ,
  ◌<◌,
  ◌≤◌,
  List,
  [],
  ◌∷◌,
  ◌++◌,
  Option,
  Result,
  OnOk,
  IfErr,
  IsErrOf,
}
use Rattle.disp_model.specs.declared.entry.Entry.{Entry}
use Rattle.disp_outside.specs.Sink.{WritesPart}
use Rattle.fixing_lines.specs.Entries.{entry_text}
use Rattle.disp_outside.specs.States.{Holdings}
use Rattle.text_puts.specs.Outside.{Outside, Writes}
use Rattle.text_puts.specs.Puts.{StandsAfter, PutMisses, PutsOnly}
use Rattle.journal_printer.specs.declared.no.PrintNo.{PrintNo}
use Rattle.journal_printer.specs.declared.no.PrintNo.TheVariants.{Unput, Unwritten, Memory}
use Rattle.journal_printer.specs.Journal.{journal_text, entry_puts, tree_puts}

-- all entries were printed: their lines went out, their trees are held, and nothing failed
pub record PrintsAll (trees : Option (List ℕ)) (entries : List Entry)
    (old new : Outside) : Type 0 where
  pub written : Writes old.written new.written (journal_text entries)
  pub puts : StandsAfter (tree_puts trees entries) old.holds new.holds
  pub faults : new.faults ≡ old.faults
  pub putting : (name : List ℕ) → new.putting name ≡ old.putting name
  pub reading : (name : List ℕ) → new.reading name ≡ old.reading name

-- these entries are printed first, and this one behind them
pub record ComesNext (entries done : List Entry) (next : Entry) : Type 0 where
  pub rest : List Entry
  pub parts : entries ≡ done ++ next ∷ rest

-- the entries before one were printed, and its tree could not be put, which was counted under its
-- name; nothing of its line went out
pub record MissesTree (trees : Option (List ℕ)) (entries : List Entry)
    (old new : Outside) : Type 0 where
  pub done : List Entry
  pub next : Entry
  pub comes : ComesNext entries done next
  pub written : Writes old.written new.written (journal_text done)
  pub faults : new.faults ≡ old.faults
  pub before : Holdings
  pub puts : StandsAfter (tree_puts trees done) old.holds before
  pub misses : PutMisses (entry_puts trees next) before new.holds old.putting new.putting

-- the entries before one were printed, and the tree of this one is put; the write of its line
-- failed, which was counted, and some of the line went out, or nothing
pub record MissesLine (trees : Option (List ℕ)) (entries : List Entry)
    (old new : Outside) : Type 0 where
  pub done : List Entry
  pub next : Entry
  pub comes : ComesNext entries done next
  pub before : Option (List ℕ)
  pub written : Writes old.written before (journal_text done)
  pub part : WritesPart before new.written (entry_text next)
  pub fault : old.faults < new.faults
  pub puts : StandsAfter (tree_puts trees (done ++ next ∷ [])) old.holds new.holds
  pub putting : (name : List ℕ) → new.putting name ≡ old.putting name

-- the entries before one were printed, and memory ran out at this one, before or behind the putting
-- of its tree; nothing of its line went out, and nothing failed
pub record RunsOut (trees : Option (List ℕ)) (entries : List Entry)
    (old new : Outside) : Type 0 where
  pub done : List Entry
  pub next : Entry
  pub comes : ComesNext entries done next
  pub written : Writes old.written new.written (journal_text done)
  pub faults : new.faults ≡ old.faults
  pub puts : StandsAfter (tree_puts trees done) old.holds new.holds
      ⊎ StandsAfter (tree_puts trees (done ++ next ∷ [])) old.holds new.holds
  pub putting : (name : List ℕ) → new.putting name ≡ old.putting name

-- what the printing leaves where it stopped for this cause
abbrev pub StopsPrinting : Option (List ℕ) → List Entry → Outside → Outside → PrintNo → Type 0
StopsPrinting trees entries old new Unput = MissesTree trees entries old new
StopsPrinting trees entries old new Unwritten = MissesLine trees entries old new
StopsPrinting trees entries old new Memory = RunsOut trees entries old new

-- how the printing of entries ends: a count of puttings rises only where a tree could not be put,
-- and that of writes only where a line could not be written; no count falls, and those of readings
-- stay; a name that is of none of the trees holds what it held, and keeps its count
pub record Prints (trees : Option (List ℕ)) (entries : List Entry) (old new : Outside)
    (result : Result (Unit {0}) PrintNo) : Type 0 where
  pub all : OnOk result (PrintsAll trees entries old new)
  pub stops : IfErr result (StopsPrinting trees entries old new)
  pub unput : (name : List ℕ) → old.putting name < new.putting name → IsErrOf result Unput
  pub unwritten : old.faults < new.faults → IsErrOf result Unwritten
  pub counted : old.faults ≤ new.faults
  pub reading : (name : List ℕ) → new.reading name ≡ old.reading name
  pub others : (name : List ℕ) → PutsOnly (tree_puts trees entries)
      old.holds new.holds old.putting new.putting name
