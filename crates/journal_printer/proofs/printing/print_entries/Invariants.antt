-- all entries so far were printed, and no name was forgotten
use Rattle.std.proofs.Common.{◌≡◌, ℕ, List, take, option_map}
use Rattle.text_puts.specs.Outside.{outside}
use Rattle.journal_printer.specs.Printing.{PrintsAll}
use Rattle.journal_printer.proofs.printing.print_entries.Given as goal

abbrev pub invariant-loop-entry : goal.invariant-loop-entry
invariant-loop-entry g l = record {
  printed : PrintsAll (option_map (λ prefix. prefix.now) l.trees)
      (take l.entry-index l.entries)
      (outside (g.S.Shelf.state l.fn.shelf) (g.O.Sink.state l.fn.out))
      (outside (g.S.Shelf.state l.shelf) (g.O.Sink.state l.out));
  known : (name : List ℕ) → g.S.Shelf.knows l.fn.shelf name → g.S.Shelf.knows l.shelf name;
  feeds : g.S.Shelf.open_feeds l.shelf ≡ g.S.Shelf.open_feeds l.fn.shelf;
}
