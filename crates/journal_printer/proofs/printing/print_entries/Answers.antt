use Rattle.std.proofs.Common.{◌∙◌, option_map}
use Rattle.std.proofs.lemmas.Result.{err_from_is_err_and}
use Rattle.text_puts.specs.Outside.{outside}
use Rattle.journal_printer.proofs.Printed.{all_at, stopped_at}
use Rattle.journal_printer.proofs.printing.print_entries.Goals as goal

pub returns-in_err-print_entry-clause-printed : goal.returns-in_err-print_entry-clause-printed
returns-in_err-print_entry-clause-printed g c =
    let p = err_from_is_err_and c.from_residual.result c.from_residual.ensures.1 in
    rw (p.1, p.2)
    (stopped_at (option_map (λ prefix. prefix.now) c.args.trees) c.args.entries.now
    c.loop-entry.entry-index c.entry-item.result
    (outside (g.S.Shelf.state c.args.shelf.now) (g.O.Sink.state c.args.out.now))
    (outside (g.S.Shelf.state c.loop-entry.shelf) (g.O.Sink.state c.loop-entry.out))
    (outside (g.S.Shelf.state c.print_entry.new.shelf) (g.O.Sink.state c.print_entry.new.out))
    c.in_err-print_entry.field-0.0 c.loop-entry-test.true c.entry-item.is
    c.loop-entry.invariant.printed
    c.in_err-print_entry.ensures.printed)

pub loop-entry-preserved : goal.loop-entry-preserved
loop-entry-preserved g c = record {
  printed = all_at (option_map (λ prefix. prefix.now) c.args.trees) c.args.entries.now
      c.loop-entry.entry-index c.entry-item.result
      (outside (g.S.Shelf.state c.args.shelf.now) (g.O.Sink.state c.args.out.now))
      (outside (g.S.Shelf.state c.loop-entry.shelf) (g.O.Sink.state c.loop-entry.out))
      (outside (g.S.Shelf.state c.print_entry.new.shelf) (g.O.Sink.state c.print_entry.new.out))
      c.loop-entry-test.true c.entry-item.is c.loop-entry.invariant.printed
      c.in_ok-print_entry.ensures.printed.all;
  known = λ name known. c.print_entry.ensures.known name (c.loop-entry.invariant.known name known);
  feeds = c.print_entry.ensures.feeds ∙ c.loop-entry.invariant.feeds;
}
