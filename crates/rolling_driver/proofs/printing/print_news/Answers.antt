use Rattle.std.proofs.Common.{Ok, Err, option_map, ◌∙◌}
use Rattle.std.proofs.lemmas.Result.{err_from_is_err_and}
use Rattle.text_puts.specs.Outside.{outside}
use Rattle.rolling_driver.proofs.Rounds.{journal_on, printed_on}
use Rattle.rolling_driver.proofs.printing.print_news.Goals as goal

pub returns-in_err-print_new-clause-printed : goal.returns-in_err-print_new-clause-printed
returns-in_err-print_new-clause-printed g c =
    let p = err_from_is_err_and c.from_residual.result c.from_residual.ensures.1 in
    rw (p.1, p.2)
    (journal_on (option_map (λ prefix. prefix.now) c.args.trees) c.args.pass.now c.loop.pass
    c.print_new.new.pass
    (outside (g.S.Shelf.state c.args.shelf.now) (g.O.Sink.state c.args.out.now))
    (outside (g.S.Shelf.state c.loop.shelf) (g.O.Sink.state c.loop.out))
    (outside (g.S.Shelf.state c.print_new.new.shelf) (g.O.Sink.state c.print_new.new.out))
    c.loop.invariant.so_far c.in_err-print_new.ensures.watches (Err c.in_err-print_new.field-0.0)
    c.in_err-print_new.ensures.printed)

pub returns-then-over-clause-printed : goal.returns-then-over-clause-printed
returns-then-over-clause-printed g c =
    journal_on (option_map (λ prefix. prefix.now) c.args.trees) c.args.pass.now c.loop.pass
    c.print_new.new.pass
    (outside (g.S.Shelf.state c.args.shelf.now) (g.O.Sink.state c.args.out.now))
    (outside (g.S.Shelf.state c.loop.shelf) (g.O.Sink.state c.loop.out))
    (outside (g.S.Shelf.state c.print_new.new.shelf) (g.O.Sink.state c.print_new.new.out))
    c.loop.invariant.so_far c.in_ok-print_new.ensures.watches (Ok tt)
    c.in_ok-print_new.ensures.printed

pub loop-preserved : goal.loop-preserved
loop-preserved g c = record {
  board = c.in_ok-print_new.ensures.watches.board_is ∙ c.loop.invariant.board;
  so_far = printed_on (option_map (λ prefix. prefix.now) c.args.trees) c.args.pass.now c.loop.pass
      c.print_new.new.pass
      (outside (g.S.Shelf.state c.args.shelf.now) (g.O.Sink.state c.args.out.now))
      (outside (g.S.Shelf.state c.loop.shelf) (g.O.Sink.state c.loop.out))
      (outside (g.S.Shelf.state c.print_new.new.shelf) (g.O.Sink.state c.print_new.new.out))
      c.loop.invariant.so_far c.in_ok-print_new.ensures.watches c.in_ok-print_new.ensures.fetched
      c.in_ok-print_new.ensures.printed;
  known = λ name known. c.print_new.ensures.known name (c.loop.invariant.known name known);
  feeds = c.print_new.ensures.feeds ∙ c.loop.invariant.feeds;
}
