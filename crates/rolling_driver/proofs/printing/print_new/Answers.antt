use Rattle.std.proofs.Common.{option_map, drop}
use Rattle.text_puts.specs.Outside.{outside}
use Rattle.shared_board.specs.Board.{known, fetched}
use Rattle.rolling_driver.proofs.Pieces.{journal_none}
use Rattle.rolling_driver.proofs.printing.print_new.Goals as goal

pub returns-in_default-clause-printed : goal.returns-in_default-clause-printed
returns-in_default-clause-printed g c =
    journal_none (option_map (λ prefix. prefix.now) c.args.trees)
    (drop (fetched c.args.pass.now) (known c.news.new.pass).seen)
    (outside (g.S.Shelf.state c.args.shelf.now) (g.O.Sink.state c.args.out.now))
