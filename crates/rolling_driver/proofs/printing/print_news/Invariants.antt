-- what was fetched is printed
use Rattle.std.proofs.Common.{◌≡◌, ℕ, List, option_map}
use Rattle.text_puts.specs.Outside.{outside}
use Rattle.shared_board.specs.Board.{board_of, own_board}
use Rattle.rolling_driver.proofs.Rounds.{HasPrinted}
use Rattle.rolling_driver.proofs.printing.print_news.Given as goal

abbrev pub invariant-loop : goal.invariant-loop
invariant-loop g l = record {
  board : own_board l.pass ≡ board_of l.board;
  so_far : HasPrinted (option_map (λ prefix. prefix.now) l.trees) l.initial.pass l.pass
      (outside (g.S.Shelf.state l.initial.shelf) (g.O.Sink.state l.initial.out))
      (outside (g.S.Shelf.state l.shelf) (g.O.Sink.state l.out));
  known : (name : List ℕ) → g.S.Shelf.knows l.initial.shelf name → g.S.Shelf.knows l.shelf name;
  feeds : g.S.Shelf.open_feeds l.shelf ≡ g.S.Shelf.open_feeds l.initial.shelf;
}
