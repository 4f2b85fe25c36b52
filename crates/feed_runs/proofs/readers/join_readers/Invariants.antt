-- the readers so far are joined, and their feeds closed
use Rattle.std.proofs.Common.{◌≡◌, ◌↔◌, ◌-◌, ℕ, List, true, length, map}
use Rattle.shared_board.specs.Board.{board_of, own_board, known}
use Rattle.joined_passes.specs.Joined.{Joins}
use Rattle.feed_runs.specs.Readers.{CountsFeeds}
use Rattle.feed_runs.proofs.readers.join_readers.Given as goal

abbrev pub invariant-loop-reader : goal.invariant-loop-reader
invariant-loop-reader g l = record {
  board : own_board l.first ≡ board_of l.board;
  own : own_board l.first ≡ own_board l.fn.first;
  is_first : (known l.first).first ≡ true;
  joins : Joins l.fn.first (map (λ r. r.pass) l.yielded) l.first;
  knows : (name : List ℕ) → g.S.Shelf.knows l.shelf name ↔ g.S.Shelf.knows l.fn.shelf name;
  counts : CountsFeeds g.S.Feed.Feed.name g.S.Feed.Feed.faults (map (λ r. r.feed) l.yielded) (g.S.Shelf.state l.fn.shelf).reading (g.S.Shelf.state l.shelf).reading;
  puttings : (name : List ℕ) → (g.S.Shelf.state l.shelf).putting name ≡ (g.S.Shelf.state l.fn.shelf).putting name;
  closed : g.S.Shelf.open_feeds l.shelf ≡ g.S.Shelf.open_feeds l.fn.shelf - length l.yielded;
  held : (name : List ℕ) → (g.S.Shelf.state l.shelf).holds name ≡ (g.S.Shelf.state l.fn.shelf).holds name;
}
