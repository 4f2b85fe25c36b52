-- as many passes are given as feeds have come
use Rattle.std.proofs.Common.{◌≡◌, ◌≤◌, length, map, vec_len, vec_capacity}
use Rattle.shared_board.specs.Board.{own_board, known, fetched, lines}
use Rattle.feed_runs.specs.Readers.{AreReaders, with_readers}
use Rattle.feed_runs.proofs.readers.readers_of.Given as goal

abbrev pub invariant-loop-feed : goal.invariant-loop-feed
invariant-loop-feed g l = record {
  board : own_board l.first ≡ own_board l.fn.first;
  fetched_is : fetched l.first ≡ fetched l.fn.first;
  lines_are : lines l.first ≡ lines l.fn.first;
  next : l.number ≡ length l.yielded;
  knows : known l.first ≡ with_readers (known l.fn.first) (length l.yielded);
  feeds : map (λ r. r.feed) l.readers.items ≡ l.yielded;
  count : vec_len l.readers ≡ length l.yielded;
  room : length l.fn.feeds.items ≤ vec_capacity l.readers;
  readers : AreReaders l.board (known l.fn.first) l.readers.items;
}
