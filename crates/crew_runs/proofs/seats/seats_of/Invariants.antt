-- as many passes are given as hands have come
use Rattle.std.proofs.Common.{◌≡◌, ◌+◌, length, map}
use Rattle.shared_board.specs.Board.{own_board, known, fetched, lines}
use Rattle.crew_runs.specs.Seats.{AreSeats, with_searchers}
use Rattle.crew_runs.proofs.seats.seats_of.Given as goal

abbrev pub invariant-loop-hand : goal.invariant-loop-hand
invariant-loop-hand l = record {
  board : own_board l.first ≡ own_board l.fn.first;
  fetched_is : fetched l.first ≡ fetched l.fn.first;
  lines_are : lines l.first ≡ lines l.fn.first;
  next : l.caller ≡ 256 + length l.yielded;
  knows : known l.first ≡ with_searchers (known l.fn.first) (length l.yielded);
  hands : map (λ s. s.hand) l.seats.items ≡ l.yielded;
  seats : AreSeats l.board (known l.fn.first) l.seats.items;
}
