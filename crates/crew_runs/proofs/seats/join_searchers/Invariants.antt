-- the searchers so far are joined
use Rattle.std.proofs.Common.{◌≡◌, true, map}
use Rattle.shared_board.specs.Board.{board_of, own_board, known}
use Rattle.joined_passes.specs.Joined.{Joins}
use Rattle.crew_runs.proofs.seats.join_searchers.Given as goal

abbrev pub invariant-loop-searcher : goal.invariant-loop-searcher
invariant-loop-searcher l = record {
  board : own_board l.first ≡ board_of l.board;
  is_first : (known l.first).first ≡ true;
  joins : Joins l.fn.first (map (λ s. s.pass) l.yielded) l.first;
}
