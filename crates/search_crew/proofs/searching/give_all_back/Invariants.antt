-- works were given back
use Rattle.std.proofs.Common.{◌≡◌}
use Rattle.shared_board.specs.Board.{board_of, own_board, known}
use Rattle.shared_board.specs.Calls.{IsSearcher}
use Rattle.search_crew.specs.Crews.{IsSameHand}
use Rattle.search_crew.specs.Working.{KeepsOn}
use Rattle.search_crew.proofs.searching.give_all_back.Given as goal

abbrev pub invariant-loop : goal.invariant-loop
invariant-loop g l = record {
  board : own_board l.pass ≡ board_of l.board;
  searcher : IsSearcher (known l.pass);
  on : KeepsOn l.initial.pass l.pass;
  hand : IsSameHand l.initial.hand l.hand;
}
