use Rattle.std.proofs.Common.{◌∙◌}
use Rattle.shared_board.specs.Board.{known}
use Rattle.shared_board.proofs.Onward.{searcher_on}
use Rattle.search_crew.proofs.Keeping.{keeps_keeps}
use Rattle.search_crew.proofs.searching.give_all_back.Goals as goal

pub loop-preserved : goal.loop-preserved
loop-preserved g c = record {
  board = c.give_back.ensures.goes.board_is ∙ c.loop.invariant.board;
  searcher = searcher_on (known c.loop.pass) (known c.give_back.new.pass) c.give_back.ensures.goes.role c.loop.invariant.searcher;
  on = keeps_keeps c.args.pass.now c.loop.pass c.give_back.new.pass c.loop.invariant.on c.give_back.ensures;
  hand = c.take.ensures ∙ c.loop.invariant.hand;
}
