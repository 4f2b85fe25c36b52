-- the lines so far are entered, and no others
use Rattle.std.proofs.Common.{◌≡◌, take}
use Rattle.shared_board.specs.Board.{board_of, own_board, known, lines}
use Rattle.shared_board.specs.Calls.{HasLines}
use Rattle.shared_board.specs.Onward.{entries_by, PassGoesOn}
use Rattle.solved_problems.specs.Solved.{AreLinesFor}
use Rattle.solved_problems.proofs.entering.enter_lines.Given as goal

abbrev pub invariant-loop-change : goal.invariant-loop-change
invariant-loop-change g l = record {
  board : own_board l.pass ≡ board_of l.board;
  has : HasLines (known l.pass);
  on : PassGoesOn l.initial.pass l.pass;
  counted : lines l.pass ≡ l.change-index;
  asks : AreLinesFor (known l.initial.pass).caller 1 (take l.change-index l.asked) (entries_by (known l.initial.pass).caller (known l.pass).seen);
}
