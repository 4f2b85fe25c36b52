use Rattle.std.proofs.Common.{sym, ap, arith}
use Rattle.shared_board.specs.Board.{known}
use Rattle.shared_board.proofs.Joining.{split_lines}
use Rattle.shared_board.proofs.board.Board.split.Goals as goal

pub invariant_of-result : goal.invariant_of-result
invariant_of-result c = record {
  caller_is = sym (ap (λ z. z.caller) c.split-turn.ensures.given);
  fetched_within = omega arith;
  lines_are = split_lines (known c.args.pass.now) c.args.caller _ c.split-turn.ensures.given c.split-turn.ensures.owns;
}
