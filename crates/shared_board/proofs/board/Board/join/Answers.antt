use Rattle.std.proofs.Common.{◌∙◌, sym, ap}
use Rattle.shared_board.specs.Board.{known}
use Rattle.shared_board.proofs.Joining.{join_fetched, join_lines}
use Rattle.shared_board.proofs.board.Board.join.Goals as goal

pub invariant_of-pass : goal.invariant_of-pass
invariant_of-pass c = let pass = c.args.pass.now in let v = known pass in let w = known c.args.other in let said = c.join.ensures in record {
  caller_is = pass.caller_is ∙ sym (ap (λ z. z.caller) said.view);
  fetched_within = join_fetched v w _ said.view said.one pass.fetched pass.fetched_within;
  lines_are = join_lines v w _ said.view said.one said.fresh pass.caller pass.lines pass.caller_is pass.lines_are;
}
