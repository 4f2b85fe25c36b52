use Rattle.joined_passes.proofs.Joining.{joins_more}
use Rattle.joined_passes.proofs.join.join_next.Goals as goal

pub returns-clause-joins : goal.returns-clause-joins
returns-clause-joins c before done joins = let said = c.join.ensures in joins_more before c.args.first.now c.join.new.pass done c.args.pass joins (record {
  board_is = said.board;
  knows = said.pass.0;
  fetched_is = said.pass.1;
  lines_are = said.pass.2;
  one = said.one;
  owns = said.owns;
})
