use Rattle.route_marks.proofs.Passing.{has_sums}
use Rattle.route_marks.proofs.marks.passed_of.Goals as goal

pub returns-clause-sums : goal.returns-clause-sums
returns-clause-sums c = has_sums c.args.train.now c.args.order.now c.args.rows.now c.loop-place.place c.loop-place.pass.sums.items c.loop-place.pass.reach c.loop-place.pass.marks.items c.loop-place-test.false c.loop-place.invariant.1
