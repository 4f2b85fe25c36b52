use Rattle.std.proofs.lemmas.List.{take_more}
use Rattle.train_graphs.proofs.Reached.{visits_then}
use Rattle.train_graphs.proofs.cycle.visit.Goals as goal

pub loop-number-preserved : goal.loop-number-preserved
loop-number-preserved c = rw (take_more c.args.numbers.now c.loop-number.number-index 0 c.loop-number-test.true) (visits_then c.loop-number.invariant c.in_ok-visit_one.ensures.ok)
