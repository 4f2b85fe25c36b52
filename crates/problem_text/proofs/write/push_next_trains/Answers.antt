use Rattle.problem_text.specs.Texts.{written_train}
use Rattle.problem_text.proofs.Listing.{more_elements}
use Rattle.problem_text.proofs.write.push_next_trains.Goals as goal

pub loop-train-preserved : goal.loop-train-preserved
loop-train-preserved c = more_elements (written_train c.args.names.now) c.args.trains.now
    c.loop-train.train-index c.train-item.result c.loop-train-test.true c.loop-train.invariant
    c.in_ok-push_text.ensures.ok
    (rw (← c.train-item.is, ← c.as_slice.ensures) c.in_ok-push_train.ensures)
