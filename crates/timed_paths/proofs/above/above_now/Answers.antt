use Rattle.timed_paths.proofs.Lates.{still_above, told_now}
use Rattle.timed_paths.proofs.above.above_now.Goals as goal

pub returns-in-Some : goal.returns-in-Some
returns-in-Some c old tells before = still_above c.args.uppers.now old c.args.paths.now tells c.changed-changed.ensures.lengths c.in-Some.node (rw c.in-Some.is at before)

pub returns-in-None : goal.returns-in-None
returns-in-None c old tells before = told_now c.args.uppers.now old c.args.paths.now tells c.above_among.result (rw c.in-None.is at before) (rw c.changed-changed.ensures.all at c.above_among.ensures)
