use Rattle.std.proofs.Common.{[], length}
use Rattle.timed_paths.proofs.Lates.{late_at_first, told_of_all}
use Rattle.timed_paths.proofs.timed.TimedPaths.new.Goals as goal

pub invariant_of-result : goal.invariant_of-result
invariant_of-result c = rw (c.in_ok-paths.ensures, c.in_ok-push.ensures.items, c.new-lates.ensures.items)
    (late_at_first c.args.lowers.now c.args.uppers.items c.first_above.result c.requires.nodes
    (told_of_all (length c.args.lowers.now) c.args.lowers.now [] c.args.uppers.items c.first_above.result c.requires.nodes (rw (c.in_ok-paths.ensures, c.deref.ensures.value) at c.first_above.ensures)))
