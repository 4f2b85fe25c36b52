-- a half has fewer readers
use Rattle.std.proofs.Common.{length, ◌+◌, ◌-◌, ◌*◌}
use Rattle.feed_runs.proofs.running.+halves.Given as goal

abbrev pub decreases-run_halves-read_back : goal.decreases-run_halves-read_back
decreases-run_halves-read_back g l = 4 * length l.back.now + 1

abbrev pub decreases-run_halves-read_front : goal.decreases-run_halves-read_front
decreases-run_halves-read_front g l = 4 * length l.front.now + 1

abbrev pub decreases-run_halves : goal.decreases-run_halves
decreases-run_halves g l = 4 * (length l.front.now + length l.back.now) - 1

abbrev pub decreases-run_readers : goal.decreases-run_readers
decreases-run_readers g l = 4 * length l.readers.now
