use Rattle.std.proofs.Common.{◌++◌, sym, subst}
use Rattle.feed_runs.specs.Readers.{HaveRead}
use Rattle.feed_runs.proofs.Halving.{have_both}
use Rattle.feed_runs.proofs.running.+halves.Goals as goal

pub run_readers-returns-in_default : goal.run_readers-returns-in_default
run_readers-returns-in_default g t c =
    let cut = c.split_at_mut-front in
    subst (λ all. HaveRead g.F.Feed.lines g.F.Feed.faults g.F.Feed.name all (c.run_halves.new.front ++ c.run_halves.new.back)) (sym cut.ensures.value)
    (have_both g.F.Feed.lines g.F.Feed.faults g.F.Feed.name cut.result.0.now cut.result.1.now c.run_halves.new.front c.run_halves.new.back c.run_halves.ensures.front c.run_halves.ensures.back)
