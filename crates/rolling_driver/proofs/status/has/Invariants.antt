-- no reading so far ended so
use Rattle.std.proofs.Common.{◌≡◌, ℕ, ◌<◌, slice_index_or}
use Rattle.feed_runs.specs.declared.reader.Reader.{Reader}
use Rattle.rolling_driver.proofs.status.has.Given as goal

abbrev pub invariant-loop-reader : goal.invariant-loop-reader
invariant-loop-reader g l = (k : ℕ) (d : Reader g.row.F.Denot) → k < l.reader-index
    → (slice_index_or l.readers k d).reading ≡ l.one → ⊥
