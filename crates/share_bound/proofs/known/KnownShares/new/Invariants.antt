-- nothing known of the trains so far
use Rattle.std.proofs.Common.{◌≡◌, ℕ, None, length}
use Rattle.share_bound.specs.Known.{known_of}
use Rattle.share_bound.proofs.known.KnownShares.new.Given as goal

abbrev pub invariant-loop-train : goal.invariant-loop-train
invariant-loop-train l = record {
  long : length l.each.items ≡ l._train;
  none : (t : ℕ) → known_of l.each.items t ≡ None;
}
