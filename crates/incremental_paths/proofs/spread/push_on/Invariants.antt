use Rattle.std.proofs.Common.{◌≤◌, ◌<◌, List, ℕ, length, get_or, Contains}
use Rattle.incremental_paths.specs.Spread.{AreReached, AreWaiting, TellsMore}
use Rattle.incremental_paths.proofs.spread.push_on.Given as goal

abbrev pub invariant-loop-place : goal.invariant-loop-place
invariant-loop-place g l = record {
  reached : (lowers : List ℕ) → AreReached lowers l.arcs l.fn.lengths → AreReached lowers l.arcs l.lengths;
  waiting : AreWaiting l.arcs l.order l.lengths l.changes l.place;
  tells : TellsMore l.fn.changes l.changes l.fn.lengths l.lengths;
  within : l.top < length l.order;
  reach : (v : ℕ) → Contains l.changes.grown.listed v → get_or l.order v 0 ≤ l.top;
}
