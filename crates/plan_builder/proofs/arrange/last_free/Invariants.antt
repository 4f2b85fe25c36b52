-- the stops from the place on wait
use Rattle.std.proofs.Common.{ℕ, ◌<◌, ◌≤◌, List, length, slice_index_or}
use Rattle.incremental_paths.specs.Marked.{AreRising}
use Rattle.plan_builder.specs.declared.stop.Stop.{Stop}
use Rattle.plan_builder.specs.Stops.{IsBlocked}
use Rattle.plan_builder.proofs.arrange.last_free.Given as goal

abbrev pub invariant-loop-place : goal.invariant-loop-place
invariant-loop-place l = record {
  within : l.place ≤ length l.rest;
  blocked : (k : ℕ) (d : Stop) → l.place ≤ k → k < length l.rest → IsBlocked l.paths.arcs l.rest (slice_index_or l.rest k d);
  rising : l.place < length l.rest → (places : List ℕ) × AreRising l.paths.arcs places;
}

abbrev pub decreases-loop-place : goal.decreases-loop-place
decreases-loop-place l = l.place
