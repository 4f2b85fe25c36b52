use Rattle.std.proofs.Common.{◌≡◌, ◌≢◌, ℕ, ◌<◌, ◌≤◌, List, length, get_or}
use Rattle.incremental_paths.specs.declared.arc.Arc.{Arc}
use Rattle.incremental_paths.specs.Spread.{AreReached, IsSpread, IsArcEnd, TellsMore, Reaches}
use Rattle.incremental_paths.proofs.Threading.{IsAt}
use Rattle.incremental_paths.proofs.spread.raise_ends.Given as goal

abbrev pub invariant-loop-front : goal.invariant-loop-front
invariant-loop-front g l = record {
  at : IsAt l.begun.keys l.node l.front;
  sized : length l.lengths ≡ length l.fn.lengths;
  grows : (v : ℕ) → get_or l.fn.lengths v 0 ≤ get_or l.lengths v 0;
  only : (v : ℕ) → get_or l.fn.lengths v 0 ≢ get_or l.lengths v 0 → IsArcEnd l.arcs l.node v;
  old : (k : ℕ) (d : Arc) → k < length l.arcs → IsSpread l.fn.lengths (get_or l.arcs k d) → get_or l.fn.lengths (get_or l.arcs k d).from 0 ≡ get_or l.lengths (get_or l.arcs k d).from 0 → IsSpread l.lengths (get_or l.arcs k d);
  here : (k : ℕ) (d : Arc) → l.front ≤ k → k < length l.arcs → (get_or l.arcs k d).from ≡ l.node → IsSpread l.lengths (get_or l.arcs k d);
  reached : (lowers : List ℕ) → AreReached lowers l.arcs l.fn.lengths → AreReached lowers l.arcs l.lengths;
  tells : TellsMore l.fn.changes l.changes l.fn.lengths l.lengths;
  above : l.least ≤ l.top;
  top_within : l.top < length l.order;
  reach : Reaches l.order l.fn.changes l.changes l.top;
}

abbrev pub decreases-loop-front : goal.decreases-loop-front
decreases-loop-front g l = l.front
