use Rattle.std.proofs.Common.{◌<◌, List, ℕ, length, get_or}
use Rattle.incremental_paths.specs.declared.arc.Arc.{Arc}
use Rattle.incremental_paths.specs.Spread.{AreReached, IsSpread, TellsMore}
use Rattle.incremental_paths.proofs.spread.sweep.Given as goal

abbrev pub invariant-loop-place : goal.invariant-loop-place
invariant-loop-place g l = record {
  reached : (lowers : List ℕ) → AreReached lowers l.arcs l.fn.lengths → AreReached lowers l.arcs l.lengths;
  spread : (k : ℕ) (d : Arc) → k < length l.arcs → get_or l.order (get_or l.arcs k d).from 0 < l.place → IsSpread l.lengths (get_or l.arcs k d);
  tells : TellsMore l.fn.changes l.changes l.fn.lengths l.lengths;
}
