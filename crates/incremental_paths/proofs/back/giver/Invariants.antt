use Rattle.std.proofs.Common.{◌≡◌, ◌≢◌, ℕ, ◌+◌, ◌<◌, ◌≤◌, length, get_or}
use Rattle.incremental_paths.specs.declared.arc.Arc.{Arc}
use Rattle.incremental_paths.proofs.Threading.{IsAt}
use Rattle.incremental_paths.proofs.back.giver.Given as goal

abbrev pub invariant-loop-front : goal.invariant-loop-front
invariant-loop-front l = record {
  at : IsAt l.ended.keys l.node l.front;
  none : (k : ℕ) (d : Arc) → l.front ≤ k → k < length l.arcs → (get_or l.arcs k d).to ≡ l.node → get_or l.lengths (get_or l.arcs k d).from 0 + (get_or l.arcs k d).length ≢ get_or l.lengths l.node 0;
}

abbrev pub decreases-loop-front : goal.decreases-loop-front
decreases-loop-front l = l.front
