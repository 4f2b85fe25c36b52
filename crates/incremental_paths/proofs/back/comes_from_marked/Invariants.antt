use Rattle.std.proofs.Common.{◌≡◌, ℕ, ◌<◌, ◌≤◌, false, length, get_or}
use Rattle.incremental_paths.specs.declared.arc.Arc.{Arc}
use Rattle.incremental_paths.specs.Ordered.{is_marked}
use Rattle.incremental_paths.proofs.Threading.{IsAt}
use Rattle.incremental_paths.proofs.back.comes_from_marked.Given as goal

abbrev pub invariant-loop-front : goal.invariant-loop-front
invariant-loop-front l = record {
  at : IsAt l.ended.keys l.node l.front;
  none : (k : ℕ) (d : Arc) → l.front ≤ k → k < length l.arcs → (get_or l.arcs k d).to ≡ l.node → is_marked l.marks (get_or l.arcs k d).from ≡ false;
}

abbrev pub decreases-loop-front : goal.decreases-loop-front
decreases-loop-front l = l.front
