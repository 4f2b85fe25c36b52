use Rattle.std.proofs.Common.{◌≡◌, ℕ, ◌<◌, ◌≤◌, ◌⊎◌, true, length, get_or}
use Rattle.incremental_paths.specs.declared.arc.Arc.{Arc}
use Rattle.incremental_paths.specs.Ordered.{is_marked}
use Rattle.incremental_paths.proofs.Threading.{IsAt}
use Rattle.incremental_paths.proofs.search.mark_ends.Given as goal

abbrev pub invariant-loop-front : goal.invariant-loop-front
invariant-loop-front g l = record {
  size : length l.marks ≡ length l.fn.marks;
  at : IsAt l.begun.keys l.node l.front;
  still : (v : ℕ) → is_marked l.fn.marks v ≡ true → is_marked l.marks v ≡ true;
  ends : (k : ℕ) (d : Arc) → l.front ≤ k → k < length l.arcs → (get_or l.arcs k d).from ≡ l.node → is_marked l.marks (get_or l.arcs k d).to ≡ true;
  only : (v : ℕ) → is_marked l.marks v ≡ true → (is_marked l.fn.marks v ≡ true) ⊎ ((k : ℕ) × (k < length l.arcs) × ((d : Arc) → ((get_or l.arcs k d).from ≡ l.node) × ((get_or l.arcs k d).to ≡ v)));
}

abbrev pub decreases-loop-front : goal.decreases-loop-front
decreases-loop-front g l = l.front
