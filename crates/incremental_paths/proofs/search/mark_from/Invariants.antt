use Rattle.std.proofs.Common.{◌≡◌, length}
use Rattle.incremental_paths.specs.Marked.{AreMarks}
use Rattle.incremental_paths.proofs.search.mark_from.Given as goal

abbrev pub invariant-loop-place : goal.invariant-loop-place
invariant-loop-place g l = record {
  size : length l.marks ≡ length l.fn.marks;
  marks : AreMarks l.arcs l.order l.start l.place l.marks;
}
