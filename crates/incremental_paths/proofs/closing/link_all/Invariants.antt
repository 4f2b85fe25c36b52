use Rattle.std.proofs.Common.{◌≡◌, ◌++◌, length, take}
use Rattle.incremental_paths.specs.Arranged.{AreArranged}
use Rattle.incremental_paths.proofs.closing.link_all.Given as goal

abbrev pub invariant-loop-arc : goal.invariant-loop-arc
invariant-loop-arc g l = record {
  linked : l.arcs.items ≡ l.fn.arcs.items ++ take l.arc-index l.more;
  arranged : AreArranged (length l.fn.order) l.arcs.items l.begun l.ended l.order l.marks;
}
