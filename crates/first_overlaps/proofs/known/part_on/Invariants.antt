-- those of the holders so far are noted
use Rattle.std.proofs.Common.{◌≡◌, length, take}
use Rattle.first_overlaps.specs.Holds.{NoneMore, AreParted}
use Rattle.first_overlaps.proofs.known.part_on.Given as goal

abbrev pub invariant-loop-holder : goal.invariant-loop-holder
invariant-loop-holder l = record {
  words : length l.apart.items ≡ length l.initial.apart.items;
  fewer : NoneMore l.initial.apart.items l.apart.items;
  parted : AreParted (take l.holder-index l.holders) l.spans l.hold l.apart.items;
}
