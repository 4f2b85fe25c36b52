-- what the listings so far leave apart
use Rattle.std.proofs.Common.{◌≡◌, length, take}
use Rattle.first_overlaps.specs.Holds.{NoneMore, AreAllParted}
use Rattle.first_overlaps.proofs.known.KnownSpans.part.Given as goal

abbrev pub invariant-loop-listing : goal.invariant-loop-listing
invariant-loop-listing l = record {
  holders : l.self.holders ≡ l.initial.self.holders;
  spans : l.self.spans ≡ l.initial.self.spans;
  words : length l.self.apart.items ≡ length l.initial.self.apart.items;
  fewer : NoneMore l.initial.self.apart.items l.self.apart.items;
  parted : AreAllParted l.initial.self.holders.items l.initial.self.spans.items l.op l.span (take l.listing-index l.listing-items) l.self.apart.items;
}
