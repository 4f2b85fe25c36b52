-- what is seen by the listings so far
use Rattle.std.proofs.Common.{take}
use Rattle.first_overlaps.specs.Holds.{IsSeenBy}
use Rattle.first_overlaps.proofs.known.KnownSpans.seen.Given as goal

abbrev pub invariant-loop-listing : goal.invariant-loop-listing
invariant-loop-listing l = IsSeenBy l.graph l.self.holders.items l.self.spans.items l.op l.span (take l.listing-index l.listing-items) l.seen
