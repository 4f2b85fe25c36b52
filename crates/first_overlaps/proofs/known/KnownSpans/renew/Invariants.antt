-- the spans of the numbers so far are those of the node
use Rattle.first_overlaps.specs.Holds.{AreSpannedBelow}
use Rattle.first_overlaps.specs.Known.{AreSpansFor}
use Rattle.first_overlaps.proofs.known.KnownSpans.renew.Given as goal

abbrev pub invariant-loop-number : goal.invariant-loop-number
invariant-loop-number l = record {
  known : AreSpansFor l.problem l.self;
  spans : AreSpannedBelow l.graph l.number l.self.spans.items;
}
