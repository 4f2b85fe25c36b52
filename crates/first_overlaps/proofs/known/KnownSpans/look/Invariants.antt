-- the operations of the numbers so far are settled with all of later trains
use Rattle.std.proofs.Common.{◌≡◌, ℕ, ◌<◌}
use Rattle.first_overlaps.specs.Holds.{StandsSettled}
use Rattle.first_overlaps.specs.Known.{AreSpansFor}
use Rattle.first_overlaps.proofs.known.KnownSpans.look.Given as goal

abbrev pub invariant-loop-number : goal.invariant-loop-number
invariant-loop-number l = record {
  known : AreSpansFor l.problem l.self;
  holders : l.self.holders ≡ l.initial.self.holders;
  spans : l.self.spans ≡ l.initial.self.spans;
  settled : (n : ℕ) → n < l.number → StandsSettled l.graph l.initial.self.holders.items l.initial.self.spans.items n;
}
