-- what is seen with the holders so far
use Rattle.std.proofs.Common.{take}
use Rattle.std.specs.Prelude.{IfSome}
use Rattle.first_overlaps.specs.Holds.{IsMeetingOf, IsSeenLater, HoldsMeet}
use Rattle.first_overlaps.proofs.seen.seen_on.Given as goal

abbrev pub invariant-loop-holder : goal.invariant-loop-holder
invariant-loop-holder l = record {
  found : IfSome l.fn.known.first (IsMeetingOf l.graph l.hold.op) → IfSome l.seen.first (IsMeetingOf l.graph l.hold.op);
  later : IsSeenLater l.fn.known l.seen;
  met : HoldsMeet l.graph l.hold l.spans (take l.holder-index l.holders) l.seen;
}
