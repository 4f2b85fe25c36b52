-- What is known of when operations run, from look to look.
use Rattle.std.specs.Prelude.{◌≡◌, length}
use Rattle.disp_model.specs.declared.problem.Problem.{Problem}
use Rattle.disp_model.specs.WellFormed.{operation_count}
use Rattle.first_overlaps.specs.declared.known.KnownSpans.{KnownSpans}
use Rattle.first_overlaps.specs.Holders.{AreHoldersOf}
use Rattle.first_overlaps.specs.Holds.{AreKnownApart}

-- that is known of the operations of a problem: which of them list each resource, and a span and a
-- word on each, which says that it is apart from all of later trains only where it is
pub record AreSpansFor (problem : Problem) (known : KnownSpans) : Type 0 where
  pub holders : AreHoldersOf problem known.holders.items
  pub spans : length known.spans.items ≡ operation_count problem.trains
  pub words : length known.apart.items ≡ operation_count problem.trains
  pub apart : AreKnownApart known.holders.items known.spans.items known.apart.items
