-- the greatest of the fixings so far, and of the others
use Rattle.std.proofs.Common.{◌≡◌, max, drop}
use Rattle.fixing_editions.specs.Own.{earliest_in}
use Rattle.fixing_editions.proofs.train_fixings.earliest_in.Given as goal

abbrev pub invariant-loop-numbered : goal.invariant-loop-numbered
invariant-loop-numbered l = max l.earliest (earliest_in (drop l.numbered-index l.kept) l.op) ≡ earliest_in l.kept l.op
