-- what the fixings so far do not say, the others do
use Rattle.std.proofs.Common.{◌≡◌, drop}
use Rattle.fixing_editions.specs.Own.{next_numbered}
use Rattle.fixing_editions.proofs.train_fixings.next_in.Given as goal

abbrev pub invariant-loop-numbered : goal.invariant-loop-numbered
invariant-loop-numbered l = next_numbered l.kept l.op ≡ next_numbered (drop l.numbered-index l.kept) l.op
