-- what the fixings so far do not say, the others do
use Rattle.std.proofs.Common.{◌≡◌, drop}
use Rattle.fixing_editions.specs.Own.{number_in}
use Rattle.fixing_editions.proofs.train_fixings.number_in.Given as goal

abbrev pub invariant-loop-numbered : goal.invariant-loop-numbered
invariant-loop-numbered l = number_in l.kept l.fixing ≡ number_in (drop l.numbered-index l.kept) l.fixing
