-- so many empty lists
use Rattle.std.proofs.Common.{◌≡◌, [], replicate}
use Rattle.fixing_editions.proofs.kept.without_fixings.Given as goal

abbrev pub invariant-loop : goal.invariant-loop
invariant-loop l = l.by_train.items ≡ replicate l.counter []
