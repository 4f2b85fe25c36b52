-- nothing is in the lists so far
use Rattle.std.proofs.Common.{[]}
use Rattle.node_facts.specs.Indexed.{AreFixedByTrain}
use Rattle.node_facts.proofs.fixing_lists.no_lists.Given as goal

abbrev pub invariant-loop : goal.invariant-loop
invariant-loop l = AreFixedByTrain [] l.lists.items
