-- those so far are in the lists
use Rattle.std.proofs.Common.{take}
use Rattle.node_facts.specs.Indexed.{AreFixedByTrain}
use Rattle.node_facts.proofs.fixing_lists.lists_of.Given as goal

abbrev pub invariant-loop-fixing : goal.invariant-loop-fixing
invariant-loop-fixing l = AreFixedByTrain (take l.fixing-index l.fixings) l.lists.items
