-- those so far are copied
use Rattle.std.proofs.Common.{◌≡◌, take}
use Rattle.node_facts.proofs.fixing_index.copy_of.Given as goal

abbrev pub invariant-loop-fixing : goal.invariant-loop-fixing
invariant-loop-fixing l = l.copy.items ≡ take l.fixing-index l.fixings
