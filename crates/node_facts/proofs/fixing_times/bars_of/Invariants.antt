-- the times of those so far are kept
use Rattle.std.proofs.Common.{take}
use Rattle.node_facts.specs.Indexed.{AreBars}
use Rattle.node_facts.proofs.fixing_times.bars_of.Given as goal

abbrev pub invariant-loop-fixing : goal.invariant-loop-fixing
invariant-loop-fixing l = AreBars (take l.fixing-index l.fixings) l.bars.entries
