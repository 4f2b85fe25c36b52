-- the times of those so far are kept
use Rattle.std.proofs.Common.{take}
use Rattle.node_facts.specs.Indexed.{AreStarts}
use Rattle.node_facts.proofs.fixing_times.starts_of.Given as goal

abbrev pub invariant-loop-fixing : goal.invariant-loop-fixing
invariant-loop-fixing l = AreStarts (take l.fixing-index l.fixings) l.starts.entries
