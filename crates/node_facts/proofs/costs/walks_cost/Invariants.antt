-- what the walks so far cost
use Rattle.disp_model.specs.Node.{node_at}
use Rattle.disp_model.specs.Trees.{WalksCost}
use Rattle.node_facts.proofs.AddedUp.{AreAddedUp}
use Rattle.node_facts.proofs.costs.walks_cost.Given as goal

abbrev pub invariant-loop-listed : goal.invariant-loop-listed
invariant-loop-listed l = AreAddedUp (WalksCost (node_at l.problem l.fixings l.decisions)) l.walks l.listed-index l.total
