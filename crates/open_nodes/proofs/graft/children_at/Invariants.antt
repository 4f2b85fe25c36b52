use Rattle.disp_model.specs.Trees.{children_of}
use Rattle.open_nodes.proofs.Grafting.{AreBuilt}
use Rattle.open_nodes.proofs.graft.children_at.Given as goal

abbrev pub invariant-loop-k : goal.invariant-loop-k
invariant-loop-k l = AreBuilt (children_of l.problem l.choice) l.parent l.first l.behind l.k l.number l.places.items
