-- the successors of the operations so far are marked_all
use Rattle.std.proofs.Common.{◌≡◌, take}
use Rattle.std.specs.List.{flat_map}
use Rattle.train_graphs.specs.Graphs.{marked_all}
use Rattle.train_graphs.proofs.graph.mark_successors.Given as goal

abbrev pub invariant-loop-operation : goal.invariant-loop-operation
invariant-loop-operation l = l.marks ≡ marked_all l.fn.marks (flat_map (λ p. p.next) (take l.operation-index l.train))
