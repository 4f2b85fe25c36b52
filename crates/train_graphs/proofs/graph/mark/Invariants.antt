-- the marks, once the numbers that are left are marked_all too
use Rattle.std.proofs.Common.{◌≡◌, drop, length}
use Rattle.train_graphs.specs.Graphs.{marked_all}
use Rattle.train_graphs.proofs.graph.mark.Given as goal

abbrev pub invariant-loop-number : goal.invariant-loop-number
invariant-loop-number l = (marked_all l.marks (drop l.number-index l.numbers) ≡ marked_all l.fn.marks l.numbers) × (length l.marks ≡ length l.fn.marks)
