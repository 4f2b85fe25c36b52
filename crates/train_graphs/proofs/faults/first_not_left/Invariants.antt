-- the first among what is left is the first of all
use Rattle.std.proofs.Common.{◌≡◌, drop}
use Rattle.train_graphs.specs.Graphs.{exit_count, first_not_one}
use Rattle.train_graphs.proofs.faults.first_not_left.Given as goal

abbrev pub invariant-loop-t : goal.invariant-loop-t
invariant-loop-t l = first_not_one exit_count l.t (drop l.t l.trains) ≡ first_not_one exit_count 0 l.trains
