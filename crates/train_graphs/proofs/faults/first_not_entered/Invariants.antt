-- the first among what is left is the first of all
use Rattle.std.proofs.Common.{◌≡◌, drop}
use Rattle.train_graphs.specs.Graphs.{entry_count, first_not_one}
use Rattle.train_graphs.proofs.faults.first_not_entered.Given as goal

abbrev pub invariant-loop-t : goal.invariant-loop-t
invariant-loop-t l = first_not_one entry_count l.t (drop l.t l.trains) ≡ first_not_one entry_count 0 l.trains
