-- the numbers of those so far are in the set
use Rattle.disp_model.specs.declared.tree.TrainWalks.{TrainWalks}
use Rattle.tree_checker.specs.Seen.{AreSeen}
use Rattle.tree_checker.proofs.distinct.listed_in.Given as goal

abbrev pub invariant-loop-listed : goal.invariant-loop-listed
invariant-loop-listed l = AreSeen (λ (x : TrainWalks). x.train) l.trains l.listed-index l.numbers.keys
