-- the numbers of those so far are seen, and none of them twice
use Rattle.disp_model.specs.declared.tree.TrainWalks.{TrainWalks}
use Rattle.tree_checker.specs.Seen.{AreSeen}
use Rattle.tree_checker.proofs.Apart.{AreApart}
use Rattle.tree_checker.proofs.distinct.have_distinct_trains.Given as goal

abbrev pub invariant-loop-listed : goal.invariant-loop-listed
invariant-loop-listed l = AreSeen (λ (x : TrainWalks). x.train) l.trains l.listed-index l.seen.keys × AreApart (λ (x : TrainWalks). x.train) l.trains l.listed-index
