-- those so far are of other trains
use Rattle.std.proofs.Common.{ℕ, ◌<◌, List, get_or}
use Rattle.disp_model.specs.declared.tree.ComponentWalk.{ComponentWalk}
use Rattle.disp_model.specs.declared.tree.TrainWalks.{TrainWalks}
use Rattle.tree_checker.specs.Rules.{IsOfOtherTrain}
use Rattle.tree_checker.specs.Seen.{AreListedTrains}
use Rattle.tree_checker.proofs.ends.each_of_other.Given as goal

abbrev pub invariant-loop-walk : goal.invariant-loop-walk
invariant-loop-walk l = (trains : List TrainWalks) → AreListedTrains trains l.numbers.keys → (k : ℕ) (d : ComponentWalk) → k < l.walk-index → IsOfOtherTrain l.problem trains (get_or l.walks k d)
