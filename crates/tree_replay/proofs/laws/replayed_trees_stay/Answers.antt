use Rattle.tree_replay.proofs.Staying.{takes_stays, back_stays, fallen_stays, newer_stays}
use Rattle.tree_replay.proofs.laws.replayed_trees_stay.Goals as goal

pub returns : goal.returns
returns c = record {
  takes = λ problem growth state best free want seen take after tree replayed. takes_stays problem growth state tree replayed best free want seen take after;
  back = λ problem growth state work examined answer after tree replayed. back_stays problem growth state tree replayed work examined answer after;
  falls = λ problem growth state n tree replayed. fallen_stays problem growth state tree replayed n;
  newer = newer_stays;
}
