use Rattle.tree_growth.proofs.Helping.{grows_helps, grows_keeps}
use Rattle.tree_growth.proofs.laws.what_grows_helps_and_keeps.Goals as goal

pub returns : goal.returns
returns c = record {
  helps = λ rule best places tree bounds grows. grows_helps rule best tree places bounds grows;
  keeps = λ rule best places tree bounds grows. grows_keeps rule best tree places bounds grows;
}
