use Rattle.std.proofs.Common.{[], ◌∷◌}
use Rattle.tree_growth.proofs.Leaving.{left_helps, left_keeps, all_left, left_count}
use Rattle.tree_growth.proofs.laws.what_is_left_keeps_bounds.Goals as goal

pub returns : goal.returns
returns c = record {
  helps = λ problem old new rule best decisions tree bounds left least helps is. left_helps problem old new rule best tree (decisions ∷ []) bounds left least helps is;
  keeps = λ problem old new rule decisions tree bounds left least keeps is. left_keeps problem old new rule tree (decisions ∷ []) bounds left least keeps is;
  all = λ node rule tree bounds keeps. all_left rule tree (node ∷ []) bounds keeps;
  count = λ node tree bounds left least is. left_count tree (node ∷ []) bounds left least is;
}
