use Rattle.std.proofs.Common.{[], ◌∷◌, refl}
use Rattle.tree_growth.proofs.Filling.{keeps_fill}
use Rattle.tree_growth.proofs.laws.what_keeps_bounds_fills.Goals as goal

pub returns : goal.returns
returns c = record {
  fill = λ node rule tree bounds keeps. (keeps_fill node.problem rule tree (node ∷ []) bounds (refl, tt) keeps).fill;
  choices = λ node rule tree bounds keeps. (keeps_fill node.problem rule tree (node ∷ []) bounds (refl, tt) keeps).choices;
  fits = λ node rule tree bounds keeps. (keeps_fill node.problem rule tree (node ∷ []) bounds (refl, tt) keeps).fits;
}
