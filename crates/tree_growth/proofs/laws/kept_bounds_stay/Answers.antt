use Rattle.tree_growth.proofs.Staying.{first_keeps, takes_keep, back_keeps, fallen_keeps}
use Rattle.tree_growth.proofs.laws.kept_bounds_stay.Goals as goal

pub returns : goal.returns
returns c = record {
  first = first_keeps;
  takes = λ rule problem fixings state best free want seen take after tree keep takes. takes_keep rule problem fixings state tree keep best free want seen take after takes;
  back = λ rule problem fixings state work examined answer after tree keep back. back_keeps rule problem fixings state tree keep work examined answer after back;
  falls = λ rule problem fixings state n tree keep. fallen_keeps rule problem fixings state tree keep n;
  newer = λ rule problem fixings state edition keep n place leaf at shown. keep n place leaf at shown;
  hold = λ rule problem fixings state keep n place leaf at shown. (keep n place leaf at shown).holds;
}
