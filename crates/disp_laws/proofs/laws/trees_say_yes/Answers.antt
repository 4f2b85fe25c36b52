use Rattle.disp_model.specs.declared.tree.Verdict.TheVariants.{Optimal, Infeasible}
use Rattle.disp_laws.proofs.TreesYes.{tree_says}
use Rattle.disp_laws.proofs.laws.trees_say_yes.Goals as goal

pub returns : goal.returns
returns c = record {
  optimal = λ problem fixings cost tree plan accepts valid. tree_says problem fixings plan (Optimal cost) tree valid accepts;
  infeasible = λ problem fixings tree accepts plan valid. tree_says problem fixings plan Infeasible tree valid accepts;
}
