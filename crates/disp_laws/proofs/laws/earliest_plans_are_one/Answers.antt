use Rattle.std.proofs.Common.{sym, subst, inr}
use Rattle.disp_laws.proofs.Standing.{AreFit, edition_fits}
use Rattle.disp_laws.proofs.EarliestPlans.{one_earliest, earliest_in_order}
use Rattle.disp_laws.proofs.EarliestValid.{decided_apart, valid_where_apart}
use Rattle.disp_laws.proofs.laws.earliest_plans_are_one.Goals as goal

pub returns : goal.returns
returns c = record {
  alone = one_earliest;
  in_order = earliest_in_order;
  decided = decided_apart;
  valid = λ node changes plan edition standing alive earliest apart.
      valid_where_apart node plan (subst (AreFit node.problem) (sym standing) (edition_fits node.problem changes edition)) (λ late. alive (inr (inr late))) earliest apart;
}
