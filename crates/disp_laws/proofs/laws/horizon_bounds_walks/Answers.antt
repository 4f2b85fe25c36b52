use Rattle.std.proofs.Common.{sym, subst}
use Rattle.disp_laws.proofs.HorizonBounds.{AreSmall, edition_is_small, within_horizon}
use Rattle.disp_laws.proofs.laws.horizon_bounds_walks.Goals as goal

pub returns : goal.returns
returns c = λ node changes walk total edition standing no_cycle is.
    within_horizon node walk total (subst AreSmall (sym standing) (edition_is_small node.problem changes edition)) no_cycle is
