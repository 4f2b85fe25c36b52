use Rattle.std.proofs.Common.{sym, subst}
use Rattle.disp_laws.proofs.HorizonBounds.{AreSmall, edition_is_small}
use Rattle.event_arcs.proofs.Shortness.{short_walks}
use Rattle.event_arcs.proofs.laws.walks_stay_short.Goals as goal

pub returns : goal.returns
returns c = λ node changes arcs lowers edition standing sound are no_cycle.
    short_walks node arcs lowers (subst AreSmall (sym standing) (edition_is_small node.problem changes edition)) sound are no_cycle
