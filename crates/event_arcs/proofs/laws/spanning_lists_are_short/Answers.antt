use Rattle.std.proofs.Common.{sym, subst}
use Rattle.disp_laws.proofs.HorizonBounds.{AreSmall, edition_is_small}
use Rattle.event_arcs.proofs.Potentials.{spanning_short}
use Rattle.event_arcs.proofs.laws.spanning_lists_are_short.Goals as goal

pub returns : goal.returns
returns c = λ node changes arcs lowers edition standing sound spans are none.
    spanning_short node arcs lowers (subst AreSmall (sym standing) (edition_is_small node.problem changes edition)) sound spans are none
