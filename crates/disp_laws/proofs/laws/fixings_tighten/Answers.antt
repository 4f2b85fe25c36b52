use Rattle.disp_laws.proofs.LeavesStay.{arc_stays}
use Rattle.disp_laws.proofs.Tightened.{routes_before, still_none, still_forced, lower_grows, upper_falls}
use Rattle.disp_laws.proofs.laws.fixings_tighten.Goals as goal

pub returns : goal.returns
returns c = record {
  routes = routes_before;
  none = still_none;
  forced = still_forced;
  arcs = arc_stays;
  lowers = lower_grows;
  uppers = upper_falls;
}
