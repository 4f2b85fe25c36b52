use Rattle.std.proofs.Common.{refl}
use Rattle.disp_model.specs.Node.{node_at}
use Rattle.deeper_nodes.proofs.Tighter.{more_decided, routes_before, still_without, still_none, still_forced, arc_stays}
use Rattle.deeper_nodes.proofs.laws.decisions_tighten.Goals as goal

pub returns : goal.returns
returns c = record {
  routes = λ problem fixings decisions more. routes_before (node_at problem fixings decisions) more;
  without = λ problem fixings decisions more. still_without (node_at problem fixings decisions) fixings _ (more_decided (node_at problem fixings decisions) more);
  none = λ problem fixings decisions more. still_none (node_at problem fixings decisions) fixings _ (more_decided (node_at problem fixings decisions) more);
  forced = λ problem fixings decisions more. still_forced (node_at problem fixings decisions) fixings _ (more_decided (node_at problem fixings decisions) more);
  arcs = λ problem fixings decisions more. arc_stays (node_at problem fixings decisions) fixings _ (more_decided (node_at problem fixings decisions) more);
  windows = λ problem fixings decisions more o. (refl, refl);
}
