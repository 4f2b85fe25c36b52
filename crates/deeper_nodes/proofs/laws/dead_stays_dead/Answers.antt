use Rattle.disp_model.specs.Node.{node_at}
use Rattle.deeper_nodes.proofs.Tighter.{more_decided}
use Rattle.deeper_nodes.proofs.Dying.{dead_stays}
use Rattle.deeper_nodes.proofs.laws.dead_stays_dead.Goals as goal

pub returns : goal.returns
returns c = record {
  below = λ problem fixings decisions more dead. dead_stays (node_at problem fixings decisions) fixings _ (more_decided (node_at problem fixings decisions) more) dead;
  above = λ problem fixings decisions more alive dead. alive (dead_stays (node_at problem fixings decisions) fixings _ (more_decided (node_at problem fixings decisions) more) dead);
}
