use Rattle.disp_model.specs.Node.{node_at}
use Rattle.deeper_nodes.proofs.Tighter.{more_decided}
use Rattle.deeper_nodes.proofs.Staying.{leaf_stays}
use Rattle.deeper_nodes.proofs.laws.leaves_hold_below.Goals as goal

pub returns : goal.returns
returns c = λ problem fixings decisions more verdict leaf holds.
    leaf_stays (node_at problem fixings decisions) fixings _ verdict leaf (more_decided (node_at problem fixings decisions) more) holds
