use Rattle.disp_model.specs.Node.{node_at}
use Rattle.deeper_nodes.proofs.Tighter.{more_decided}
use Rattle.deeper_nodes.proofs.Rising.{bound_rises}
use Rattle.deeper_nodes.proofs.laws.bounds_do_not_fall.Goals as goal

pub returns : goal.returns
returns c = λ problem fixings decisions more rule bound later is then alive.
    bound_rises (node_at problem fixings decisions) fixings _ rule bound later (more_decided (node_at problem fixings decisions) more) is then alive
