use Rattle.disp_model.specs.Changes.{standing_of}
use Rattle.disp_model.specs.Node.{node_at}
use Rattle.disp_laws.proofs.Tightened.{accepted_tightens}
use Rattle.disp_laws.proofs.LeavesStay.{leaf_stays, tree_stays}
use Rattle.disp_laws.proofs.laws.leaves_stay_good.Goals as goal

pub returns : goal.returns
returns c = record {
  leaves = λ problem changes fixing number decisions verdict leaf reply holds.
      leaf_stays (node_at problem (standing_of changes) decisions) _ verdict leaf (accepted_tightens problem changes fixing number reply) holds;
  trees = λ problem changes fixing number verdict tree reply accepts.
      tree_stays problem (standing_of changes) _ verdict tree (accepted_tightens problem changes fixing number reply) accepts;
}
