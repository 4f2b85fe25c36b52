use Rattle.std.proofs.Common.{List, ◌≡◌, subst}
use Rattle.std.specs.Prelude.{sum_by}
use Rattle.node_facts.specs.declared.train.TrainKnowledge.{TrainKnowledge}
use Rattle.node_facts.specs.Known.{without_route}
use Rattle.node_facts.proofs.Stranded.{stranded_is}
use Rattle.node_facts.proofs.trains.KnownTrains.has_no_route.Goals as goal

pub returns : goal.returns
returns c node are = stranded_is node c.args.self.now c.self.inside.stranded are (subst (λ (l : List TrainKnowledge). c.self.inside.stranded ≡ sum_by without_route l) c.self.view_is c.self.invariant)
