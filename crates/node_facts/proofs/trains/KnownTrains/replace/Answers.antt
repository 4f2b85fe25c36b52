use Rattle.std.proofs.Common.{List, sym, subst, arith, length, ◌<◌}
use Rattle.node_facts.specs.declared.train.TrainKnowledge.{TrainKnowledge}
use Rattle.node_facts.proofs.Stranded.{stranded_set, stranded_few}
use Rattle.node_facts.proofs.trains.KnownTrains.replace.Goals as goal

pub overflow_add-self : goal.overflow_add-self
overflow_add-self c =
    let items = c.self.inside.each.items in
    let lt : c.args.train < length items = subst (λ (l : List TrainKnowledge). c.args.train < length l) (sym c.self.view_is) c.requires in
    let sum = stranded_set items c.args.train c.self.inside.stranded c.index.result.now c.args.known lt c.index.ensures c.self.invariant in
    omega (arith, sum, stranded_few items c.args.train c.args.known, c.len-trains.ensures, c.len-trains.type_inv, c.without_route.ensures.is, c.without_route-2.ensures.is)
