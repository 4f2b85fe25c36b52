use Rattle.event_arcs.proofs.Lengths.{carried}
use Rattle.event_arcs.proofs.laws.walks_are_carried_over.Goals as goal

pub returns : goal.returns
returns c = λ node arcs lowers u v rest sound are forced walk.
    let over = carried node arcs lowers u rest sound are forced walk.1 in
    (over.ops, over.total, over.numbers, over.is_walk, over.enough)
