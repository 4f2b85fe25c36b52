use Rattle.std.proofs.Common.{subst}
use Rattle.event_graph.specs.declared.changes.Change.{Change}
use Rattle.event_graph.specs.Kept.{state_of}
use Rattle.event_graph.specs.States.{MayRestore}
use Rattle.event_graph.proofs.Training.{read_as}
use Rattle.event_graph.proofs.parts.restore.Goals as goal

pub returns-in-Train-clause-known : goal.returns-in-Train-clause-known
returns-in-Train-clause-known c problem known by_own =
    let parts = c.args.parts.now in
    let t = c.in-Train.train in
    let may = subst (λ (change : Change). MayRestore change (state_of parts)) c.in-Train.is c.requires in
    c.keep.ensures problem known
    (by_own t c.replace-own.result c.replace-routes.result may.0 may.1 (read_as parts.owns.items t c.replace-own.result c.index_mut.result.now c.replace-own.ensures.value c.index_mut.ensures.value)
    (read_as parts.each.items t c.replace-routes.result c.index_mut-in-Train.result.now c.replace-routes.ensures.value c.index_mut-in-Train.ensures.value))
