use Rattle.std.proofs.Common.{sym, ◌∙◌}
use Rattle.std.proofs.lemmas.Bool.{false≢true}
use Rattle.incremental_paths.proofs.Telling.{tells_none}
use Rattle.incremental_paths.proofs.Pushing.{waiting_next, waiting_past, reach_self}
use Rattle.incremental_paths.proofs.spread.push_place.Goals as goal

pub returns-then-has-clause-waiting : goal.returns-then-has-clause-waiting
returns-then-has-clause-waiting g c =
    let within = rw (← c.requires.sizes) at c.requires.within in
    waiting_next c.args.arcs.now c.args.order.now c.requires.rising within c.node-node.result c.args.place c.node-node.ensures.is c.node-node.ensures.only c.args.lengths.now c.raise_ends.new.lengths c.args.changes.now c.raise_ends.new.changes c.requires.waiting c.raise_ends.ensures.spreads c.raise_ends.ensures.tells

pub returns-clause-waiting : goal.returns-clause-waiting
returns-clause-waiting g c =
    let within = rw (← c.requires.sizes) at c.requires.within in
    waiting_past c.args.arcs.now c.args.order.now c.requires.rising within c.node-node.result c.args.place c.node-node.ensures.is c.node-node.ensures.only c.args.lengths.now c.args.changes.now (λ has. false≢true (sym c.if-has.false ∙ c.has.ensures.1 has)) c.requires.waiting

pub returns-clause-tells : goal.returns-clause-tells
returns-clause-tells g c = tells_none c.args.changes.now c.args.lengths.now

pub returns-clause-reach : goal.returns-clause-reach
returns-clause-reach g c = reach_self c.args.changes.now c.args.order.now c.args.top
