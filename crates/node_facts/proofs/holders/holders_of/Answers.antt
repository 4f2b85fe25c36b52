use Rattle.node_facts.proofs.Holding.{held_within, held_more, held_all}
use Rattle.node_facts.proofs.holders.holders_of.Goals as goal

pub note-requires : goal.note-requires
note-requires c =
    held_within c.args.train.now c.args.places.now c.args.demands.now c.args.sums.now c.args.needed.now _ c.loop-op.op c.held_by-held.result c.requires.inside c.loop-op.invariant.long c.held_by-held.ensures

pub loop-op-preserved : goal.loop-op-preserved
loop-op-preserved c =
    let train = c.args.train.now in
    let places = c.args.places.now in
    let demands = c.args.demands.now in
    let sums = c.args.sums.now in
    let needed = c.args.needed.now in
    let within = held_within train places demands sums needed _ c.loop-op.op c.held_by-held.result c.requires.inside c.loop-op.invariant.long c.held_by-held.ensures in
    held_more c.loop-op.op train places demands sums needed c.loop-op.holders.items c.note.new.holders.items c.held_by-held.result c.held_by-held.ensures within c.note.ensures c.loop-op.invariant

pub returns : goal.returns
returns c = held_all c.loop-op.op c.args.train.now c.args.places.now c.args.demands.now c.args.sums.now c.args.needed.now c.loop-op.holders.items c.loop-op-test.false c.loop-op.invariant
