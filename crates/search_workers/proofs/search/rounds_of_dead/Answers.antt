use Rattle.search_workers.proofs.GoingOn.{on_on, dead_on}
use Rattle.search_workers.proofs.search.rounds_of_dead.Goals as goal

pub loop-preserved : goal.loop-preserved
loop-preserved c =
    let inv = c.loop.invariant in
    let on = c.round_of_dead.ensures.on in
    record {
      on = on_on c.args.core.now c.loop.core c.round_of_dead.new.core inv.on on;
      dead = dead_on c.loop.core c.round_of_dead.new.core on c.args.leaf.now inv.dead;
    }
