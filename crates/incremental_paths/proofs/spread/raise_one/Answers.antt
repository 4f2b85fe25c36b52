use Rattle.incremental_paths.proofs.Telling.{tells_one}
use Rattle.incremental_paths.proofs.spread.raise_one.Goals as goal

pub returns-clause-tells : goal.returns-clause-tells
returns-clause-tells c =
    tells_one c.args.changes.now c.tell.new.self c.args.lengths.now c.args.node c.args.raised c.requires.node c.requires.above c.tell.ensures.still c.tell.ensures.told c.tell.ensures.room c.tell.ensures.grown
