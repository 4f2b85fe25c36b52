use Rattle.incremental_paths.proofs.Telling.{tells_none}
use Rattle.incremental_paths.proofs.spread.raise_end.Goals as goal

pub returns-then-lengths-arc-clause-tells : goal.returns-then-lengths-arc-clause-tells
returns-then-lengths-arc-clause-tells g c = tells_none c.args.changes.now c.args.lengths.now
