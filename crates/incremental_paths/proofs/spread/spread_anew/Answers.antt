use Rattle.incremental_paths.proofs.Spreading.{reached_lowers}
use Rattle.incremental_paths.proofs.spread.spread_anew.Goals as goal

pub sweep-requires-clause-reached : goal.sweep-requires-clause-reached
sweep-requires-clause-reached g c = rw c.copy_from_slice.ensures.after (c.args.lowers.now, reached_lowers c.args.lowers.now c.args.arcs.now, c.requires.fit)

pub returns-clause-reached : goal.returns-clause-reached
returns-clause-reached g c = c.sweep.ensures.reached c.args.lowers.now (rw c.copy_from_slice.ensures.after (reached_lowers c.args.lowers.now c.args.arcs.now))
