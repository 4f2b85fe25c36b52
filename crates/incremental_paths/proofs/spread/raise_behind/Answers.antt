use Rattle.std.proofs.Common.{◌≤◌, get_or, arith}
use Rattle.incremental_paths.proofs.Pushing.{reach_none, reach_one}
use Rattle.incremental_paths.proofs.spread.raise_behind.Goals as goal

pub returns-then-raise_end-clause-reach : goal.returns-then-raise_end-clause-reach
returns-then-raise_end-clause-reach g c =
    let low : get_or c.args.order.now c.args.arc.to 0 ≤ c.max.result = omega (arith, c.place.ensures.is, c.max.ensures) in
    reach_one c.args.arc c.args.lengths.now c.raise_end.new.lengths c.args.changes.now c.raise_end.new.changes c.args.order.now c.max.result c.raise_end.ensures.spreads c.raise_end.ensures.tells low

pub returns-clause-reach : goal.returns-clause-reach
returns-clause-reach g c = reach_none c.args.lengths.now c.raise_end.new.lengths c.args.changes.now c.raise_end.new.changes c.args.order.now c.args.least (c.raise_end.ensures.spread c.if-raise_end.false) c.raise_end.ensures.tells
