use Rattle.std.proofs.Common.{sym, subst}
use Rattle.crew_runs.specs.Seats.{IsSeated}
use Rattle.crew_runs.proofs.running.run_searchers.Goals as goal

pub for_each_mut-requires-clause-accepts : goal.for_each_mut-requires-clause-accepts
for_each_mut-requires-clause-accepts g c κs within i p inside is = (
  subst (IsSeated c.args.board.now c.args.crew.now c.args.rule) (sym is) (c.requires i p.now inside),
  (record { shared = c.type_bounds.sync-R.shared }, record { shared = c.type_bounds.sync-G.shared }),
)
