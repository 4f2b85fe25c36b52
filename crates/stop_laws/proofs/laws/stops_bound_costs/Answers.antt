use Rattle.stop_laws.proofs.Stopping.{stop_bounds, each_stop_bounds}
use Rattle.stop_laws.proofs.laws.stops_bound_costs.Goals as goal

pub returns : goal.returns
returns c = record { behind = stop_bounds; within = each_stop_bounds }
