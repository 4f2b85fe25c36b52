-- the stops of the trains so far, before those of the trains that are left
use Rattle.std.proofs.Common.{◌≡◌, ◌++◌, take, drop, map, length}
use Rattle.std.specs.Prelude.{All, sum_by}
use Rattle.disp_model.specs.Earliest.{op_of}
use Rattle.plan_builder.specs.Stops.{IsStop, ops_from}
use Rattle.plan_builder.proofs.stops.stops_of.Given as goal

abbrev pub invariant-loop-train : goal.invariant-loop-train
invariant-loop-train l = record {
  ops : map (λ s. op_of s.event) l.stops.items ++ ops_from l.train (drop l.train l.routes) ≡ ops_from 0 l.routes;
  each : All (IsStop l.problem l.paths) l.stops.items;
  first : l.first ≡ sum_by (λ operations. length operations) (take l.train l.problem.trains);
}
