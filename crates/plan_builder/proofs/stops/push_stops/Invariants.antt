-- the stops of the operations so far
use Rattle.std.proofs.Common.{◌≡◌, ◌++◌, take, map, length}
use Rattle.std.specs.Prelude.{All, sum_by}
use Rattle.disp_model.specs.declared.problem.Problem.{Problem}
use Rattle.disp_model.specs.Earliest.{op_of}
use Rattle.plan_builder.specs.Stops.{IsStop, op_on}
use Rattle.plan_builder.proofs.stops.push_stops.Given as goal

abbrev pub invariant-loop-operation : goal.invariant-loop-operation
invariant-loop-operation l = record {
  ops : map (λ s. op_of s.event) l.stops.items ≡ map (λ s. op_of s.event) l.fn.stops.items ++ map (op_on l.train) (take l.operation-index l.route);
  each : (problem : Problem) → sum_by (λ operations. length operations) (take l.train problem.trains) ≡ l.first
      → All (IsStop problem l.paths) l.fn.stops.items → All (IsStop problem l.paths) l.stops.items;
}
