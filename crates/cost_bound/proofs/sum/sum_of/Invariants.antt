-- what the components so far add up to
use Rattle.std.proofs.Common.{take, ◌≤◌}
use Rattle.std.specs.Prelude.{sum_by}
use Rattle.disp_model.specs.WellFormed.{horizon, most_of}
use Rattle.disp_model.specs.Nodes.{ForcedAddUp}
use Rattle.cost_bound.proofs.sum.sum_of.Given as goal

abbrev pub invariant-loop-component : goal.invariant-loop-component
invariant-loop-component l = record {
  adds : ForcedAddUp l.graph (take l.component-index l.components) l.sum;
  most : l.sum ≤ sum_by (most_of (horizon l.graph.problem.trains)) (take l.component-index l.components);
}
