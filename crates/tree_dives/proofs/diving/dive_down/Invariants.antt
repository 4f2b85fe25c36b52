use Rattle.std.proofs.Common.{◌≡◌, ◌+◌, length}
use Rattle.share_bound.specs.Known.{HoldFor}
use Rattle.tree_dives.specs.Guides.{GuidesIn}
use Rattle.tree_dives.specs.Halves.{Completes, IsBelowNode}
use Rattle.tree_dives.specs.Downs.{sides_of, branches_in}
use Rattle.tree_dives.proofs.diving.dive_down.Given as goal

abbrev pub invariant-loop : goal.invariant-loop
invariant-loop l = record {
  problem : l.graph.problem ≡ l.problem;
  below : IsBelowNode l.initial.graph l.graph;
  completes : Completes l.reckoning.rule l.best l.initial.graph l.graph (sides_of l.halves);
  count : branches_in (sides_of l.halves) ≡ l.counter;
  known : HoldFor l.graph l.known;
  guide : GuidesIn l.problem l.guide;
  deep : length l.graph.decisions ≡ length l.initial.graph.decisions + l.counter;
}
