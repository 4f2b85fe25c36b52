use Rattle.std.proofs.Common.{◌≡◌, ◌<◌, ◌^◌, length, All}
use Rattle.plan_tests.proofs.tests.plans.paths_of.Given as goal

abbrev pub invariant-loop-from : goal.invariant-loop-from
invariant-loop-from g l = record {
  nodes : length l.paths.lowers ≡ 4;
  lowers : All (λ lower. lower < 2 ^ 32) l.paths.lowers;
  lengths : All (λ arc. arc.length < 2 ^ 32) l.paths.arcs;
}
