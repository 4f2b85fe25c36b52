use Rattle.std.proofs.Common.{◌≡◌, length}
use Rattle.branch_rules.specs.Picks.{AreTheOnly}
use Rattle.branch_rules.proofs.pick.only_routes.Given as goal

abbrev pub invariant-loop-train : goal.invariant-loop-train
invariant-loop-train l = record {
  count : length l.singles.items ≡ l.train;
  only : AreTheOnly l.graph l.train l.singles.items;
}
