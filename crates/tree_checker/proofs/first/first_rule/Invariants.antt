-- the rules so far are kept
use Rattle.std.proofs.Common.{ℕ, ◌<◌}
use Rattle.tree_checker.specs.KnownNodes.{node_here}
use Rattle.tree_checker.specs.Rules.{rule_at, KeepsListRule}
use Rattle.tree_checker.proofs.first.first_rule.Given as goal

abbrev pub invariant-loop-place : goal.invariant-loop-place
invariant-loop-place l = (k : ℕ) → k < l.place → KeepsListRule (node_here l.here) l.verdict l.leaf (rule_at k)
