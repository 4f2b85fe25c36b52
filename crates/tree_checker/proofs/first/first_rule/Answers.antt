use Rattle.std.proofs.Common.{◌∙◌, sym, arith}
use Rattle.std.proofs.lemmas.Bool.{false≢true}
use Rattle.tree_checker.specs.KnownNodes.{node_here}
use Rattle.tree_checker.proofs.Ranking.{first_at, kept_all, kept_more}
use Rattle.tree_checker.proofs.first.first_rule.Goals as goal

pub returns-then-not-branch : goal.returns-then-not-branch
returns-then-not-branch c =
    first_at (node_here c.args.here) c.args.verdict c.args.leaf.now c.loop-place.place c.rule_at-rule.result c.loop-place-test.true c.rule_at-rule.ensures (λ kept. false≢true (sym c.if-not-branch.true ∙ c.in_ok-keeps.ensures.1 kept)) c.loop-place.invariant

pub loop-place-preserved : goal.loop-place-preserved
loop-place-preserved c = kept_more (node_here c.args.here) c.args.verdict c.args.leaf.now c.loop-place.place c.rule_at-rule.result c.rule_at-rule.ensures (c.in_ok-keeps.ensures.0 c.if-not-branch.false) c.loop-place.invariant

pub returns : goal.returns
returns c = kept_all (node_here c.args.here) c.args.verdict c.args.leaf.now (λ k lt. c.loop-place.invariant k (omega (arith, lt, c.loop-place-test.false)))
