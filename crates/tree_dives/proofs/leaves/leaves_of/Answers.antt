use Rattle.std.proofs.Common.{◌∙◌, get_or, subst}
use Rattle.disp_model.specs.declared.decision.Decision.{Decision}
use Rattle.disp_model.specs.declared.decision.Decision.TheVariants.{Go}
use Rattle.disp_model.specs.Node.{Node, with_decision}
use Rattle.share_bound.specs.Known.{HoldFor}
use Rattle.node_leaves.specs.Shown.{IsLeafOf}
use Rattle.tree_dives.proofs.Growing.{leaf_more, branches_leaf}
use Rattle.tree_dives.proofs.leaves.leaves_of.Goals as goal

pub loop-decision-preserved : goal.loop-decision-preserved
loop-decision-preserved c =
    let inv = c.loop-decision.invariant in
    record {
      same = c.in_ok-leaf.ensures.same ∙ inv.same;
      known = subst (λ (n : Node). HoldFor n c.child_leaf.new.known) inv.same c.in_ok-leaf.ensures.known;
      grows = λ best.
          let first : Decision = Go (record { train = 0; op = 0 }) 0 in
          let leaf = subst (λ (n : Node). IsLeafOf c.args.reckoning.now.rule (with_decision n (get_or c.args.decisions.now c.loop-decision.decision-index first)) c.in_ok-leaf.leaf) inv.same c.in_ok-leaf.ensures.leaf in
          rw (c.in_ok-push_leaf.ensures.nodes, c.in_ok-push_leaf.ensures.bounds)
          (leaf_more c.args.reckoning.now.rule best c.args.graph.now c.args.decisions.now c.loop-decision.decision-index first c.in_ok-leaf.leaf c.loop-decision.grown.nodes.items c.loop-decision.grown.bounds.items c.loop-decision-test.true leaf (inv.grows best));
      leaves = rw c.in_ok-push_leaf.ensures.nodes (branches_leaf c.loop-decision.grown.nodes.items _ ∙ inv.leaves);
    }
