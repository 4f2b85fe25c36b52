use Rattle.std.proofs.Common.{◌≡◌, ◌∙◌, ◌+◌, length, inl, refl, sym, subst, arith}
use Rattle.std.proofs.lemmas.Result.{IfOk-weaker}
use Rattle.disp_model.specs.Node.{Node, with_decision}
use Rattle.tree_dives.specs.declared.stage.Stage.TheVariants as stages
use Rattle.tree_dives.specs.Stages.{IsStageAt}
use Rattle.tree_dives.specs.Halves.{Completes, IsBelowNode}
use Rattle.tree_dives.specs.Downs.{sides_of, DiveGoesOn}
use Rattle.tree_dives.specs.Wholes.{with_leaf}
use Rattle.tree_dives.specs.declared.stage.End.TheVariants.{Closed}
use Rattle.tree_dives.proofs.Ending.{stands_there, leaf_count, ended_there, spent_there}
use Rattle.tree_dives.proofs.Growing.{below_below, deeper_by_one, one_longer}
use Rattle.tree_dives.proofs.diving.dive_down.Goals as goal

pub returns-then-not-branch-clause-dive : goal.returns-then-not-branch-clause-dive
returns-then-not-branch-clause-dive c =
    let inv = c.loop.invariant in
    let rule = c.args.reckoning.now.rule in
    let best = c.args.best in
    let root = c.args.graph.now in
    let sides = sides_of c.loop.halves in
    let node = c.stage_of.new.graph in
    let back = sym c.in_ok-choice.ensures.same in
    let helps = subst (λ (n : Node). IsStageAt rule best n (stages.Branch c.in-Branch.choice)) back
    (subst (IsStageAt rule best c.loop.graph) c.in-Branch.is c.in_ok-choice.ensures.stage) in
    let completes = subst (λ (n : Node). Completes rule best root n sides) back inv.completes in
    let down = c.in_ok-go_down-in-Branch.ensures.down in
    let none = subst (DiveGoesOn rule best root node c.go_down.new.graph (sides_of c.go_down.new.halves))
    c.if-not-branch.true (down.0 best root helps completes) in
    let below = subst (IsBelowNode root) back inv.below in
    let deep = subst
    (λ (n : Node). length n.decisions ≡ length root.decisions + c.loop.counter) back inv.deep in
    IfOk-weaker c.whole.result _ _ (λ dive is.
    ended_there rule best root c.args.allowance (with_decision node none.0)
    (below_below root node (with_decision node none.0) below (deeper_by_one node none.0))
    (sides_of c.go_down.new.halves) none.2
    Closed dive is (c.loop.counter + 1) (omega (arith, down.1, inv.count))
    (omega (arith, c.loop-test.true)) (omega (arith, one_longer node none.0, deep)) (inl none.1))
    c.whole.ensures

pub returns-in-End-clause-dive : goal.returns-in-End-clause-dive
returns-in-End-clause-dive c =
    let inv = c.loop.invariant in
    let rule = c.args.reckoning.now.rule in
    let best = c.args.best in
    let root = c.args.graph.now in
    let sides = sides_of c.loop.halves in
    let back = sym c.in_ok-choice.ensures.same in
    let there = subst (λ (n : Node). IsStageAt rule best n (stages.End c.in-End.end)) back
    (subst (IsStageAt rule best c.loop.graph) c.in-End.is c.in_ok-choice.ensures.stage) in
    let completes = subst (λ (n : Node). Completes rule best root n sides) back inv.completes in
    let below = subst (IsBelowNode root) back inv.below in
    let deep = subst
    (λ (n : Node). length n.decisions ≡ length root.decisions + c.loop.counter) back inv.deep in
    IfOk-weaker c.ended.result _ _ (λ dive is.
    ended_there rule best root c.args.allowance _ below (with_leaf sides is.0)
    (stands_there rule best root _ sides completes is.0 is.1) c.in-End.end dive is.2 c.loop.counter
    (leaf_count sides is.0 ∙ inv.count) (omega (arith, c.loop-test.true)) deep there)
    c.ended.ensures.whole

pub loop-preserved : goal.loop-preserved
loop-preserved c =
    let inv = c.loop.invariant in
    let rule = c.args.reckoning.now.rule in
    let best = c.args.best in
    let root = c.args.graph.now in
    let sides = sides_of c.loop.halves in
    let node = c.stage_of.new.graph in
    let back = sym c.in_ok-choice.ensures.same in
    let helps = subst (λ (n : Node). IsStageAt rule best n (stages.Branch c.in-Branch.choice)) back
    (subst (IsStageAt rule best c.loop.graph) c.in-Branch.is c.in_ok-choice.ensures.stage) in
    let completes = subst (λ (n : Node). Completes rule best root n sides) back inv.completes in
    let below = subst (IsBelowNode root) back inv.below in
    let ensures = c.in_ok-go_down-in-Branch.ensures in
    let here = subst (λ (n : Node). n.problem ≡ c.args.problem.now) back inv.problem in
    let deep = subst
    (λ (n : Node). length n.decisions ≡ length root.decisions + c.loop.counter) back inv.deep in
    let on = subst (DiveGoesOn rule best root node c.go_down.new.graph (sides_of c.go_down.new.halves))
    c.if-not-branch.false (ensures.down.0 best root helps completes) in
    record {
      problem = ensures.below.problem ∙ here;
      below = below_below root _ c.go_down.new.graph below ensures.below;
      completes = on.1;
      count = omega (arith, ensures.down.1, inv.count);
      known = ensures.known;
      guide = c.in_ok-choice.ensures.guide;
      deep = omega (arith, on.0, deep);
    }

pub returns-in-Branch-2-clause-dive : goal.returns-in-Branch-2-clause-dive
returns-in-Branch-2-clause-dive c =
    let inv = c.loop.invariant in
    let rule = c.args.reckoning.now.rule in
    let best = c.args.best in
    let root = c.args.graph.now in
    let sides = sides_of c.loop.halves in
    let same = c.in_ok-stage_of.ensures.same in
    let all : c.loop.counter ≡ c.args.allowance = omega
    (arith, c.loop-test.false, c.loop.auto.counter-end) in
    let helps = subst (λ (n : Node). IsStageAt rule best n (stages.Branch c.in-Branch-2.field-0)) (sym same)
    (subst (IsStageAt rule best c.loop.graph) c.in-Branch-2.is c.in_ok-stage_of.ensures.stage) in
    let completes = subst (λ (n : Node). Completes rule best root n sides) (sym same) inv.completes
    in
    let below = subst (IsBelowNode root) (sym same) inv.below in
    let deep = subst
    (λ (n : Node). length n.decisions ≡ length root.decisions + c.loop.counter) (sym same) inv.deep
    in
    IfOk-weaker c.ended-in-Branch-2.result _ _ (λ dive is.
    spent_there rule best root c.args.allowance _ below (with_leaf sides is.0)
    (stands_there rule best root _ sides completes is.0 is.1) _ dive is.2 c.loop.counter
    (leaf_count sides is.0 ∙ inv.count) (omega (arith, all)) deep c.in-Branch-2.field-0 helps all
    refl) c.ended-in-Branch-2.ensures.whole

pub returns-in-End-2-clause-dive : goal.returns-in-End-2-clause-dive
returns-in-End-2-clause-dive c =
    let inv = c.loop.invariant in
    let rule = c.args.reckoning.now.rule in
    let best = c.args.best in
    let root = c.args.graph.now in
    let sides = sides_of c.loop.halves in
    let same = c.in_ok-stage_of.ensures.same in
    let all : c.loop.counter ≡ c.args.allowance = omega
    (arith, c.loop-test.false, c.loop.auto.counter-end) in
    let there = subst (λ (n : Node). IsStageAt rule best n (stages.End c.in-End-2.end)) (sym same)
    (subst (IsStageAt rule best c.loop.graph) c.in-End-2.is c.in_ok-stage_of.ensures.stage) in
    let completes = subst (λ (n : Node). Completes rule best root n sides) (sym same) inv.completes
    in
    let below = subst (IsBelowNode root) (sym same) inv.below in
    let deep = subst
    (λ (n : Node). length n.decisions ≡ length root.decisions + c.loop.counter) (sym same) inv.deep
    in
    IfOk-weaker c.ended-in-End-2.result _ _ (λ dive is.
    ended_there rule best root c.args.allowance _ below (with_leaf sides is.0)
    (stands_there rule best root _ sides completes is.0 is.1) c.in-End-2.end dive is.2
    c.loop.counter (leaf_count sides is.0 ∙ inv.count) (omega (arith, all)) deep there)
    c.ended-in-End-2.ensures.whole
