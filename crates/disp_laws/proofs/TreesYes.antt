-- An accepted tree says the truth of each valid plan.
use Rattle.std.proofs.Common.{◌≡◌, zero, suc, ◌≤◌, List, [], ◌∷◌, ◌++◌, map, refl, sym, subst, arith, inl, inr}
use Rattle.std.specs.Prelude.{Contains, ◌⊎◌}
use Rattle.std.proofs.lemmas.List.Elements.{Contains-append_left, Contains-append_right}
use Rattle.disp_model.specs.declared.fixing.Fixing.{Fixing}
use Rattle.disp_model.specs.declared.plan.Event.{Event}
use Rattle.disp_model.specs.declared.decision.Decision.{Decision}
use Rattle.disp_model.specs.declared.tree.ComponentWalk.{ComponentWalk}
use Rattle.disp_model.specs.declared.tree.TrainWalks.{TrainWalks}
use Rattle.disp_model.specs.declared.tree.Leaf.{Leaf as TreeLeaf}
use Rattle.disp_model.specs.declared.tree.Leaf.TheVariants.{NoRoute, Cycle, Late, Costs, Shares}
use Rattle.disp_model.specs.declared.tree.TreeNode.{TreeNode}
use Rattle.disp_model.specs.declared.tree.TreeNode.TheVariants.{Branch, Leaf}
use Rattle.disp_model.specs.declared.tree.Verdict.{Verdict}
use Rattle.disp_model.specs.declared.tree.Verdict.TheVariants.{Optimal, Infeasible}
use Rattle.disp_model.specs.declared.problem.Problem.{Problem}
use Rattle.disp_model.specs.Valid.{IsValid}
use Rattle.disp_model.specs.Cost.{cost_of}
use Rattle.disp_model.specs.Node.{Node, root_of, with_decision}
use Rattle.disp_model.specs.Follows.{Follows}
use Rattle.disp_model.specs.Trees.{ReachVerdict, ShareVerdict, Shows, LeafHolds, children_of, Fills, Accepts}
use Rattle.disp_laws.proofs.Branching.{covers, contains_map}
use Rattle.disp_laws.proofs.WalksHold.{has_routes, no_cycle, in_time}
use Rattle.disp_laws.proofs.Costs.{walks_cost}
use Rattle.disp_laws.proofs.ShownShares.{shares_say}

-- what a verdict says of a valid plan
abbrev pub SaysOf : Problem → List Event → Verdict → Type 0
SaysOf problem plan (Optimal cost) = cost ≤ cost_of problem.components plan
SaysOf problem plan Infeasible = ⊥

reaches : (node : Node) (plan : List Event) (verdict : Verdict) (walks : List ComponentWalk) → IsValid node.problem node.fixings plan → Follows plan node.decisions
    → ReachVerdict node verdict walks → SaysOf node.problem plan verdict
reaches node plan (Optimal cost) walks valid follows enough = omega (arith, enough.enough, walks_cost node plan walks enough.sum valid follows enough.distinct enough.sum_is)
reaches node plan Infeasible walks valid follows enough = enough

share_reaches : (node : Node) (plan : List Event) (verdict : Verdict) (walks : List ComponentWalk) (trains : List TrainWalks) → IsValid node.problem node.fixings plan → Follows plan node.decisions
    → ShareVerdict node verdict walks trains → SaysOf node.problem plan verdict
share_reaches node plan (Optimal cost) walks trains valid follows enough = shares_say node plan walks trains cost valid follows enough
share_reaches node plan Infeasible walks trains valid follows enough = enough

shows : (node : Node) (plan : List Event) (verdict : Verdict) (leaf : TreeLeaf) → IsValid node.problem node.fixings plan → Follows plan node.decisions
    → Shows node verdict leaf → SaysOf node.problem plan verdict
shows node plan verdict NoRoute valid follows shown = absurd shown
shows node plan verdict (Cycle nodes) valid follows shown = absurd (no_cycle node plan nodes valid follows shown)
shows node plan verdict (Late walk) valid follows shown =
    absurd (omega (arith, shown.late, in_time node plan walk shown.total shown.end shown.upper valid follows shown.is_walk shown.ends shown.upper_is))
shows node plan verdict (Costs walks) valid follows shown = reaches node plan verdict walks valid follows shown
shows node plan verdict (Shares walks trains) valid follows shown = share_reaches node plan verdict walks trains valid follows shown

-- a leaf that holds says it of each valid plan that follows its decisions
pub leaf_says : (node : Node) (plan : List Event) (verdict : Verdict) (leaf : TreeLeaf) → IsValid node.problem node.fixings plan → Follows plan node.decisions
    → LeafHolds node verdict leaf → SaysOf node.problem plan verdict
leaf_says node plan verdict leaf valid follows holds =
    elim holds [
      | inl none ↦ absurd (has_routes node plan valid follows none)
      | inr shown ↦ shows node plan verdict leaf valid follows shown
    ]

-- the plan is valid below one of these places
abbrev IsBelowSome : List Event → List Node → Type 0
IsBelowSome plan places = (node : Node) × Contains places node × IsValid node.problem node.fixings plan × Follows plan node.decisions

first_or_later : (plan : List Event) (first : Node) (places : List Node) → IsBelowSome plan (first ∷ places) → (IsValid first.problem first.fixings plan × Follows plan first.decisions) ⊎ IsBelowSome plan places
first_or_later plan first places (node, (zero, lt, e), valid, follows) =
    inl (subst (λ (n : Node). IsValid n.problem n.fixings plan) (sym e) valid, subst (λ (n : Node). Follows plan n.decisions) (sym e) follows)
first_or_later plan first places (node, (suc k, lt, e), valid, follows) = inr (node, (k, omega arith, e), valid, follows)

-- the places are of one problem
abbrev AreAt : Problem → List Node → Type 0
AreAt problem [] = Unit {0}
AreAt problem (node ∷ places) = (node.problem ≡ problem) × AreAt problem places

below_are_at : (problem : Problem) (node : Node) → node.problem ≡ problem → (children : List Decision) (places : List Node) → AreAt problem places → AreAt problem (map (with_decision node) children ++ places)
below_are_at problem node own [] places each = each
below_are_at problem node own (child ∷ children) places each = (own, below_are_at problem node own children places each)

fills_say : (problem : Problem) (plan : List Event) (verdict : Verdict) (tree : List TreeNode) (places : List Node) → AreAt problem places → Fills verdict places tree → IsBelowSome plan places → SaysOf problem plan verdict
fills_say problem plan verdict [] [] at fills (d, (k, lt, e), valid, follows) = absurd (omega arith)
fills_say problem plan verdict [] (node ∷ places) at fills some = absurd fills
fills_say problem plan verdict (top ∷ tree) [] at fills (d, (k, lt, e), valid, follows) = absurd (omega arith)
fills_say problem plan verdict (Leaf leaf ∷ tree) (node ∷ places) at fills some =
    elim (first_or_later plan node places some) [
      | inl here ↦ subst (λ (p : Problem). SaysOf p plan verdict) at.0 (leaf_says node plan verdict leaf here.0 here.1 fills.0)
      | inr later ↦ fills_say problem plan verdict tree places at.1 fills.1 later
    ]
fills_say problem plan verdict (Branch choice children ∷ tree) (node ∷ places) at fills some =
    let below = map (with_decision node) (children_of node.problem choice) in
    let each = below_are_at problem node at.0 (children_of node.problem choice) places at.1 in
    elim (first_or_later plan node places some) [
      | inl here ↦
          let child = covers node plan choice here.0 here.1 fills.0 in
          let there : Contains below (with_decision node child.0) = contains_map (with_decision node) (children_of node.problem choice) child.0 child.1 in
          fills_say problem plan verdict tree (below ++ places) each fills.2 (with_decision node child.0, Contains-append_left below places (with_decision node child.0) there, here.0, child.2)
      | inr later ↦ fills_say problem plan verdict tree (below ++ places) each fills.2 (later.0, Contains-append_right below places later.0 later.1, later.2, later.3)
    ]

pub tree_says : (problem : Problem) (fixings : List Fixing) (plan : List Event) (verdict : Verdict) (tree : List TreeNode) → IsValid problem fixings plan → Accepts problem fixings verdict tree → SaysOf problem plan verdict
tree_says problem fixings plan verdict tree valid accepts =
    fills_say problem plan verdict tree (root_of problem fixings ∷ []) (refl, tt) accepts (root_of problem fixings, (0, omega arith, refl), valid, λ k d lt. absurd (omega arith))
