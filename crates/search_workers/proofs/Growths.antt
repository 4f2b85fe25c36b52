-- What a dive, or a leaf alone, makes of a leaf.
use Rattle.std.proofs.Common.{◌≡◌, ◌∙◌, ℕ, ◌≤◌, List, [], ◌∷◌, ◌++◌, length, reverse, Option, Some, None, inl, inr, get_or, sym, ap, subst, arith}
use Rattle.std.specs.Prelude.{All}
use Rattle.std.proofs.lemmas.List.{length-append}
use Rattle.disp_model.specs.declared.plan.Event.{Event}
use Rattle.disp_model.specs.declared.problem.Problem.{Problem}
use Rattle.disp_model.specs.declared.settings.Rule.{Rule}
use Rattle.disp_model.specs.declared.tree.Leaf.{Leaf as TreeLeaf}
use Rattle.disp_model.specs.declared.tree.TreeNode.{TreeNode}
use Rattle.disp_model.specs.declared.tree.TreeNode.TheVariants.{Leaf}
use Rattle.disp_model.specs.WellFormed.{horizon}
use Rattle.disp_model.specs.Node.{Node}
use Rattle.disp_model.specs.Shares.{IsBound}
use Rattle.event_graph.specs.Joined.{IsOfEdition}
use Rattle.node_leaves.specs.declared.leaf.NodeLeaf.TheVariants.{Dead}
use Rattle.node_leaves.specs.Shown.{IsDeadLeaf}
use Rattle.tree_dives.specs.declared.given.Dive.{Dive}
use Rattle.tree_dives.specs.declared.stage.End.{End}
use Rattle.tree_dives.specs.declared.stage.End.TheVariants as ends
use Rattle.tree_dives.specs.Halves.{IsLeafAt}
use Rattle.tree_dives.specs.Dives.{EndsInPlan, EndsOpen, EndsClosed, IsEndOf, IsDive}
use Rattle.tree_dives.proofs.Growing.{grown as grown_leaf, leaf_alone}
use Rattle.tree_dives.proofs.Ending.{alone_last, last_is_root}
use Rattle.dispatch_core.specs.States.{IsExamined}
use Rattle.search_workers.specs.declared.growth.Growth.{Growth}
use Rattle.search_workers.specs.declared.growth.Growth.TheVariants as growth
use Rattle.near_plans.specs.Plans.{IsPlanAt}
use Rattle.near_plans.proofs.Finding.{earliest_within, small_beside}
use Rattle.search_workers.specs.Grown.{GrowthEnds, IsGrownOf}

-- the plan starts nothing past the horizon
plan_within : (rule : Rule) (node : Node) (best : Option ℕ) (nodes : List TreeNode)
    (bounds : List ℕ) (plan : List Event)
    → IsOfEdition node → EndsInPlan rule node best nodes bounds plan
    → All (λ e. e.time ≤ horizon node.problem.trains) plan
plan_within rule node best nodes bounds plan edition ends =
    subst (λ (p : Problem). All (λ e. e.time ≤ horizon p.trains) plan) ends.last.below.problem
    (earliest_within ends.here plan (small_beside node ends.here edition ends.last.below.fixings) ends.earliest)

-- a leaf that shows that the node is dead
pub alone_grows : (rule : Rule) (node : Node) (best : Option ℕ) (allowance bound : ℕ)
    (leaf : TreeLeaf)
    → IsDeadLeaf node leaf → (grown : Growth)
    → grown ≡ growth.Subtree (Leaf leaf ∷ []) (0 ∷ []) None
    → IsGrownOf rule node best allowance bound grown
alone_grows rule node best allowance bound leaf is grown same =
    subst (IsGrownOf rule node best allowance bound) (sym same) (leaf_alone rule best node leaf 0 (grown_leaf rule node (Dead leaf) is), omega arith, inl closed)
  where
    closed : EndsClosed rule node best (Leaf leaf ∷ []) (0 ∷ [])
    closed = record { here = node; last = alone_last rule best node (Dead leaf) is; closed = inl is.dead }

-- one number among others, where there are no others
one_alone : (before : List ℕ) (b : ℕ) (behind : List ℕ) (bound : ℕ)
    → before ++ b ∷ behind ≡ bound ∷ [] → b ≡ bound
one_alone [] b behind bound is = ap (λ (l : List ℕ). get_or l 0 0) is
one_alone (x ∷ before) b behind bound is = absurd (omega (arith, ap (λ (l : List ℕ). length l) is, length-append before (b ∷ behind)))

module _ (rule : Rule) (node : Node) (best : Option ℕ) (allowance bound : ℕ) (dive : Dive) (is : IsDive rule node best allowance dive) where
  end_of : (end : End) → dive.end ≡ end
      → IsEndOf rule node best allowance dive.nodes dive.bounds end
  end_of end same = subst (λ (e : End). IsEndOf rule node best allowance dive.nodes dive.bounds e) same is.ends

  -- the last node needs no branch
  pub when_closed : dive.end ≡ ends.Closed
      → IsGrownOf rule node best allowance bound (growth.Subtree dive.nodes dive.bounds None)
  when_closed end = (is.grows, is.few, inl (end_of ends.Closed end))

  -- it is left open
  pub when_open : dive.end ≡ ends.Open → (allowance ≡ 0 → dive.bounds ≡ bound ∷ [] → ⊥)
      → IsGrownOf rule node best allowance bound (growth.Subtree dive.nodes dive.bounds None)
  when_open end grown = (is.grows, is.few, inr (record { ends = end_of ends.Open end; not_as_before = grown }))

  pub with_plan : IsOfEdition node → (plan : List Event) → dive.end ≡ ends.Plan plan
      → IsGrownOf rule node best allowance bound (growth.Subtree dive.nodes dive.bounds (Some plan))
  with_plan edition plan end = (is.grows, is.few, (here, in_plan))
    where
      in_plan : EndsInPlan rule node best dive.nodes dive.bounds plan
      in_plan = end_of (ends.Plan plan) end

      here : IsPlanAt node plan
      here = record { valid = in_plan.valid; within = plan_within rule node best dive.nodes dive.bounds plan edition in_plan }

  -- the leaf stays with its bound
  pub stays_examined : dive.end ≡ ends.Open → allowance ≡ 0 → dive.bounds ≡ bound ∷ []
      → IsGrownOf rule node best allowance bound growth.Examined
  stays_examined end none only = (
    none,
    subst (λ (n : Node). IsExamined rule n bound) at_root (record {
      alive = left.helps.alive;
      bound_is = subst (λ (b : ℕ). IsBound left.here rule b) same (stands.grown.own left.helps.alive);
      choice = left.choice;
      picked = left.helps.picked;
    }),
  )
    where
      left : EndsOpen rule node best allowance dive.nodes dive.bounds
      left = end_of ends.Open end

      stands : IsLeafAt rule best node left.here dive.nodes dive.bounds
      stands = left.last.stands

      at_root : left.here ≡ node
      at_root = last_is_root rule best node left.here dive.nodes dive.bounds left.last (left.all ∙ none)

      same : stands.bound ≡ bound
      same = one_alone stands.sides.before_bounds stands.bound (reverse stands.sides.behind_bounds) bound (sym stands.bounds_are ∙ only)

-- a plan that came with a subtree is one at its node
pub plan_of : (rule : Rule) (node : Node) (best : Option ℕ) (allowance bound : ℕ) (nodes : List TreeNode) (bounds : List ℕ) (plan : Option (List Event))
    → GrowthEnds rule node best allowance bound nodes bounds plan → (found : List Event) → plan ≡ Some found → IsPlanAt node found
plan_of rule node best allowance bound nodes bounds plan ends found same = (subst (GrowthEnds rule node best allowance bound nodes bounds) same ends).0
