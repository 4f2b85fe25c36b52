-- A leaf that holds for a bound at a node that is not dead has none above the node's.
use Rattle.std.proofs.Common.{ℕ, ◌≤◌, inl, inr, List, arith}
use Rattle.disp_model.specs.declared.settings.Rule.{Rule}
use Rattle.disp_model.specs.declared.settings.Rule.TheVariants.{Fixed, Free}
use Rattle.disp_model.specs.declared.tree.ComponentWalk.{ComponentWalk}
use Rattle.disp_model.specs.declared.tree.Leaf.{Leaf as TreeLeaf}
use Rattle.disp_model.specs.declared.tree.Leaf.TheVariants.{NoRoute, Cycle, Late, Costs, Shares}
use Rattle.disp_model.specs.declared.tree.Verdict.TheVariants.{Optimal}
use Rattle.disp_model.specs.Node.{Node}
use Rattle.disp_model.specs.Nodes.{IsDead}
use Rattle.disp_model.specs.Shares.{IsBound}
use Rattle.disp_model.specs.Trees.{CostsEnough, LeafHolds}
use Rattle.disp_laws.proofs.Bounds.{bound_some, free_is_no_less}
use Rattle.tree_growth.specs.Grown.{LeafCounts}
use Rattle.tree_growth.proofs.Walked.{late_is_dead, walks_low}
use Rattle.tree_growth.proofs.Listed.{shares_low}

module _ (node : Node) (alive : IsDead node → ⊥) where
  -- a list of walks reaches no more than the bound, by each rule
  costs_low : (rule : Rule) (walks : List ComponentWalk) (kept bound : ℕ) → CostsEnough node walks kept → IsBound node rule bound → kept ≤ bound
  costs_low Fixed walks kept bound shows is = omega (arith, shows.enough, walks_low node (λ cycle. alive (inr (inl cycle))) walks shows.sum bound shows.sum_is shows.distinct is)
  costs_low Free walks kept bound shows is =
      let fixed = bound_some node Fixed in
      omega (
        arith,
        shows.enough,
        walks_low node (λ cycle. alive (inr (inl cycle))) walks shows.sum fixed.0 shows.sum_is shows.distinct fixed.1,
        free_is_no_less node fixed.0 bound fixed.1 is,
      )

  -- nor does any leaf that counts
  pub kept_low : (rule : Rule) (leaf : TreeLeaf) (kept bound : ℕ) → LeafHolds node (Optimal kept) leaf → LeafCounts rule leaf kept → IsBound node rule bound → kept ≤ bound
  kept_low rule leaf kept bound (inl none) counts is = absurd (alive (inl none))
  kept_low rule NoRoute kept bound (inr shows) counts is = absurd shows
  kept_low rule (Cycle nodes) kept bound (inr shows) counts is = absurd (alive (inr (inl (nodes, shows))))
  kept_low rule (Late walk) kept bound (inr shows) counts is = absurd (alive (inr (inr (late_is_dead node (λ cycle. alive (inr (inl cycle))) walk shows))))
  kept_low rule (Costs walks) kept bound (inr shows) counts is = costs_low rule walks kept bound shows is
  kept_low Fixed (Shares walks trains) kept bound (inr shows) counts is = omega (arith, counts)
  kept_low Free (Shares walks trains) kept bound (inr shows) counts is = shares_low node alive walks trains kept bound shows is
