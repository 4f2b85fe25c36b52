-- What a node fills a place with is known from what it is, without what it lists.
use Rattle.std.proofs.Common.{◌≡◌, ℕ, refl}
use Rattle.disp_model.specs.declared.problem.Problem.{Problem}
use Rattle.disp_model.specs.declared.tree.TreeNode.{TreeNode}
use Rattle.disp_model.specs.declared.tree.TreeNode.TheVariants.{Branch, Leaf}
use Rattle.disp_model.specs.declared.tree.Leaf.TheVariants.{NoRoute, Cycle, Late, Costs, Shares}
use Rattle.packed_nodes.specs.Outlines.{outline_of}
use Rattle.open_nodes.specs.declared.place.Place.{Place}
use Rattle.open_nodes.specs.Grafts.{Graft, fills_as, fills_at}

module _ (problem : Problem) (last shows n : ℕ) (place : Place) where
  pub filled_by_outline : (node : TreeNode) (graft : Graft) → fills_as problem last shows n place (outline_of node) graft ≡ fills_at problem last shows n place node graft
  filled_by_outline (Branch choice children) graft = refl
  filled_by_outline (Leaf NoRoute) graft = refl
  filled_by_outline (Leaf (Cycle ops)) graft = refl
  filled_by_outline (Leaf (Late walk)) graft = refl
  filled_by_outline (Leaf (Costs walks)) graft = refl
  filled_by_outline (Leaf (Shares walks trains)) graft = refl
