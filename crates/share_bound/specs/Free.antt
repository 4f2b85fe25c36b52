-- A bound of a node under the free rule, with a leaf that shows it.
use Rattle.std.specs.Prelude.{◌≡◌, ℕ, ◌<◌, ◌≤◌, [], All, length}
use Rattle.disp_model.specs.declared.settings.Rule.TheVariants.{Free}
use Rattle.disp_model.specs.declared.tree.Leaf.TheVariants.{Costs, Shares}
use Rattle.disp_model.specs.declared.tree.Verdict.TheVariants.{Optimal}
use Rattle.disp_model.specs.Node.{Node}
use Rattle.disp_model.specs.Shares.{SharesCost, HaveDistinctTrains, IsBound}
use Rattle.disp_model.specs.Trees.{LeafHolds, FitsTrain, FitsLeaf}
use Rattle.share_bound.specs.declared.free.FreeBound.{FreeBound}
use Rattle.share_bound.specs.Bases.{AddUpTo}

-- the bound of the node, and walks and trains that show each cost up to it: as shares, and where no
-- train is listed
-- as costs alone
pub record IsFreeBound (node : Node) (bound : FreeBound) : Type 0 where
  pub cost : IsBound node Free bound.cost
  pub leaf : (least : ℕ) → least ≤ bound.cost
      → LeafHolds node (Optimal least) (Shares bound.walks bound.trains)
  pub alone : bound.trains ≡ [] → (least : ℕ) → least ≤ bound.cost
      → LeafHolds node (Optimal least) (Costs bound.walks)
  pub fits : FitsLeaf (Shares bound.walks bound.trains)

-- the shares of the first trains, of which those are listed that cost something
pub record AreListedTo (node : Node) (n : ℕ) (bound : FreeBound) : Type 0 where
  pub sum : AddUpTo node n bound.cost
  pub none : bound.walks ≡ []
  pub shares : SharesCost node bound.trains bound.cost
  pub first : All (λ listed. listed.train < n) bound.trains
  pub distinct : HaveDistinctTrains bound.trains
  pub fits : All FitsTrain bound.trains
  pub few : length bound.trains ≤ n
