-- Walks that show the share of a train.
use Rattle.std.specs.Prelude.{◌≡◌, ℕ, ◌<◌, ◌≤◌, max, List, All, length}
use Rattle.disp_model.specs.declared.train.Op.{Op}
use Rattle.disp_model.specs.Node.{Node}
use Rattle.disp_model.specs.Walks.{lower_of}
use Rattle.disp_model.specs.Shares.{Arrival, AreWalksOn, greatest_to, IsBase, IsShare, ShowsShare}
use Rattle.disp_model.specs.Trees.{FitsOp, FitsTrain}
use Rattle.share_bound.specs.declared.shown.ShownShare.{ShownShare}

-- the walks show the bases of a train's first operations, and none leads to another one
pub record ShowsTo (node : Node) (t count : ℕ) (walks : List (List Op)) : Type 0 where
  pub arrivals : List Arrival
  pub are : AreWalksOn node t walks arrivals
  pub base : (o b : ℕ) → o < count → IsBase node (record { train = t; op = o }) b
      → max (lower_of node.problem node.fixings (record { train = t; op = o }))
      (greatest_to o arrivals) ≡ b
  pub past : (o : ℕ) → count ≤ o → greatest_to o arrivals ≡ 0
  pub long : length walks ≤ count
  pub fits : All (All FitsOp) walks

-- a share, and walks that show it
pub record IsShownShare (node : Node) (t : ℕ) (shown : ShownShare) : Type 0 where
  pub train : shown.listed.train ≡ t
  pub share : IsShare node t shown.share
  pub shows : ShowsShare node shown.listed shown.share
  pub fits : FitsTrain shown.listed
