-- Bases of a train's operations that walks show, and the shares of listed trains.
use Rattle.std.specs.Prelude.{◌≡◌, ℕ, ◌<◌, ◌≤◌, List, All, length, slice_index}
use Rattle.disp_model.specs.declared.train.Op.{Op}
use Rattle.disp_model.specs.Node.{Node}
use Rattle.disp_model.specs.Shares.{Arrival, AreWalksOn, shown_base, SharesCost, HaveDistinctTrains}
use Rattle.disp_model.specs.Trees.{FitsOp, FitsTrain}
use Rattle.share_bound.specs.declared.known.Listing.{Listing}
use Rattle.share_bound.specs.Times.{base_in}
use Rattle.share_bound.specs.Leasts.{IsFittedShare}
use Rattle.share_bound.specs.Known.{AreBasesOf}
use Rattle.share_leaves.specs.declared.trains.Listed.{Listed}

-- lengths of operations, or 0 in the place of some
pub record AreLengthsKept (lengths kept : List ℕ) : Type 0 where
  pub long : length kept ≡ length lengths
  pub within : (o : ℕ) → slice_index kept o ≤ slice_index lengths o

-- so far as these are the first of them
pub record KeepsTo (lengths : List ℕ) (count : ℕ) (kept : List ℕ) : Type 0 where
  pub long : length kept ≡ count
  pub within : (o : ℕ) → o < count → slice_index kept o ≤ slice_index lengths o

-- no more than the bases of a train's operations
pub record AreLowBases (node : Node) (t : ℕ) (bases : List ℕ) : Type 0 where
  pub lengths : List ℕ
  pub are : AreBasesOf node t lengths
  pub kept : AreLengthsKept lengths bases

-- the share of the train over bases that are no more than its own
pub record HoldsLow (node : Node) (t : ℕ) (listing : Listing) : Type 0 where
  pub low : AreLowBases node t listing.bases.items
  pub share : IsFittedShare node t (base_in listing.bases.items) listing.share

-- the walks end on the train, and show no less than the first of these bases of its operations
pub record ShowsBases (node : Node) (t count : ℕ) (bases : List ℕ) (walks : List (List Op)) : Type 0
  where
    pub arrivals : List Arrival
    pub are : AreWalksOn node t walks arrivals
    pub shows : (o : ℕ) → o < count → slice_index bases o ≤ shown_base node t arrivals o
    pub few : length walks ≤ count
    pub fits : All (All FitsOp) walks

-- the first trains, of which these are listed, and what their shares come to at least
pub record AreListed (node : Node) (n : ℕ) (listed : Listed) : Type 0 where
  pub sum : ℕ
  pub shares : SharesCost node listed.trains sum
  pub reached : listed.cost ≤ sum
  pub first : All (λ l. l.train < n) listed.trains
  pub distinct : HaveDistinctTrains listed.trains
  pub fits : All FitsTrain listed.trains
  pub few : length listed.trains ≤ n
