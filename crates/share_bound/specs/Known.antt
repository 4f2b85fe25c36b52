-- Shares of trains that are known over bases of their operations.
use Rattle.std.specs.Prelude.{◌≡◌, ◌≢◌, ℕ, ◌<◌, ◌≤◌, All, List, Option, Some, None, length, slice_get, slice_index, slice_index_or}
use Rattle.disp_model.specs.Node.{Node}
use Rattle.disp_model.specs.Valid.{train_at}
use Rattle.disp_model.specs.declared.decision.Decision.{Decision}
use Rattle.event_arcs.specs.Owned.{train_of_decision}
use Rattle.share_bound.specs.declared.known.Listing.{Listing}
use Rattle.share_bound.specs.declared.known.LeafPart.{LeafPart}
use Rattle.share_bound.specs.declared.known.LeafPart.TheVariants.{Listed}
use Rattle.share_bound.specs.declared.known.ShareOver.{ShareOver}
use Rattle.share_bound.specs.declared.known.KnownShare.{KnownShare}
use Rattle.share_bound.specs.declared.known.KnownShares.{KnownShares}
use Rattle.share_bound.specs.Times.{base_in}
use Rattle.share_bound.specs.Bases.{AreBasesTo}
use Rattle.share_bound.specs.Leasts.{IsFittedShare}

-- what is known of a train, if there is something
abbrev pub known_of : List (Option KnownShare) → ℕ → Option KnownShare
known_of each t = slice_index_or each t None

-- the share of the train over bases that are no more than these, by the routes that are allowed at
-- the node
pub record HoldsListing (node : Node) (t : ℕ) (bases : List ℕ) (listing : Listing) : Type 0 where
  pub share : IsFittedShare node t (base_in listing.bases.items) listing.share
  pub long : length listing.bases.items ≡ length bases
  pub within : (o : ℕ) → slice_index listing.bases.items o ≤ slice_index bases o

-- the same where the train is listed
abbrev pub ShowsPart : Node → ℕ → List ℕ → LeafPart → Type 0
ShowsPart node t bases showing = (listing : Listing) → showing ≡ Listed listing
    → HoldsListing node t bases listing

-- the share of the train over the bases, by the routes that are allowed at the node, and how a leaf
-- shows it
pub record HoldsOver (node : Node) (t : ℕ) (one : ShareOver) : Type 0 where
  pub share : IsFittedShare node t (base_in one.bases.items) one.share
  pub shows : (showing : LeafPart) → one.showing ≡ Some showing
      → ShowsPart node t one.bases.items showing

-- the same of all that is known of the train
pub record HoldsFor (node : Node) (t : ℕ) (known : KnownShare) : Type 0 where
  pub last : HoldsOver node t known.last
  pub earlier : All (HoldsOver node t) known.earlier.items

-- the same of each train of which something is known
pub record HoldFor (node : Node) (known : KnownShares) : Type 0 where
  pub long : length known.each.items ≡ length node.problem.trains
  pub each : (t : ℕ) (one : KnownShare) → known_of known.each.items t ≡ Some one
      → HoldsFor node t one

-- the decision is not about the routes of a train of which something is known
abbrev pub IsAboutNone : Decision → KnownShares → Type 0
IsAboutNone decision known = (t : ℕ) (one : KnownShare) → known_of known.each.items t ≡ Some one
    → train_of_decision decision ≢ Some t

-- the bases of the train's operations at the node
abbrev pub AreBasesOf : Node → ℕ → List ℕ → Type 0
AreBasesOf node t bases = AreBasesTo node t (length (train_at node.problem t)) bases

-- the share of the train at the node, with its bases
pub record IsCurrentOver (node : Node) (t : ℕ) (one : ShareOver) : Type 0 where
  pub bases : AreBasesOf node t one.bases.items
  pub holds : HoldsOver node t one

-- a place of a share that is over the bases at the node
pub record IsPlaceOfShare (node : Node) (t : ℕ) (shares : List ShareOver) (place : ℕ) : Type 0 where
  pub there : place < length shares
  pub one : ShareOver
  pub one_is : slice_get shares place ≡ Some one
  pub bases : AreBasesOf node t one.bases.items

-- the last share is the one at the node
pub record IsCurrentShare (node : Node) (t : ℕ) (known : KnownShare) : Type 0 where
  pub bases : AreBasesOf node t known.last.bases.items
  pub holds : HoldsFor node t known

-- it is known
pub record IsShareCurrent (node : Node) (t : ℕ) (known : KnownShares) : Type 0 where
  pub there : t < length known.each.items
  pub one : KnownShare
  pub known_is : known_of known.each.items t ≡ Some one
  pub current : IsCurrentShare node t one
