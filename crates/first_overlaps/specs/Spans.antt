-- From when until when operations run at a node, and which two hold a resource at a time.
use Rattle.std.specs.Prelude.{◌≡◌, ◌⊎◌, ℕ, ◌+◌, ◌<◌, Contains}
use Rattle.disp_model.specs.declared.train.Op.{Op}
use Rattle.disp_model.specs.declared.train.Listing.{Listing}
use Rattle.disp_model.specs.declared.problem.Problem.{Problem}
use Rattle.disp_model.specs.declared.decision.Decision.TheVariants.{First}
use Rattle.disp_model.specs.Node.{Node}
use Rattle.disp_model.specs.Routes.{IsForced}
use Rattle.disp_model.specs.Arcs.{listings_of}
use Rattle.disp_model.specs.Walks.{IsLongest}
use Rattle.disp_model.specs.Choices.{IsEnd, IsOpenOrder}
use Rattle.disp_model.specs.Earliest.{IsPairUpTo}

-- an operation is forced, and runs from its longest walk to its end
pub record IsSpanOf (node : Node) (o : Op) (start end : ℕ) : Type 0 where
  pub forced : IsForced node o
  pub start_is : IsLongest node o start
  pub end_is : IsEnd node o end

-- the operation lists the resource, with this release time
abbrev pub IsListed : Problem → Op → ℕ → ℕ → Type 0
IsListed problem o resource release =
    (l : Listing) × Contains (listings_of problem o) l × (l.resource ≡ resource)
    × (l.release ≡ release)

-- two operations, the lower train first, that run and list a resource
pub record BothHold (node : Node) (a b : Op) : Type 0 where
  pub trains : a.train < b.train
  pub start : ℕ
  pub end : ℕ
  pub begin : ℕ
  pub over : ℕ
  pub first : IsSpanOf node a start end
  pub second : IsSpanOf node b begin over
  pub resource : ℕ
  pub release : ℕ
  pub other : ℕ
  pub lists : IsListed node.problem a resource release
  pub also : IsListed node.problem b resource other

-- they hold it at a time: each starts before the other is over with its release time
pub record IsOverlap (node : Node) (a b : Op) : Type 0 where
  pub both : BothHold node a b
  pub early : both.begin < both.end + both.release
  pub late : both.start < both.over + both.other

-- it depends on their places in a plan whether they hold it at a time: one ends when the other
-- starts, with no release time, and their order is not decided
pub record IsTouch (node : Node) (a b : Op) : Type 0 where
  pub both : BothHold node a b
  pub meets : ((both.end ≡ both.begin) × (both.release ≡ 0))
      ⊎ ((both.over ≡ both.start) × (both.other ≡ 0))
  pub undecided : Contains node.decisions (First a b) → ⊥
  pub undecided_back : Contains node.decisions (First b a) → ⊥

-- no order that is open comes before that of the two
abbrev pub NoneOpenBefore : Node → Op → Op → Type 0
NoneOpenBefore node a b = (c d : Op) → IsOpenOrder node c d → IsPairUpTo a b c d

-- two operations hold a resource at a time, and no order that is open comes before theirs
pub record IsFirstOverlap (node : Node) (a b : Op) : Type 0 where
  pub overlap : IsOverlap node a b
  pub first : NoneOpenBefore node a b

-- two operations touch, and no order that is open comes before theirs
abbrev pub FirstTouch : Node → Type 0
FirstTouch node = (a : Op) × (b : Op) × IsTouch node a b × NoneOpenBefore node a b

-- the order of no two operations is open
abbrev pub NoneOpen : Node → Type 0
NoneOpen node = (c d : Op) → IsOpenOrder node c d → ⊥
