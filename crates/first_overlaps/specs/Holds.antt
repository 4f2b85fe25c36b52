-- What forced operations hold, what is known of them from look to look, and what a look finds
-- (private clauses).
use Rattle.std.specs.Prelude.{◌≡◌, ◌⊎◌, ℕ, ◌+◌, ◌<◌, ◌≤◌, List, Bool, true, false, Contains, Option, Some, None, slice_get, slice_index_or, IfSome, MatchOption}
use Rattle.std.specs.Option.{option_map}
use Rattle.std.specs.Global.{Vec}
use Rattle.disp_model.specs.declared.train.Op.{Op}
use Rattle.disp_model.specs.declared.train.Listing.{Listing}
use Rattle.disp_model.specs.declared.decision.Decision.TheVariants.{First}
use Rattle.disp_model.specs.Node.{Node}
use Rattle.disp_model.specs.Routes.{IsForced}
use Rattle.event_windows.specs.Operations.{IsAtNumber}
use Rattle.first_overlaps.specs.declared.span.Span.{Span}
use Rattle.first_overlaps.specs.declared.hold.Hold.{Hold}
use Rattle.first_overlaps.specs.declared.holder.Holder.{Holder}
use Rattle.first_overlaps.specs.declared.meeting.Meeting.{Meeting}
use Rattle.first_overlaps.specs.declared.seen.Seen.{Seen}
use Rattle.first_overlaps.specs.Spans.{IsSpanOf, IsListed, IsOverlap, IsTouch, NoneOpenBefore, NoneOpen}

-- ---- holds

-- what an operation that runs so holds by a listing
abbrev pub hold_on : Op → Span → Listing → Hold
hold_on op span l = record { op = op; span = span; release = l.release }

-- the operation runs so, and lists the resource with the release time
pub record IsHold (node : Node) (resource : ℕ) (h : Hold) : Type 0 where
  pub span : IsSpanOf node h.op h.span.start h.span.end
  pub lists : IsListed node.problem h.op resource h.release

-- the one is over, with its release time, when the other starts, and ends before that
pub record IsOver (one other : Hold) : Type 0 where
  pub ends : one.span.end < other.span.start
  pub released : one.span.end + one.release ≤ other.span.start

abbrev pub HoldApart : Hold → Hold → Type 0
HoldApart one other = IsOver one other ⊎ IsOver other one

-- each starts before the other is over with its release time
pub record DoOverlap (one other : Hold) : Type 0 where
  pub early : other.span.start < one.span.end + one.release
  pub late : one.span.start < other.span.end + other.release

-- the two are apart, or their order is decided
abbrev pub AreSettled : Node → Hold → Hold → Type 0
AreSettled node one other = HoldApart one other
    ⊎ (Contains node.decisions (First one.op other.op)
    ⊎ Contains node.decisions (First other.op one.op))

-- ---- what is known from look to look

abbrev pub hold_with : Holder → Span → Hold
hold_with x span = record { op = x.op; span = span; release = x.release }

-- what a holder holds by these spans
abbrev pub hold_by : List (Option Span) → Holder → Option Hold
hold_by spans x = option_map (hold_with x) (slice_index_or spans x.number None)

-- by these spans the operation of a number is apart from all of later trains
abbrev pub StandsApart : List (Vec Holder) → List (Option Span) → ℕ → Type 0
StandsApart holders spans n = (r : ℕ) (list : Vec Holder) (x y : Holder) (one other : Hold)
    → slice_get holders r ≡ Some list → Contains list.items x → Contains list.items y
    → x.number ≡ n → x.op.train < y.op.train → hold_by spans x ≡ Some one
    → hold_by spans y ≡ Some other → HoldApart one other

-- where that is said of a number it is so
abbrev pub AreKnownApart : List (Vec Holder) → List (Option Span) → List Bool → Type 0
AreKnownApart holders spans apart = (n : ℕ) → slice_index_or apart n false ≡ true
    → StandsApart holders spans n

-- that is when the operation runs, where it is forced
abbrev pub IsSpanned : Node → Op → Option Span → Type 0
IsSpanned node o span = MatchOption span (IsForced node o → ⊥)
    (λ s. IsSpanOf node o s.start s.end)

-- that is when the operations of the numbers below one run
abbrev pub AreSpannedBelow : Node → ℕ → List (Option Span) → Type 0
AreSpannedBelow node count spans = (n : ℕ) (o : Op) → n < count → IsAtNumber node.problem o n
    → IsSpanned node o (slice_index_or spans n None)

-- that is when all operations run
abbrev pub AreSpanned : Node → List (Option Span) → Type 0
AreSpanned node spans = (n : ℕ) (o : Op) → IsAtNumber node.problem o n
    → IsSpanned node o (slice_index_or spans n None)

-- none is said to be apart that was not before
abbrev pub NoneMore : List Bool → List Bool → Type 0
NoneMore before after = (n : ℕ) → slice_index_or after n false ≡ true
    → slice_index_or before n false ≡ true

-- no holder of these is said to be apart that is of an earlier train than a hold, and not apart
-- from it
abbrev pub AreParted : List Holder → List (Option Span) → Hold → List Bool → Type 0
AreParted holders spans hold apart = (x : Holder) (other : Hold) → Contains holders x
    → x.op.train < hold.op.train → hold_by spans x ≡ Some other
    → slice_index_or apart x.number false ≡ true → HoldApart other hold

-- so for the holders of all of these listings of an operation that runs so
abbrev pub AreAllParted : List (Vec Holder) → List (Option Span) → Op → Span → List Listing
    → List Bool → Type 0
AreAllParted holders spans op span listings apart = (l : Listing) (list : Vec Holder)
    → Contains listings l → slice_get holders l.resource ≡ Some list
    → AreParted list.items spans (hold_on op span l) apart

-- ---- what a look finds

-- by train, then operation
abbrev pub NoLater : Op → Op → Type 0
NoLater a b = (a.train < b.train) ⊎ ((a.train ≡ b.train) × (a.op ≤ b.op))

-- the two of a meeting that may be known come no later than those with this second operation
abbrev pub IsMeetingUpTo : Option Meeting → Op → Type 0
IsMeetingUpTo None b = ⊥
IsMeetingUpTo (Some meeting) b = NoLater meeting.b b

-- an operation and another hold a resource at a time, or touch
pub record IsMeetingOf (node : Node) (a : Op) (m : Meeting) : Type 0 where
  pub of : m.a ≡ a
  pub overlap : m.overlaps ≡ true → IsOverlap node m.a m.b
  pub touch : m.overlaps ≡ false → IsTouch node m.a m.b

-- a meeting of an operation that may be known, or another one, whichever comes first
pub record IsEarlierMeeting (known : Option Meeting) (m : Meeting) (first : Option Meeting) : Type 0 where
  pub one : (first ≡ known) ⊎ (first ≡ Some m)
  pub up_to : IsMeetingUpTo first m.b
  pub kept : (d : Op) → IsMeetingUpTo known d → IsMeetingUpTo first d

-- what is seen later: a meeting that comes no later, and no more that is apart
pub record IsSeenLater (before after : Seen) : Type 0 where
  pub kept : (d : Op) → IsMeetingUpTo before.first d → IsMeetingUpTo after.first d
  pub apart : after.apart ≡ true → before.apart ≡ true

-- what is seen of a hold and another
pub record HoldMeets (node : Node) (one other : Hold) (seen : Seen) : Type 0 where
  pub settled : AreSettled node one other ⊎ IsMeetingUpTo seen.first other.op
  pub apart : seen.apart ≡ true → HoldApart one other

-- what is seen of a hold and those of these holders that are of later trains
abbrev pub HoldsMeet : Node → Hold → List (Option Span) → List Holder → Seen → Type 0
HoldsMeet node one spans holders seen = (y : Holder) (other : Hold) → Contains holders y
    → one.op.train < y.op.train → hold_by spans y ≡ Some other → HoldMeets node one other seen

-- what is seen of an operation that runs so, by these of its listings, and of all of later trains
pub record IsSeenBy (node : Node) (holders : List (Vec Holder)) (spans : List (Option Span))
    (op : Op) (span : Span) (listings : List Listing) (seen : Seen) : Type 0 where
  pub found : IfSome seen.first (IsMeetingOf node op)
  pub met : (l : Listing) (list : Vec Holder) → Contains listings l
      → slice_get holders l.resource ≡ Some list
      → HoldsMeet node (hold_on op span l) spans list.items seen

-- by these spans the operation of a number is settled with all of later trains
abbrev pub StandsSettled : Node → List (Vec Holder) → List (Option Span) → ℕ → Type 0
StandsSettled node holders spans n = (r : ℕ) (list : Vec Holder) (x y : Holder) (one other : Hold)
    → slice_get holders r ≡ Some list → Contains list.items x → Contains list.items y
    → x.number ≡ n → x.op.train < y.op.train → hold_by spans x ≡ Some one
    → hold_by spans y ≡ Some other → AreSettled node one other

-- no order that is open comes before that of a meeting
pub record IsFirstMeeting (node : Node) (m : Meeting) : Type 0 where
  pub overlap : m.overlaps ≡ true → IsOverlap node m.a m.b
  pub touch : m.overlaps ≡ false → IsTouch node m.a m.b
  pub first : NoneOpenBefore node m.a m.b

-- what a look at the operation of a number comes to: it is settled with all of later trains, or its
-- first meeting is the first one where all before it are
abbrev pub IsLookAt : Node → List (Vec Holder) → List (Option Span) → ℕ → Option Meeting
    → Type 0
IsLookAt node holders spans n found = MatchOption found (StandsSettled node holders spans n)
    (λ m. ((k : ℕ) → k < n → StandsSettled node holders spans k) → IsFirstMeeting node m)

-- what all these looks come to
abbrev pub IsLook : Node → Option Meeting → Type 0
IsLook node found = MatchOption found (NoneOpen node) (IsFirstMeeting node)
