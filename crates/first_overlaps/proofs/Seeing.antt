-- What is seen of an operation and those of later trains.
use Rattle.std.proofs.Common.{◌≡◌, ◌∙◌, ℕ, ◌+◌, ◌<◌, List, [], ◌∷◌, ◌++◌, get_or, Option, Some, None, Bool, true, false, refl, sym, ap, subst, arith, inl, inr}
use Rattle.std.specs.Prelude.{Contains, slice_get, IfSome, ◌⊎◌}
use Rattle.std.specs.Option.{option_map}
use Rattle.std.specs.Global.{Vec}
use Rattle.std.proofs.lemmas.Bool.{cases_lt, false≢true}
use Rattle.std.proofs.lemmas.Option.{same_Some, none-some}
use Rattle.std.proofs.lemmas.List.Elements.{Contains-append_cases}
use Rattle.event_arcs.proofs.Numbering.{same_by_number}
use Rattle.disp_model.specs.declared.train.Op.{Op}
use Rattle.disp_model.specs.declared.train.Listing.{Listing}
use Rattle.disp_model.specs.declared.decision.Decision.TheVariants.{First}
use Rattle.disp_model.specs.Node.{Node}
use Rattle.disp_model.specs.Arcs.{listings_of}
use Rattle.disp_model.specs.Earliest.{IsBelow}
use Rattle.event_windows.specs.Operations.{IsAtNumber}
use Rattle.first_overlaps.specs.declared.span.Span.{Span}
use Rattle.first_overlaps.specs.declared.hold.Hold.{Hold}
use Rattle.first_overlaps.specs.declared.holder.Holder.{Holder}
use Rattle.first_overlaps.specs.declared.meeting.Meeting.{Meeting}
use Rattle.first_overlaps.specs.declared.seen.Seen.{Seen}
use Rattle.first_overlaps.specs.Spans.{BothHold}
use Rattle.first_overlaps.specs.Holders.{IsHolderOf, AreSound}
use Rattle.first_overlaps.specs.Holds.{IsHold, HoldApart, DoOverlap, hold_with, hold_on, hold_by, IsSpanned, AreSpanned, StandsApart, NoLater, IsMeetingUpTo, IsMeetingOf, IsEarlierMeeting, IsSeenLater, HoldMeets, HoldsMeet, IsSeenBy, StandsSettled}
use Rattle.first_overlaps.proofs.Holding.{alone_there}

-- ---- the earlier of two meetings

no_later_then : (a b c : Op) → NoLater a b → NoLater b c → NoLater a c
no_later_then a b c (inl lt) (inl more) = inl (omega (arith, lt, more))
no_later_then a b c (inl lt) (inr same) = inl (omega (arith, lt, same.0))
no_later_then a b c (inr same) (inl more) = inl (omega (arith, same.0, more))
no_later_then a b c (inr same) (inr also) = inr (omega (arith, same.0, also.0), omega (arith, same.1, also.1))

not_below : (a b : Op) → (IsBelow a b → ⊥) → NoLater b a
not_below a b not = elim (cases_lt b.train a.train) [
  | inl lt ↦ inl lt
  | inr ge ↦ elim (cases_lt a.train b.train) [
    | inl lt ↦ absurd (not (inl lt))
    | inr le ↦
        let same : b.train ≡ a.train = omega (arith, ge, le) in
        elim (cases_lt a.op b.op) [ inl lt ↦ absurd (not (inr (sym same, lt))) | inr up ↦ inr (same, up) ]
  ]
]

pub known_first : (first m : Meeting) → NoLater first.b m.b → IsEarlierMeeting (Some first) m (Some first)
known_first first m le = record { one = inl refl; up_to = le; kept = λ d h. h }

pub below_first : (first m : Meeting) → IsBelow first.b m.b → IsEarlierMeeting (Some first) m (Some first)
below_first first m below = known_first first m (below_no_later first.b m.b below)
  where
    below_no_later : (a b : Op) → IsBelow a b → NoLater a b
    below_no_later a b (inl lt) = inl lt
    below_no_later a b (inr lt) = inr (lt.0, omega (arith, lt.1))

pub same_first : (first m : Meeting) → first.b ≡ m.b → IsEarlierMeeting (Some first) m (Some first)
same_first first m same = known_first first m (inr (ap (λ (o : Op). o.train) same, omega (arith, ap (λ (o : Op). o.op) same)))

pub new_first : (known : Option Meeting) (m : Meeting)
    → ((first : Meeting) → known ≡ Some first → IsBelow first.b m.b → ⊥) → IsEarlierMeeting known m (Some m)
new_first known m not = record { one = inr refl; up_to = inr (refl, omega arith); kept = λ d h. by known refl d h }
  where
    by : (found : Option Meeting) → known ≡ found → (d : Op) → IsMeetingUpTo found d → NoLater m.b d
    by None is d h = absurd h
    by (Some first) is d h = no_later_then m.b first.b d (not_below first.b m.b (not first is)) h

-- ---- one pair more

pub same_seen : (seen : Seen) → IsSeenLater seen seen
same_seen seen = record { kept = λ d h. h; apart = λ is. is }

pub seen_then : (one two three : Seen) → IsSeenLater one two → IsSeenLater two three → IsSeenLater one three
seen_then one two three first second = record { kept = λ d h. second.kept d (first.kept d h); apart = λ is. first.apart (second.apart is) }

pub met_apart : (node : Node) (one other : Hold) (seen : Seen) → HoldApart one other
    → HoldMeets node one other seen
met_apart node one other seen apart = record { settled = inl (inl apart); apart = λ is. apart }

pub met_meeting : (node : Node) (one other : Hold) (known : Option Meeting) (m : Meeting) (seen : Seen)
    → m.b ≡ other.op → IsEarlierMeeting known m seen.first → seen.apart ≡ false
    → HoldMeets node one other seen
met_meeting node one other known m seen with earlier not = record { settled = inr (subst (IsMeetingUpTo seen.first) with earlier.up_to); apart = λ is. absurd (false≢true (sym not ∙ is)) }

pub later_meeting : (before : Seen) (m : Meeting) (seen : Seen) → IsEarlierMeeting before.first m seen.first
    → seen.apart ≡ false → IsSeenLater before seen
later_meeting before m seen earlier not = record { kept = earlier.kept; apart = λ is. absurd (false≢true (sym not ∙ is)) }

pub met_decided : (node : Node) (one other : Hold) (first : Option Meeting)
    → Contains node.decisions (First one.op other.op) ⊎ Contains node.decisions (First other.op one.op)
    → HoldMeets node one other (record { first = first; apart = false })
met_decided node one other first decided = record { settled = inl (inr decided); apart = λ is. absurd (false≢true is) }

pub later_decided : (seen : Seen) → IsSeenLater seen (record { first = seen.first; apart = false })
later_decided seen = record { kept = λ d h. h; apart = λ is. absurd (false≢true is) }

pub found_meeting : (node : Node) (op : Op) (known : Option Meeting) (m : Meeting) (first : Option Meeting)
    → IsMeetingOf node op m → IsEarlierMeeting known m first → IfSome known (IsMeetingOf node op)
    → IfSome first (IsMeetingOf node op)
found_meeting node op known m first is earlier found = elim earlier.one [
  | inl same ↦ subst (λ (o : Option Meeting). IfSome o (IsMeetingOf node op)) (sym same) found
  | inr new ↦ subst (λ (o : Option Meeting). IfSome o (IsMeetingOf node op)) (sym new) is
]

abbrev both_hold : (node : Node) (resource : ℕ) (one other : Hold) → IsHold node resource one
    → IsHold node resource other → one.op.train < other.op.train → BothHold node one.op other.op
both_hold node resource one other is also trains = record {
  trains = trains;
  start = one.span.start;
  end = one.span.end;
  begin = other.span.start;
  over = other.span.end;
  first = is.span;
  second = also.span;
  resource = resource;
  release = one.release;
  other = other.release;
  lists = is.lists;
  also = also.lists;
}

pub overlapping : (node : Node) (resource : ℕ) (one other : Hold)
    → IsHold node resource one → IsHold node resource other → one.op.train < other.op.train
    → DoOverlap one other
    → IsMeetingOf node one.op (record { a = one.op; b = other.op; overlaps = true })
overlapping node resource one other is also trains overlaps = record {
  of = refl;
  overlap = λ said. record { both = both_hold node resource one other is also trains; early = overlaps.early; late = overlaps.late };
  touch = λ not. absurd (false≢true (sym not));
}

-- two that neither are apart nor overlap touch
pub touches : (node : Node) (resource : ℕ) (one other : Hold)
    → IsHold node resource one → IsHold node resource other → one.op.train < other.op.train
    → (HoldApart one other → ⊥) → (DoOverlap one other → ⊥)
    → (Contains node.decisions (First one.op other.op) → ⊥)
    → (Contains node.decisions (First other.op one.op) → ⊥)
    → IsMeetingOf node one.op (record { a = one.op; b = other.op; overlaps = false })
touches node resource one other is also trains not_apart not_overlap undecided back = record {
  of = refl;
  overlap = λ said. absurd (false≢true said);
  touch = λ not. record { both = both_hold node resource one other is also trains; meets = meets; undecided = undecided; undecided_back = back };
}
  where
    meets : ((one.span.end ≡ other.span.start) × (one.release ≡ 0)) ⊎ ((other.span.end ≡ one.span.start) × (other.release ≡ 0))
    meets = elim (cases_lt other.span.start (one.span.end + one.release)) [
      | inr past ↦ elim (cases_lt one.span.end other.span.start) [
        | inl lt ↦ absurd (not_apart (inl (record { ends = lt; released = past })))
        | inr le ↦ inl (omega (arith, past, le), omega (arith, past, le))
      ]
      | inl early ↦ elim (cases_lt one.span.start (other.span.end + other.release)) [
        | inl late ↦ absurd (not_overlap (record { early = early; late = late }))
        | inr past ↦ elim (cases_lt other.span.end one.span.start) [
          | inl lt ↦ absurd (not_apart (inr (record { ends = lt; released = past })))
          | inr le ↦ inr (omega (arith, past, le), omega (arith, past, le))
        ]
      ]
    ]

-- what a holder holds by the spans of a node
pub hold_is : (node : Node) (each : List (Vec Holder)) (spans : List (Option Span)) (r : ℕ) (list : Vec Holder) (y : Holder) (other : Hold)
    → AreSound node.problem each → AreSpanned node spans → slice_get each r ≡ Some list
    → Contains list.items y
    → hold_by spans y ≡ Some other → IsHold node r other
hold_is node each spans r list y other sound spanned at among holds = by (get_or spans y.number None) (spanned y.number y.op (record { there = of.there; number = of.number })) holds
  where
    of : IsHolderOf node.problem r y
    of = sound.holds r list y at among

    by : (found : Option Span) → IsSpanned node y.op found → option_map (hold_with y) found ≡ Some other
        → IsHold node r other
    by None runs held = absurd (none-some other held)
    by (Some s) runs held = subst (IsHold node r) (same_Some (hold_with y s) other held) (record { span = runs; lists = of.lists })

-- ---- the holders of a resource

pub met_none : (node : Node) (one : Hold) (spans : List (Option Span)) (seen : Seen)
    → HoldsMeet node one spans [] seen
met_none node one spans seen y other there = absurd (omega (arith, there.1))

met_later : (node : Node) (one other : Hold) (old new : Seen) → IsSeenLater old new
    → HoldMeets node one other old → HoldMeets node one other new
met_later node one other old new later met = record {
  settled = elim met.settled [ inl settled ↦ inl settled | inr up ↦ inr (later.kept other.op up) ];
  apart = λ is. met.apart (later.apart is);
}

pub met_more : (node : Node) (one : Hold) (spans : List (Option Span)) (before : List Holder) (h : Holder) (old new : Seen)
    → IsSeenLater old new → HoldsMeet node one spans before old
    → ((other : Hold) → one.op.train < h.op.train → hold_by spans h ≡ Some other → HoldMeets node one other new)
    → HoldsMeet node one spans (before ++ h ∷ []) new
met_more node one spans before h old new later was own y other there trains holds = elim (Contains-append_cases before (h ∷ []) y there) [
  | inl earlier ↦ met_later node one other old new later (was y other earlier trains holds)
  | inr last ↦
      let is : y ≡ h = alone_there y h last in
      own other (subst (λ (x : Holder). one.op.train < x.op.train) is trains) (subst (λ (x : Holder). hold_by spans x ≡ Some other) is holds)
]

-- ---- all that an operation lists

pub by_none : (node : Node) (each : List (Vec Holder)) (spans : List (Option Span)) (op : Op) (span : Span) (apart : Bool)
    → IsSeenBy node each spans op span [] (record { first = None; apart = apart })
by_none node each spans op span apart = record { found = tt; met = λ l list there at. absurd (omega (arith, there.1)) }

pub by_more : (node : Node) (each : List (Vec Holder)) (spans : List (Option Span)) (op : Op) (span : Span) (ls : List Listing) (l : Listing) (list : Vec Holder) (old new : Seen)
    → IsSeenLater old new → IfSome new.first (IsMeetingOf node op) → slice_get each l.resource ≡ Some list
    → HoldsMeet node (hold_on op span l) spans list.items new
    → IsSeenBy node each spans op span ls old → IsSeenBy node each spans op span (ls ++ l ∷ []) new
by_more node each spans op span ls l list old new later found at own was = record {
  found = found;
  met = λ k other there held. elim (Contains-append_cases ls (l ∷ []) k there) [
    | inl earlier ↦ λ y hold among trains holds. met_later node (hold_on op span k) hold old new later (was.met k other earlier held y hold among trains holds)
    | inr last ↦
        let is : k ≡ l = alone_there k l last in
        let same : other ≡ list = same_Some other list (sym held ∙ ap (λ (m : Listing). slice_get each m.resource) is ∙ at) in
        subst (λ (m : Listing). HoldsMeet node (hold_on op span m) spans other.items new) (sym is)
        (subst (λ (v : Vec Holder). HoldsMeet node (hold_on op span l) spans v.items new) (sym same) own)
  ];
}

-- ---- the operation of a number

pub apart_settled : (node : Node) (each : List (Vec Holder)) (spans : List (Option Span)) (n : ℕ)
    → StandsApart each spans n → StandsSettled node each spans n
apart_settled node each spans n apart r list x y one other at among_x among_y of_n trains holds_x holds_y = inl (apart r list x y one other at among_x among_y of_n trains holds_x holds_y)

pub none_settled : (node : Node) (each : List (Vec Holder)) (spans : List (Option Span)) (n : ℕ)
    → get_or spans n None ≡ None → StandsSettled node each spans n
none_settled node each spans n none r list x y one other at among_x among_y of_n trains holds_x holds_y =
    absurd (none-some one (sym (ap (option_map (hold_with x)) (ap (λ (k : ℕ). get_or spans k None) of_n ∙ none)) ∙ holds_x))

-- what was seen of the operation of a number
module _ (node : Node) (each : List (Vec Holder)) (spans : List (Option Span)) (n : ℕ) (op : Op)
    (span : Span) (seen : Seen) (sound : AreSound node.problem each)
    (is_at : IsAtNumber node.problem op n) (runs : get_or spans n None ≡ Some span)
    (is : IsSeenBy node each spans op span (listings_of node.problem op) seen) where
  -- it is seen of each of its holders
  pub met_at : (r : ℕ) (list : Vec Holder) (x y : Holder) (one other : Hold)
      → slice_get each r ≡ Some list → Contains list.items x → Contains list.items y
      → x.number ≡ n → x.op.train < y.op.train
      → hold_by spans x ≡ Some one → hold_by spans y ≡ Some other
      → HoldMeets node one other seen
  met_at r list x y one other at among_x among_y of_n trains holds_x holds_y =
      let of = sound.holds r list x at among_x in
      let same_op : x.op ≡ op = same_by_number node.problem x.op op of.there is_at.there (of.number ∙ of_n ∙ sym is_at.number) in
      let l = of.lists.0 in
      let there : Contains (listings_of node.problem op) l = subst (λ (o : Op). Contains (listings_of node.problem o) l) same_op of.lists.1 in
      let found : slice_get each l.resource ≡ Some list = ap (slice_get each) of.lists.2 ∙ at in
      let met = is.met l list there found y other among_y (subst (λ (o : Op). o.train < y.op.train) same_op trains) holds_y in
      let held : hold_with x span ≡ one = same_Some (hold_with x span) one (sym (ap (option_map (hold_with x)) (ap (λ (k : ℕ). get_or spans k None) of_n ∙ runs)) ∙ holds_x) in
      subst (λ (h : Hold). HoldMeets node h other seen) (ap (λ (o : Op). record { op = o; span = span; release = l.release }) (sym same_op) ∙ ap (λ (q : ℕ). record { op = x.op; span = span; release = q }) of.lists.3 ∙ held) met

  pub seen_settled : seen.first ≡ None → StandsSettled node each spans n
  seen_settled none r list x y one other at among_x among_y of_n trains holds_x holds_y =
      elim (met_at r list x y one other at among_x among_y of_n trains holds_x holds_y).settled [
        | inl settled ↦ settled
        | inr up ↦ absurd (subst (λ (o : Option Meeting). IsMeetingUpTo o other.op) none up)
      ]

  pub seen_apart : seen.apart ≡ true → StandsApart each spans n
  seen_apart apart r list x y one other at among_x among_y of_n trains holds_x holds_y =
      (met_at r list x y one other at among_x among_y of_n trains holds_x holds_y).apart apart
