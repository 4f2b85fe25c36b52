-- What is found is the first overlap, and where all are settled no order is open.
use Rattle.std.proofs.Common.{◌≡◌, ◌∙◌, ℕ, zero, suc, ◌+◌, ◌<◌, List, [], ◌∷◌, length, get_or, take, Option, Some, None, refl, sym, ap, subst, arith, inl, inr}
use Rattle.std.specs.Prelude.{Contains, slice_get, sum_by, IfSome, ◌≤◌, ◌⊎◌}
use Rattle.std.specs.Option.{option_map}
use Rattle.std.specs.Global.{Vec}
use Rattle.std.proofs.lemmas.Bool.{cases_lt}
use Rattle.std.proofs.lemmas.Option.{same_Some, none-some}
use Rattle.std.proofs.lemmas.List.Sums.{sum_by-cons}
use Rattle.disp_model.specs.declared.train.Op.{Op}
use Rattle.disp_model.specs.declared.train.Listing.{Listing}
use Rattle.disp_model.specs.declared.train.Operation.{Operation}
use Rattle.disp_model.specs.declared.decision.Decision.TheVariants.{First}
use Rattle.disp_model.specs.declared.problem.Problem.{Problem}
use Rattle.disp_model.specs.Numbers.{number_of}
use Rattle.disp_model.specs.Node.{Node}
use Rattle.disp_model.specs.Routes.{IsForced}
use Rattle.disp_model.specs.Arcs.{listings_of}
use Rattle.disp_model.specs.Walks.{HasCycle}
use Rattle.disp_model.specs.Choices.{IsOpenOrder}
use Rattle.disp_model.specs.Earliest.{IsBelow, IsPairUpTo}
use Rattle.disp_laws.proofs.Clashes.{up_to_or_back}
use Rattle.event_windows.specs.Operations.{HasOperation, IsAtNumber}
use Rattle.event_arcs.proofs.Numbering.{forced_is_op}
use Rattle.first_overlaps.specs.declared.span.Span.{Span}
use Rattle.first_overlaps.specs.declared.hold.Hold.{Hold}
use Rattle.first_overlaps.specs.declared.holder.Holder.{Holder}
use Rattle.first_overlaps.specs.declared.meeting.Meeting.{Meeting}
use Rattle.first_overlaps.specs.declared.seen.Seen.{Seen}
use Rattle.first_overlaps.specs.Spans.{IsSpanOf, NoneOpen}
use Rattle.first_overlaps.specs.Holders.{AreHoldersOf}
use Rattle.first_overlaps.specs.Holds.{AreSettled, hold_with, hold_by, IsSpanned, AreSpanned, NoLater, IsMeetingUpTo, IsMeetingOf, IsSeenBy, StandsSettled, IsFirstMeeting, IsLookAt}
use Rattle.first_overlaps.proofs.Settling.{AreShared, AreApartOn, not_open}
use Rattle.first_overlaps.proofs.Seeing.{met_at, seen_settled}

-- ---- an operation that comes before another has a lower number

below_in : (trains : List (List Operation)) (t o u p : ℕ) → o < length (get_or trains t []) → t < u
    → t < length trains
    → sum_by (λ train. length train) (take t trains) + o < sum_by (λ train. length train) (take u trains) + p
below_in [] t o u p inside lt there = absurd (omega (arith, there))
below_in (train ∷ trains) t o zero p inside lt there = absurd (omega (arith, lt))
below_in (train ∷ trains) zero o (suc u) p inside lt there = let more = sum_by-cons (λ (l : List Operation). length l) train (take u trains) in omega (arith, more, inside)
below_in (train ∷ trains) (suc t) o (suc u) p inside lt there =
    let one = sum_by-cons (λ (l : List Operation). length l) train (take t trains) in
    let other = sum_by-cons (λ (l : List Operation). length l) train (take u trains) in
    omega (arith, one, other, below_in trains t o u p inside (omega (arith, lt)) (omega (arith, there)))

below_number : (problem : Problem) (c a : Op) → HasOperation problem c → IsBelow c a
    → number_of problem c < number_of problem a
below_number problem c a has (inl lt) = below_in problem.trains c.train c.op a.train a.op has.op lt has.train
below_number problem c a has (inr same) = omega (arith, ap (λ (t : ℕ). sum_by (λ (train : List Operation). length train) (take t problem.trains)) same.0, same.1)

-- ---- no order is open of two that are settled

-- of each resource that both list
abbrev SettledOn : Node → List (Vec Holder) → List (Option Span) → Op → Op → Type 0
SettledOn node each spans c d = (r : ℕ) (list : Vec Holder) (x y : Holder) (one other : Hold) → slice_get each r ≡ Some list → Contains list.items x → Contains list.items y
    → x.op ≡ c → y.op ≡ d → hold_by spans x ≡ Some one → hold_by spans y ≡ Some other
    → AreSettled node one other

span_there : (node : Node) (o : Op) (found : Option Span) → IsForced node o → IsSpanned node o found
    → (s : Span) × (found ≡ Some s) × IsSpanOf node o s.start s.end
span_there node o None forced not = absurd (not forced)
span_there node o (Some s) forced is = (s, refl, is)

settled_not_open : (node : Node) (each : List (Vec Holder)) (spans : List (Option Span)) (c d : Op)
    → (HasCycle node → ⊥) → AreHoldersOf node.problem each → AreSpanned node spans
    → SettledOn node each spans c d → IsOpenOrder node c d → ⊥
settled_not_open node each spans c d no_cycle holders spanned settled opened =
    not_open node c d one.0.start one.0.end two.0.start two.0.end no_cycle one.2 two.2 apart opened
  where
    has_c : HasOperation node.problem c
    has_c = forced_is_op node c opened.from_forced

    has_d : HasOperation node.problem d
    has_d = forced_is_op node d opened.to_forced

    one : (s : Span) × (get_or spans (number_of node.problem c) None ≡ Some s) × IsSpanOf node c s.start s.end
    one = span_there node c (get_or spans (number_of node.problem c) None) opened.from_forced (spanned (number_of node.problem c) c (record { there = has_c; number = refl }))

    two : (s : Span) × (get_or spans (number_of node.problem d) None ≡ Some s) × IsSpanOf node d s.start s.end
    two = span_there node d (get_or spans (number_of node.problem d) None) opened.to_forced (spanned (number_of node.problem d) d (record { there = has_d; number = refl }))

    -- what a holder of an operation holds
    held : (o : Op) (s : Span) (r : ℕ) (list : Vec Holder) (x : Holder)
        → get_or spans (number_of node.problem o) None ≡ Some s → slice_get each r ≡ Some list
        → Contains list.items x → x.op ≡ o → hold_by spans x ≡ Some (hold_with x s)
    held o s r list x runs at among of =
        let number = (holders.sound.holds r list x at among).number in
        ap (option_map (hold_with x)) (ap (λ (k : ℕ). get_or spans k None) (sym number ∙ ap (number_of node.problem) of) ∙ runs)

    apart : (l k : Listing) → AreShared (listings_of node.problem c) (listings_of node.problem d) l k
        → AreApartOn one.0.start one.0.end two.0.start two.0.end l k
    apart l k shared =
        let first = holders.there c l has_c shared.of_own in
        let second = holders.there d k has_d shared.of_others in
        let same : second.list ≡ first.list = same_Some second.list first.list (sym second.at ∙ ap (slice_get each) shared.same ∙ first.at) in
        let among = subst (λ (v : Vec Holder). Contains v.items second.holder) same second.among in
        let x = first.holder in
        let y = second.holder in
        record {
          apart = by x y first.release second.release
              (settled l.resource first.list x y (hold_with x one.0) (hold_with y two.0) first.at first.among among first.of second.of
              (held c one.0 l.resource first.list x one.1 first.at first.among first.of) (held d two.0 l.resource first.list y two.1 first.at among second.of)) first.of second.of;
        }
      where
        by : (x y : Holder) → x.release ≡ l.release → y.release ≡ k.release
            → AreSettled node (hold_with x one.0) (hold_with y two.0) → x.op ≡ c → y.op ≡ d
            → ((one.0.end < two.0.start) × (one.0.end + l.release ≤ two.0.start)) ⊎ ((two.0.end < one.0.start) × (two.0.end + k.release ≤ one.0.start))
        by x y own other (inl (inl before)) of_c of_d = inl (before.ends, omega (arith, before.released, own))
        by x y own other (inl (inr before)) of_c of_d = inr (before.ends, omega (arith, before.released, other))
        by x y own other (inr (inl there)) of_c of_d = absurd (opened.undecided (subst (λ (o : Op). Contains node.decisions (First o d)) of_c (subst (λ (o : Op). Contains node.decisions (First x.op o)) of_d there)))
        by x y own other (inr (inr there)) of_c of_d = absurd (opened.undecided_back (subst (λ (o : Op). Contains node.decisions (First d o)) of_c (subst (λ (o : Op). Contains node.decisions (First o x.op)) of_d there)))

-- where the first of them is settled with all of later trains
passed_not_open : (node : Node) (each : List (Vec Holder)) (spans : List (Option Span)) (c d : Op)
    → (HasCycle node → ⊥) → AreHoldersOf node.problem each → AreSpanned node spans
    → StandsSettled node each spans (number_of node.problem c) → IsOpenOrder node c d → ⊥
passed_not_open node each spans c d no_cycle holders spanned passed opened = settled_not_open node each spans c d no_cycle holders spanned
    (λ r list x y one other at among_x among_y of_c of_d holds_x holds_y. passed r list x y one other at among_x among_y
    (sym (holders.sound.holds r list x at among_x).number ∙ ap (number_of node.problem) of_c) (omega (arith, opened.trains, ap (λ (o : Op). o.train) of_c, ap (λ (o : Op). o.train) of_d)) holds_x holds_y) opened

pub all_passed : (node : Node) (each : List (Vec Holder)) (spans : List (Option Span)) (count : ℕ)
    → (HasCycle node → ⊥) → AreHoldersOf node.problem each → AreSpanned node spans
    → ((o : Op) → HasOperation node.problem o → number_of node.problem o < count)
    → ((n : ℕ) → n < count → StandsSettled node each spans n) → NoneOpen node
all_passed node each spans count no_cycle holders spanned below passed c d opened =
    passed_not_open node each spans c d no_cycle holders spanned (passed (number_of node.problem c) (below c (forced_is_op node c opened.from_forced))) opened

-- ---- the first one that is found

not_after : (one two : Op) → IsBelow two one → NoLater one two → ⊥
not_after one two (inl lt) (inl more) = omega (arith, lt, more)
not_after one two (inl lt) (inr more) = omega (arith, lt, more.0)
not_after one two (inr lt) (inl more) = omega (arith, lt.0, more)
not_after one two (inr lt) (inr more) = omega (arith, lt.1, more.1)

held_op : (y : Holder) (other : Hold) (o : Op) (found : Option Span) → y.op ≡ o
    → option_map (hold_with y) found ≡ Some other → other.op ≡ o
held_op y other o None of holds = absurd (none-some other holds)
held_op y other o (Some s) of some = ap (λ (h : Hold). h.op) (sym (same_Some (hold_with y s) other some)) ∙ of

pub first_is : (node : Node) (each : List (Vec Holder)) (spans : List (Option Span)) (n : ℕ) (op : Op) (span : Span) (seen : Seen) (m : Meeting)
    → (HasCycle node → ⊥) → AreHoldersOf node.problem each → AreSpanned node spans
    → IsAtNumber node.problem op n → get_or spans n None ≡ Some span
    → ((k : ℕ) → k < n → StandsSettled node each spans k)
    → IsSeenBy node each spans op span (listings_of node.problem op) seen → seen.first ≡ Some m
    → IsFirstMeeting node m
first_is node each spans n op span seen m no_cycle holders spanned is_at runs passed is some = record {
  overlap = found.overlap;
  touch = found.touch;
  first = λ c d opened. elim (up_to_or_back m.a m.b c d) [ inl up ↦ up | inr back ↦ by c d opened back ];
}
  where
    found : IsMeetingOf node op m
    found = subst (λ (o : Option Meeting). IfSome o (IsMeetingOf node op)) some is.found

    by : (c d : Op) → IsOpenOrder node c d → IsPairUpTo c d m.a m.b → IsPairUpTo m.a m.b c d
    by c d opened (inr (same, inr also)) = inr (sym same, inr (sym also))
    by c d opened (inl below) =
        let lt = below_number node.problem c m.a (forced_is_op node c opened.from_forced) below in
        let is_n : number_of node.problem m.a ≡ n = ap (number_of node.problem) found.of ∙ is_at.number in
        absurd (passed_not_open node each spans c d no_cycle holders spanned (passed (number_of node.problem c) (omega (arith, lt, is_n))) opened)
    by c d opened (inr (same, inl below)) = absurd (settled_not_open node each spans c d no_cycle holders spanned settled opened)
      where
        settled : SettledOn node each spans c d
        settled r list x y one other at among_x among_y of_c of_d holds_x holds_y =
            let of_n : x.number ≡ n = sym (holders.sound.holds r list x at among_x).number ∙ ap (number_of node.problem) (of_c ∙ same ∙ found.of) ∙ is_at.number in
            let trains : x.op.train < y.op.train = omega (arith, opened.trains, ap (λ (o : Op). o.train) of_c, ap (λ (o : Op). o.train) of_d) in
            elim (met_at node each spans n op span seen holders.sound is_at runs is r list x y one other at among_x among_y of_n trains holds_x holds_y).settled [
              | inl clear ↦ clear
              | inr up ↦ absurd (not_after m.b d below (subst (NoLater m.b) (held_op y other d (get_or spans y.number None) of_d holds_y) (subst (λ (o : Option Meeting). IsMeetingUpTo o other.op) some up)))
            ]

-- what a look at the operation of a number comes to
pub found_at : (node : Node) (each : List (Vec Holder)) (spans : List (Option Span)) (n : ℕ) (op : Op) (span : Span) (seen : Seen)
    → (HasCycle node → ⊥) → AreHoldersOf node.problem each → AreSpanned node spans
    → IsAtNumber node.problem op n → get_or spans n None ≡ Some span
    → IsSeenBy node each spans op span (listings_of node.problem op) seen
    → IsLookAt node each spans n seen.first
found_at node each spans n op span seen no_cycle holders spanned is_at runs is = by seen.first refl
  where
    by : (found : Option Meeting) → seen.first ≡ found → IsLookAt node each spans n found
    by None none = seen_settled node each spans n op span seen holders.sound is_at runs is none
    by (Some m) some = λ passed. first_is node each spans n op span seen m no_cycle holders spanned is_at runs passed is some

-- an operation more is settled
pub settled_more : (node : Node) (each : List (Vec Holder)) (spans : List (Option Span)) (n : ℕ) (found : Option Meeting)
    → found ≡ None → IsLookAt node each spans n found → ((m : ℕ) → m < n → StandsSettled node each spans m)
    → (m : ℕ) → m < n + 1 → StandsSettled node each spans m
settled_more node each spans n found none is was m lt = elim (cases_lt m n) [
  | inl before ↦ was m before
  | inr ge ↦ subst (StandsSettled node each spans) (let same : n ≡ m = omega (arith, lt, ge) in same) (subst (IsLookAt node each spans n) none is)
]
