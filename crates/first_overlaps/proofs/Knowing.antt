-- What is known of spans stays true when an operation runs at another time.
use Rattle.std.proofs.Common.{◌≡◌, ◌≢◌, ◌∙◌, ℕ, ◌+◌, ◌^◌, ◌<◌, ◌≤◌, List, [], ◌∷◌, ◌++◌, length, set, get_or, Option, Some, None, Bool, true, false, not, refl, sym, ap, subst, arith, inl, inr}
use Rattle.std.specs.Prelude.{Contains, slice_get}
use Rattle.std.specs.Option.{option_map, is_some, MatchOption}
use Rattle.std.specs.Global.{Vec}
use Rattle.std.proofs.lemmas.Bool.{cases_eq, false≢true}
use Rattle.std.proofs.lemmas.Option.{same_Some, none-some}
use Rattle.std.proofs.lemmas.List.{get_or-set_same, get_or-set_other}
use Rattle.std.proofs.lemmas.List.Elements.{Contains-append_cases}
use Rattle.disp_model.specs.declared.train.Op.{Op}
use Rattle.disp_model.specs.declared.train.Listing.{Listing}
use Rattle.disp_model.specs.declared.problem.Problem.{Problem}
use Rattle.disp_model.specs.WellFormed.{operation_count}
use Rattle.disp_model.specs.Node.{Node}
use Rattle.disp_model.specs.Routes.{IsForced}
use Rattle.disp_model.specs.Arcs.{listings_of}
use Rattle.disp_laws.proofs.Numbered.{below_count}
use Rattle.event_arcs.proofs.Numbering.{same_by_number}
use Rattle.event_windows.specs.Operations.{IsAtNumber}
use Rattle.first_overlaps.specs.declared.span.Span.{Span}
use Rattle.first_overlaps.specs.declared.hold.Hold.{Hold}
use Rattle.first_overlaps.specs.declared.holder.Holder.{Holder}
use Rattle.first_overlaps.specs.Spans.{IsSpanOf}
use Rattle.first_overlaps.specs.Holders.{AreSound}
use Rattle.first_overlaps.specs.Holds.{HoldApart, hold_with, hold_on, hold_by, StandsApart, AreKnownApart, IsSpanned, AreSpannedBelow, AreSpanned, NoneMore, AreParted, AreAllParted}
use Rattle.first_overlaps.proofs.Holding.{alone_there}

-- ---- words that are taken back

pub none_more : (apart : List Bool) → NoneMore apart apart
none_more apart n is = is

pub fewer_then : (before middle after : List Bool) → NoneMore before middle → NoneMore middle after
    → NoneMore before after
fewer_then before middle after one two n is = one n (two n is)

pub word_is : (apart : List Bool) (n : ℕ) (word : Bool) → n < length apart
    → get_or (set apart n word) n false ≡ true → word ≡ true
word_is apart n word lt is = sym (get_or-set_same apart n word false lt) ∙ is

pub word_kept : (apart : List Bool) (n : ℕ) (word : Bool) → n < length apart
    → (word ≡ true → get_or apart n false ≡ true) → NoneMore apart (set apart n word)
word_kept apart n word lt was m is = elim (cases_eq m n) [
  | inl same ↦ ap (λ (k : ℕ). get_or apart k false) same ∙ was (word_is apart n word lt (ap (λ (k : ℕ). get_or (set apart n word) k false) (sym same) ∙ is))
  | inr other ↦ sym (get_or-set_other apart n m word false other) ∙ is
]

-- ---- the holders of a resource

pub parted_none : (spans : List (Option Span)) (hold : Hold) (apart : List Bool)
    → AreParted [] spans hold apart
parted_none spans hold apart x other there trains holds word = absurd (omega (arith, there.1))

pub parted_more : (before : List Holder) (h : Holder) (spans : List (Option Span)) (hold : Hold) (old new : List Bool)
    → NoneMore old new → AreParted before spans hold old
    → ((other : Hold) → h.op.train < hold.op.train → hold_by spans h ≡ Some other → get_or new h.number false ≡ true → HoldApart other hold)
    → AreParted (before ++ h ∷ []) spans hold new
parted_more before h spans hold old new fewer was own x other there trains holds word = elim (Contains-append_cases before (h ∷ []) x there) [
  | inl earlier ↦ was x other earlier trains holds (fewer x.number word)
  | inr last ↦
      let is : x ≡ h = alone_there x h last in
      own other (subst (λ (y : Holder). y.op.train < hold.op.train) is trains) (subst (λ (y : Holder). hold_by spans y ≡ Some other) is holds) (subst (λ (y : Holder). get_or new y.number false ≡ true) is word)
]

-- ---- all that an operation lists

pub all_none : (each : List (Vec Holder)) (spans : List (Option Span)) (op : Op) (span : Span) (apart : List Bool)
    → AreAllParted each spans op span [] apart
all_none each spans op span apart l list there at = absurd (omega (arith, there.1))

pub all_more : (each : List (Vec Holder)) (spans : List (Option Span)) (op : Op) (span : Span) (ls : List Listing) (l : Listing) (list : Vec Holder) (old new : List Bool)
    → NoneMore old new → slice_get each l.resource ≡ Some list
    → AreParted list.items spans (hold_on op span l) new
    → AreAllParted each spans op span ls old → AreAllParted each spans op span (ls ++ l ∷ []) new
all_more each spans op span ls l list old new fewer at own was k other there found = elim (Contains-append_cases ls (l ∷ []) k there) [
  | inl earlier ↦ λ x one among trains holds word. was k other earlier found x one among trains holds (fewer x.number word)
  | inr last ↦
      let is : k ≡ l = alone_there k l last in
      let same : other ≡ list = same_Some other list (sym found ∙ ap (λ (m : Listing). slice_get each m.resource) is ∙ at) in
      subst (λ (m : Listing). AreParted other.items spans (hold_on op span m) new) (sym is)
      (subst (λ (v : Vec Holder). AreParted v.items spans (hold_on op span l) new) (sym same) own)
]

-- ---- an operation that runs so from now on

pub noted : (problem : Problem) (each : List (Vec Holder)) (spans : List (Option Span)) (old words : List Bool) (n : ℕ) (op : Op) (span : Option Span) (word : Bool)
    → AreSound problem each → n < length spans → n < length words → IsAtNumber problem op n
    → NoneMore old words → (word ≡ true → span ≡ None)
    → ((s : Span) → span ≡ Some s → AreAllParted each spans op s (listings_of problem op) words)
    → AreKnownApart each spans old → AreKnownApart each (set spans n span) (set words n word)
noted problem each spans old words n op span word sound lt within is_at fewer empty parted known m is r list x y one other at among_x among_y of_m trains holds_x holds_y = elim (cases_eq m n) [
  | inl same ↦
      let said : word ≡ true = sym (get_or-set_same words n word false within) ∙ ap (λ (k : ℕ). get_or (set words n word) k false) (sym same) ∙ is in
      let held : option_map (hold_with x) span ≡ Some one = sym (ap (option_map (hold_with x)) (own x (of_m ∙ same))) ∙ holds_x in
      absurd (none-some one (sym (ap (option_map (hold_with x)) (empty said)) ∙ held))
  | inr apart ↦
      let word_m : get_or words m false ≡ true = sym (get_or-set_other words n m word false apart) ∙ is in
      let held_x : hold_by spans x ≡ Some one = sym (ap (option_map (hold_with x)) (others x (λ e. apart (sym of_m ∙ e)))) ∙ holds_x in
      elim (cases_eq y.number n) [
        | inr aside ↦ known m (fewer m word_m) r list x y one other at among_x among_y of_m trains held_x (sym (ap (option_map (hold_with y)) (others y aside)) ∙ holds_y)
        | inl here ↦ by span refl (sym (ap (option_map (hold_with y)) (own y here)) ∙ holds_y) here held_x (ap (λ (k : ℕ). get_or words k false) of_m ∙ word_m)
      ]
]
  where
    own : (z : Holder) → z.number ≡ n → get_or (set spans n span) z.number None ≡ span
    own z same = ap (λ (k : ℕ). get_or (set spans n span) k None) same ∙ get_or-set_same spans n span None lt

    others : (z : Holder) → z.number ≢ n
        → get_or (set spans n span) z.number None ≡ get_or spans z.number None
    others z other = get_or-set_other spans n z.number span None other

    by : (found : Option Span) → span ≡ found → option_map (hold_with y) found ≡ Some other → y.number ≡ n
        → hold_by spans x ≡ Some one → get_or words x.number false ≡ true → HoldApart one other
    by None none held here held_x word_x = absurd (none-some other held)
    by (Some s) some held here held_x word_x =
        let of = sound.holds r list y at among_y in
        let same_op : y.op ≡ op = same_by_number problem y.op op of.there is_at.there (of.number ∙ here ∙ sym is_at.number) in
        let l = of.lists.0 in
        let there : Contains (listings_of problem op) l = subst (λ (o : Op). Contains (listings_of problem o) l) same_op of.lists.1 in
        let found : slice_get each l.resource ≡ Some list = ap (slice_get each) of.lists.2 ∙ at in
        let apart = parted s some l list there found x one among_x (subst (λ (o : Op). x.op.train < o.train) same_op trains) held_x word_x in
        let is_other : hold_with y s ≡ other = same_Some (hold_with y s) other held in
        subst (HoldApart one) (ap (λ (o : Op). record { op = o; span = s; release = l.release }) (sym same_op) ∙ ap (λ (q : ℕ). record { op = y.op; span = s; release = q }) of.lists.3 ∙ is_other) apart

pub none_where : (span : Option Span) (word : Bool) → is_some span ≡ not word → word ≡ true → span ≡ None
none_where None word is said = refl
none_where (Some s) word is said = absurd (false≢true (sym (is ∙ ap not said)))

-- a word on an operation that is apart
pub word_set : (each : List (Vec Holder)) (spans : List (Option Span)) (apart : List Bool) (n : ℕ) (word : Bool)
    → n < length apart → (word ≡ true → StandsApart each spans n) → AreKnownApart each spans apart
    → AreKnownApart each spans (set apart n word)
word_set each spans apart n word lt stands known m is = elim (cases_eq m n) [
  | inl same ↦ subst (StandsApart each spans) (sym same) (stands (word_is apart n word lt (ap (λ (k : ℕ). get_or (set apart n word) k false) (sym same) ∙ is)))
  | inr other ↦ known m (sym (get_or-set_other apart n m word false other) ∙ is)
]

-- ---- when operations run

pub spanned_from : (node : Node) (o : Op) (found : Option Span)
    → MatchOption found (IsForced node o → ⊥) (λ s. IsSpanOf node o s.start s.end × (s.end < 2 ^ 54))
    → IsSpanned node o found
spanned_from node o None not = not
spanned_from node o (Some s) is = is.0

pub spanned_more : (node : Node) (n : ℕ) (op : Op) (found : Option Span) (old new : List (Option Span))
    → IsAtNumber node.problem op n → IsSpanned node op found → get_or new n None ≡ found
    → ((m : ℕ) → m ≢ n → get_or new m None ≡ get_or old m None) → AreSpannedBelow node n old
    → AreSpannedBelow node (n + 1) new
spanned_more node n op found old new is_at is own others was m o lt at = elim (cases_eq m n) [
  | inl same ↦
      let same_op : o ≡ op = same_by_number node.problem o op at.there is_at.there (at.number ∙ same ∙ sym is_at.number) in
      subst (IsSpanned node o) (sym (ap (λ (k : ℕ). get_or new k None) same ∙ own)) (subst (λ (p : Op). IsSpanned node p found) (sym same_op) is)
  | inr other ↦ subst (IsSpanned node o) (sym (others m other)) (was m o (omega (arith, lt, other)) at)
]

pub all_spanned : (node : Node) (count : ℕ) (spans : List (Option Span))
    → operation_count node.problem.trains ≤ count → AreSpannedBelow node count spans → AreSpanned node spans
all_spanned node count spans le was n o at = was n o (let lt = below_count node.problem o at.there.train at.there.op in omega (arith, lt, at.number, le)) at
