-- The first pair that clashes, from the last event to the first.
use Rattle.std.proofs.Common.{◌≡◌, ◌≢◌, ◌∙◌, ℕ, zero, suc, ◌+◌, ◌<◌, ◌≤◌, List, [], ◌∷◌, ◌++◌, length, get_or, drop, Option, Some, None, refl, sym, ap, subst, inl, inr, arith}
use Rattle.std.specs.List.{Any}
use Rattle.std.specs.Prelude.{slice_get, Contains, ◌⊎◌, IfSome, MatchOption}
use Rattle.std.proofs.lemmas.Bool.{cases_lt}
use Rattle.std.proofs.lemmas.Option.{same_Some, slice_get_within}
use Rattle.std.proofs.lemmas.List.{drop_more, drop_all, get_or_default}
use Rattle.std.proofs.lemmas.List.Elements.{Contains-append_cases}
use Rattle.disp_model.specs.declared.train.Op.{Op}
use Rattle.disp_model.specs.declared.train.Listing.{Listing}
use Rattle.disp_model.specs.declared.plan.Event.{Event}
use Rattle.disp_model.specs.declared.problem.Problem.{Problem}
use Rattle.disp_model.specs.Plan.{Ending, end_of}
use Rattle.disp_model.specs.Valid.{IsReleased, KeepApart}
use Rattle.disp_model.specs.Routes.{Starts}
use Rattle.disp_model.specs.Arcs.{listings_of}
use Rattle.disp_model.specs.Earliest.{op_of, Clash, IsBelow}
use Rattle.disp_laws.proofs.Picked.{same_op}
use Rattle.disp_laws.proofs.RouteSearch.{Decided, both, either}
use Rattle.disp_laws.proofs.LeavesDecided.{le_or_not, lt_or_not}
use Rattle.disp_laws.proofs.Clashes.{below_or_not}
use Rattle.disp_laws.proofs.LongestArcs.{same_op_or_not}
use Rattle.branch_rules.specs.declared.pair.Pair.{Pair}
use Rattle.branch_rules.specs.Pairs.{RiseAlong, IsPairOf, IsUpTo, IsEarlier, AreClashing, IsFirstPair, NoneClash}
use Rattle.branch_rules.specs.Behind.{Lists, AreFalling, ArePlacesOf, IsTriedOn, IsFirstFrom, IsFirstWith}
use Rattle.branch_rules.proofs.Ending.{apart_from, released_from}

-- ---- the events of a clash

event_is : (plan : List Event) (i k : ℕ) (e g : Event) → slice_get plan i ≡ Some e → slice_get plan k ≡ Some g → k ≡ i → g ≡ e
event_is plan i k e g at there same = same_Some g e (sym there ∙ ap (slice_get plan) same ∙ at)

-- a clash of the event at a place says that it does not keep apart from the later one
not_apart_at : (problem : Problem) (plan : List Event) (a b : Op) (c : Clash problem plan a b) (i : ℕ) (e : Event) → slice_get plan i ≡ Some e → c.i ≡ i → KeepApart problem plan i e c.j c.later → ⊥
not_apart_at problem plan a b c i e at one keep =
    c.not_apart (subst (λ (n : ℕ). KeepApart problem plan n c.earlier c.j c.later) (sym one) (subst (λ (x : Event). KeepApart problem plan i x c.j c.later) (sym (event_is plan i c.i e c.earlier at c.earlier_there one)) keep))

names_at : (problem : Problem) (plan : List Event) (a b : Op) (c : Clash problem plan a b) (i : ℕ) (e : Event) → slice_get plan i ≡ Some e → c.i ≡ i → (Starts a e × Starts b c.later) ⊎ (Starts b e × Starts a c.later)
names_at problem plan a b c i e at one = subst (λ (x : Event). (Starts a x × Starts b c.later) ⊎ (Starts b x × Starts a c.later)) (event_is plan i c.i e c.earlier at c.earlier_there one) c.names

-- two pairs of the same events are the same
same_pair : (e f : Event) (pair other : Pair) → IsPairOf e f pair → IsPairOf e f other → (pair.a ≡ other.a) × (pair.b ≡ other.b)
same_pair e f pair other is also = by is.names also.names
  where
    by : (Starts pair.a e × Starts pair.b f) ⊎ (Starts pair.b e × Starts pair.a f) → (Starts other.a e × Starts other.b f) ⊎ (Starts other.b e × Starts other.a f) → (pair.a ≡ other.a) × (pair.b ≡ other.b)
    by (inl one) (inl two) = (sym (same_op pair.a e one.0) ∙ same_op other.a e two.0, sym (same_op pair.b f one.1) ∙ same_op other.b f two.1)
    by (inr one) (inr two) = (sym (same_op pair.a f one.1) ∙ same_op other.a f two.1, sym (same_op pair.b e one.0) ∙ same_op other.b e two.0)
    by (inl one) (inr two) = absurd (omega (arith, is.trains, also.trains, one.0.train, one.1.train, two.0.train, two.1.train))
    by (inr one) (inl two) = absurd (omega (arith, is.trains, also.trains, one.0.train, one.1.train, two.0.train, two.1.train))

of_two_trains : (e f : Event) (pair : Pair) → IsPairOf e f pair → e.train ≢ f.train
of_two_trains e f pair is same = by is.names
  where
    by : (Starts pair.a e × Starts pair.b f) ⊎ (Starts pair.b e × Starts pair.a f) → ⊥
    by (inl names) = omega (arith, is.trains, names.0.train, names.1.train, same)
    by (inr names) = omega (arith, is.trains, names.0.train, names.1.train, same)

-- ---- whether a pair comes no later is decided

up_to_or_not : (first : Option Pair) (a b : Op) → Decided (IsUpTo first a b)
up_to_or_not None a b = inr (λ h. h)
up_to_or_not (Some pair) a b = either (below_or_not pair.a a) (both (same_op_or_not pair.a a) (either (below_or_not pair.b b) (same_op_or_not pair.b b)))

released_or_not : (end : Ending) (l : Listing) (j : ℕ) (f : Event) → Decided (IsReleased end l j f)
released_or_not end l j f = elim (both (lt_or_not end.position j) (le_or_not (end.time + l.release) f.time)) [
  | inl is ↦ inl (record { position = is.0; time = is.1 })
  | inr not ↦ inr (λ is. not (is.position, is.time))
]

-- ---- a holder with the events at places

tried_none : (plan : List Event) (e : Event) (l : Listing) (end : Ending) (known : Option Pair) → IsTriedOn plan [] e l end known known
tried_none plan e l end known = record { kept = λ c d up. up; one = inl refl; each = λ j f pair there at not of. absurd (nothing there) }
  where
    nothing : {j : ℕ} → Contains [] j → ⊥
    nothing (k, lt, same) = omega (arith, lt)

-- at the front of places stands one more
front : (p j : ℕ) (places : List ℕ) → Contains (p ∷ places) j → (j ≡ p) ⊎ Contains places j
front p j places (zero, lt, same) = inl (sym same)
front p j places (suc k, lt, same) = inr (k, omega (arith, lt), same)

behind_front : (p j : ℕ) (places : List ℕ) → Contains places j → Contains (p ∷ places) j
behind_front p j places (k, lt, same) = (suc k, omega (arith, lt), same)

abbrev pub TriedFrom : List Event → List ℕ → ℕ → Event → Listing → Ending → Option Pair → Option Pair → Type 0
TriedFrom plan places n e l end known first = IsTriedOn plan (drop n places) e l end known first

with_front : (plan : List Event) (places : List ℕ) (n : ℕ) (e : Event) (l : Listing) (end : Ending) (known first : Option Pair) → n < length places → IsTriedOn plan (get_or places n 0 ∷ drop (n + 1) places) e l end known first → TriedFrom plan places n e l end known first
with_front plan places n e l end known first lt is = subst (λ (ps : List ℕ). IsTriedOn plan ps e l end known first) (sym (drop_more places n 0 lt)) is

pub tried_begun : (plan : List Event) (places : List ℕ) (n : ℕ) (e : Event) (l : Listing) (end : Ending) (known : Option Pair) → length places ≤ n → TriedFrom plan places n e l end known known
tried_begun plan places n e l end known le = subst (λ (ps : List ℕ). IsTriedOn plan ps e l end known known) (sym (drop_all n places le)) (tried_none plan e l end known)

-- an event of the same train
pub tried_same : (plan : List Event) (places : List ℕ) (n : ℕ) (e f : Event) (l : Listing) (end : Ending) (known first : Option Pair) → n < length places → slice_get plan (get_or places n 0) ≡ Some f → f.train ≡ e.train → TriedFrom plan places (n + 1) e l end known first
    → TriedFrom plan places n e l end known first
tried_same plan places n e f l end known first lt at same was = with_front plan places n e l end known first lt (record {
  kept = was.kept;
  one = elim was.one [
    | inl stays ↦ inl stays
    | inr found ↦ inr (found.0, found.1, found.2, behind_front (get_or places n 0) found.0 (drop (n + 1) places) found.3, found.4, found.5, found.6, found.7, found.8)
  ];
  each = λ j g pair there also not of. elim (front (get_or places n 0) j (drop (n + 1) places) there) [
    | inl here ↦ absurd (of_two_trains e g pair of (sym same ∙ ap (λ (x : Event). x.train) (same_Some f g (sym at ∙ ap (slice_get plan) (sym here) ∙ also))))
    | inr later ↦ was.each j g pair later also not of
  ];
})

-- an event of another train for which the listing is not released
pub tried_more : (plan : List Event) (places : List ℕ) (n : ℕ) (e f : Event) (l : Listing) (end : Ending) (pair : Pair) (known middle first : Option Pair) → n < length places → slice_get plan (get_or places n 0) ≡ Some f → (IsReleased end l (get_or places n 0) f → ⊥) → IsPairOf e f pair
    → IsEarlier middle pair first → TriedFrom plan places (n + 1) e l end known middle → TriedFrom plan places n e l end known first
tried_more plan places n e f l end pair known middle first lt at not of earlier was = with_front plan places n e l end known first lt (record {
  kept = λ c d up. earlier.kept c d (was.kept c d up);
  one = elim earlier.one [
    | inr new ↦ inr (get_or places n 0, f, pair, (0, omega arith, refl), at, of_two_trains e f pair of, not, of, new)
    | inl stays ↦ elim was.one [
      | inl before ↦ inl (stays ∙ before)
      | inr found ↦ inr (found.0, found.1, found.2, behind_front (get_or places n 0) found.0 (drop (n + 1) places) found.3, found.4, found.5, found.6, found.7, stays ∙ found.8)
    ]
  ];
  each = λ j g other there also free is. elim (front (get_or places n 0) j (drop (n + 1) places) there) [
    | inl here ↦
        let event : f ≡ g = same_Some f g (sym at ∙ ap (slice_get plan) (sym here) ∙ also) in
        let same = same_pair e g pair other (subst (λ (x : Event). IsPairOf e x pair) event of) is in
        subst (IsUpTo first other.a) same.1 (subst (λ (o : Op). IsUpTo first o pair.b) same.0 earlier.up_to)
    | inr later ↦ earlier.kept other.a other.b (was.each j g other later also free is)
  ];
})

in_drop : (xs : List ℕ) (n k x : ℕ) → n ≤ k → k < length xs → get_or xs k x ≡ x → Contains (drop n xs) x
in_drop xs zero k x le lt same = (k, lt, same)
in_drop [] (suc n) k x le lt same = absurd (omega (arith, lt))
in_drop (y ∷ xs) (suc n) zero x le lt same = absurd (omega (arith, le))
in_drop (y ∷ xs) (suc n) (suc k) x le lt same = in_drop xs n k x (omega (arith, le)) (omega (arith, lt)) same

of_drop : (xs : List ℕ) (n x : ℕ) → Contains (drop n xs) x → Contains xs x
of_drop xs zero x there = there
of_drop [] (suc n) x there = there
of_drop (y ∷ xs) (suc n) x there = behind_front y x xs (of_drop xs n x there)

-- once the listing is released it is for all later ones
pub tried_released : (plan : List Event) (places : List ℕ) (n : ℕ) (e f : Event) (l : Listing) (end : Ending) (known first : Option Pair) → RiseAlong plan → AreFalling places → n < length places → slice_get plan (get_or places n 0) ≡ Some f → IsReleased end l (get_or places n 0) f
    → TriedFrom plan places (n + 1) e l end known first → IsTriedOn plan places e l end known first
tried_released plan places n e f l end known first rise falls lt at released was = record {
  kept = was.kept;
  one = elim was.one [
    | inl stays ↦ inl stays
    | inr found ↦ inr (found.0, found.1, found.2, of_drop places (n + 1) found.0 found.3, found.4, found.5, found.6, found.7, found.8)
  ];
  each = λ j g pair there also not of. elim (cases_lt n there.0) [
    | inl behind ↦ was.each j g pair (in_drop places (n + 1) there.0 j (omega (arith, behind)) there.1 there.2) also not of
    | inr before ↦ absurd (not (later j g there before also))
  ];
}
  where
    later : (j : ℕ) (g : Event) → (there : Contains places j) → there.0 ≤ n → slice_get plan j ≡ Some g → IsReleased end l j g
    later j g there before also =
        let le : get_or places n 0 ≤ j = no_earlier j there before in
        record { position = omega (arith, released.position, le); time = omega (arith, released.time, rise (get_or places n 0) j f g le at also) }
      where
        no_earlier : (j : ℕ) → (there : Contains places j) → there.0 ≤ n → get_or places n 0 ≤ j
        no_earlier j there before = elim (cases_lt there.0 n) [
          | inl less ↦ omega (arith, falls there.0 n j less lt, there.2, get_or_default places n 0 j lt)
          | inr ge ↦
              let same : there.0 ≡ n = omega (arith, ge, before) in
              omega (arith, ap (λ (k : ℕ). get_or places k j) same, there.2, get_or_default places n 0 j lt)
        ]

-- ---- the event at a place with those behind it

pub with_none : (problem : Problem) (plan : List Event) (i : ℕ) (e : Event) (first : Option Pair) → IsFirstFrom problem plan (i + 1) first → IsFirstWith problem plan i e [] first
with_none problem plan i e first is = record {
  clash = is.clash;
  behind = λ a b lt c later. is.each a b lt c (omega (arith, later));
  each = λ l j f pair there. nothing l there;
}
  where
    nothing : {X : Type 0} (l : Listing) → Contains [] l → X
    nothing l (k, lt, same) = absurd (omega (arith, lt))

alone : (l k : Listing) → Contains (k ∷ []) l → l ≡ k
alone l k (zero, lt, same) = sym same
alone l k (suc n, lt, same) = absurd (omega (arith, lt))

pub with_more : (problem : Problem) (plan : List Event) (i : ℕ) (e : Event) (listings : List Listing) (l : Listing) (places : List ℕ) (end : Ending) (known first : Option Pair) → slice_get plan i ≡ Some e → Contains (listings_of problem (op_of e)) l → end ≡ end_of problem.trains plan i e
    → ArePlacesOf problem plan (i + 1) l.resource places → IsTriedOn plan places e l end known first → IsFirstWith problem plan i e listings known → IsFirstWith problem plan i e (listings ++ l ∷ []) first
with_more problem plan i e listings l places end known first at own end_is are tried was = record {
  clash = by_one tried.one;
  behind = λ a b lt c later. tried.kept a b (was.behind a b lt c later);
  each = λ k j f pair there lt also lists not of. elim (Contains-append_cases listings (l ∷ []) k there) [
    | inl before ↦ tried.kept pair.a pair.b (was.each k j f pair before lt also lists not of)
    | inr last ↦
        let same = alone k l last in
        let its = subst (λ (x : Listing). Lists problem f x.resource) same lists in
        tried.each j f pair (are.each j f (omega (arith, lt)) also its) also (λ is. not (subst (λ (x : Ending). IsReleased x k j f) end_is (subst (λ (x : Listing). IsReleased end x j f) (sym same) is))) of
  ];
}
  where
    by_one : (first ≡ known) ⊎ ((j : ℕ) × (f : Event) × (pair : Pair) × Contains places j × (slice_get plan j ≡ Some f) × (e.train ≢ f.train) × (IsReleased end l j f → ⊥) × IsPairOf e f pair × (first ≡ Some pair)) → IfSome first (AreClashing problem plan)
    by_one (inl stays) = subst (λ (p : Option Pair). IfSome p (AreClashing problem plan)) (sym stays) was.clash
    by_one (inr (j, f, pair, there, also, apart, not, of, new)) = subst (λ (p : Option Pair). IfSome p (AreClashing problem plan)) (sym new) (
      of.trains,
      record {
        i = i;
        j = j;
        earlier = e;
        later = f;
        order = omega (arith, (are.there j there).0);
        earlier_there = at;
        later_there = also;
        names = of.names;
        not_apart = λ keep. not (released keep);
      },
    )
      where
        released : KeepApart problem plan i e j f → IsReleased end l j f
        released keep =
            let lists = are.lists j f there also in
            let all = released_from problem plan i j e f keep in
            subst (λ (x : Ending). IsReleased x l j f) (sym end_is) (subst (λ (x : Listing). IsReleased (end_of problem.trains plan i e) x j f) own.2
            (all own.0 l own.1 (subst (λ (x : Listing). Any (λ k. k.resource ≡ x.resource) (listings_of problem (op_of f))) (sym own.2) (lists.1.0, lists.0, lists.1.1, lists.1.2, lists.2))))

pub with_all : (problem : Problem) (plan : List Event) (i : ℕ) (e : Event) (first : Option Pair) → slice_get plan i ≡ Some e → IsFirstWith problem plan i e (listings_of problem (op_of e)) first → IsFirstFrom problem plan i first
with_all problem plan i e first at is = record { clash = is.clash; each = λ a b lt c le. elim (cases_lt i c.i) [ inl later ↦ is.behind a b lt c later | inr ge ↦ here a b lt c (omega (arith, le, ge)) ] }
  where
    here : (a b : Op) → a.train < b.train → (c : Clash problem plan a b) → c.i ≡ i → IsUpTo first a b
    here a b lt c same = elim (up_to_or_not first a b) [
      | inl up ↦ up
      | inr not ↦ absurd (not_apart_at problem plan a b c i e at same (apart_from problem plan i c.j e c.later (λ k d inside lists. elim (released_or_not (end_of problem.trains plan i e) (get_or (listings_of problem (op_of e)) k d) c.j c.later) [
        | inl released ↦ released
        | inr held ↦ absurd (not (is.each (get_or (listings_of problem (op_of e)) k d) c.j c.later (record { a = a; b = b })
            (k, inside, get_or_default (listings_of problem (op_of e)) k (get_or (listings_of problem (op_of e)) k d) d inside) (omega (arith, same, c.order)) c.later_there (lists.1, (lists.0, lists.2, lists.3), lists.4) held
            (record { trains = lt; names = names_at problem plan a b c i e at same })))
      ])))
    ]

-- ---- all events

pub from_none : (problem : Problem) (plan : List Event) (i : ℕ) → length plan ≤ i → IsFirstFrom problem plan i None
from_none problem plan i past = record { clash = tt; each = λ a b lt c le. absurd (omega (arith, past, le, slice_get_within plan c.i c.earlier c.earlier_there)) }

pub first_is : (problem : Problem) (plan : List Event) (first : Option Pair) → IsFirstFrom problem plan 0 first → MatchOption first (NoneClash problem plan) (IsFirstPair problem plan)
first_is problem plan None is = λ a b lt c. is.each a b lt c (omega arith)
first_is problem plan (Some pair) is = record { clash = is.clash; each = λ a b lt c. is.each a b lt c (omega arith) }
