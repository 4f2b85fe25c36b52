-- Lengths are pushed on from one node after the other.
use Rattle.std.proofs.Common.{◌≡◌, ℕ, ◌+◌, ◌<◌, ◌≤◌, ◌⊎◌, inl, inr, List, [], ◌∷◌, ◌++◌, length, get_or, sym, ap, ◌∙◌, subst, arith, Contains}
use Rattle.std.proofs.lemmas.Bool.{cases_eq, cases_lt}
use Rattle.std.proofs.lemmas.List.{length-append, get_or_push, get_or_append_left}
use Rattle.incremental_paths.specs.declared.arc.Arc.{Arc}
use Rattle.incremental_paths.specs.Marked.{AreRising, AreWithin}
use Rattle.incremental_paths.specs.Spread.{AreSpread, AreWaiting, IsSpread, Reaches, Spreads, SpreadsOne, Told, TellsMore, nothing_told}
use Rattle.incremental_paths.proofs.Members.{Contains-nil}
use Rattle.incremental_paths.proofs.Spreading.{one_only}

module _ (arcs : List Arc) (places : List ℕ) (rising : AreRising arcs places) (within : AreWithin (length places) arcs) (node place : ℕ) (at : get_or places node 0 ≡ place) (only : (v : ℕ) → v < length places → get_or places v 0 ≡ place → v ≡ node) where
  -- the node of this place is gone on from
  pub waiting_next : (old new : List ℕ) (told more : Told) → AreWaiting arcs places old told place → Spreads arcs node old new → TellsMore told more old new → AreWaiting arcs places new more (place + 1)
  waiting_next old new told more waiting spreads tells k d lt =
      let from = (get_or arcs k d).from in
      elim (cases_eq (get_or old from 0) (get_or new from 0)) [
        | inl same ↦ elim (waiting k d lt) [
          | inl spread ↦ inl (spreads.spread k d lt (inr spread) same)
          | inr w ↦ elim (cases_eq (get_or places from 0) place) [
            | inl here ↦ inl (spreads.spread k d lt (inl (only from (within k d lt).0 here)) same)
            | inr later ↦ inr (tells.still_grown from w.0, omega (arith, w.1, later))
          ]
        ]
        | inr differ ↦
            let h = spreads.only from differ in
            let r = rising h.0 d h.1 in
            let e = h.2 d in
            inr (tells.all_grown from (omega (arith, tells.grows from, differ)), omega (arith, r, ap (λ z. get_or places z 0) e.0, ap (λ z. get_or places z 0) e.1, at))
      ]

  -- the node of this place has not grown
  pub waiting_past : (lengths : List ℕ) (told : Told) → (Contains told.grown.listed node → ⊥) → AreWaiting arcs places lengths told place → AreWaiting arcs places lengths told (place + 1)
  waiting_past lengths told none waiting k d lt = elim (waiting k d lt) [
    | inl spread ↦ inl spread
    | inr w ↦ elim (cases_eq (get_or places (get_or arcs k d).from 0) place) [
      | inl here ↦ absurd (none (subst (Contains told.grown.listed) (only (get_or arcs k d).from (within k d lt).0 here) w.0))
      | inr later ↦ inr (w.0, omega (arith, w.1, later))
    ]
  ]

pub waiting_none : (arcs : List Arc) (places lengths : List ℕ) (told : Told) (place : ℕ) → AreWaiting arcs places lengths told place → ((v : ℕ) → Contains told.grown.listed v → get_or places v 0 < place) → AreSpread arcs lengths
waiting_none arcs places lengths told place waiting low k d lt = elim (waiting k d lt) [
  | inl spread ↦ spread
  | inr w ↦ absurd (omega (arith, w.1, low (get_or arcs k d).from w.0))
]

-- the arcs that begin below the next place, after the node of this one
pub swept_next : (arcs : List Arc) (places old new : List ℕ) (node place : ℕ) → AreRising arcs places → AreWithin (length places) arcs → get_or places node 0 ≡ place
    → ((v : ℕ) → v < length places → get_or places v 0 ≡ place → v ≡ node) → Spreads arcs node old new
    → ((k : ℕ) (d : Arc) → k < length arcs → get_or places (get_or arcs k d).from 0 < place → IsSpread old (get_or arcs k d))
    → (k : ℕ) (d : Arc) → k < length arcs → get_or places (get_or arcs k d).from 0 < place + 1 → IsSpread new (get_or arcs k d)
swept_next arcs places old new node place rising within at only spreads before k d lt low =
    let from = (get_or arcs k d).from in
    elim (cases_eq (get_or old from 0) (get_or new from 0)) [
      | inl same ↦ elim (cases_lt (get_or places from 0) place) [
        | inl less ↦ spreads.spread k d lt (inr (before k d lt less)) same
        | inr le ↦ spreads.spread k d lt (inl (only from (within k d lt).0 (omega (arith, low, le)))) same
      ]
      | inr differ ↦
          let h = spreads.only from differ in
          let r = rising h.0 d h.1 in
          let e = h.2 d in
          absurd (omega (arith, r, ap (λ z. get_or places z 0) e.0, ap (λ z. get_or places z 0) e.1, at, low))
    ]

-- where one node has grown, lengths are spread along arcs that begin elsewhere
module _ (told : Told) (before after : List ℕ) (cleared : Told) (size : ℕ) (none : cleared ≡ nothing_told size) (tells : TellsMore cleared told before after) (start : ℕ) (only : (v : ℕ) → (get_or before v 0 ≡ get_or after v 0 → ⊥) → v ≡ start) where
  pub waiting_first : (a : Arc) (places : List ℕ) → IsSpread before a → IsSpread after a ⊎ (Contains told.grown.listed a.from × (get_or places start 0 ≤ get_or places a.from 0))
  waiting_first a places spread = elim (cases_eq (get_or before a.from 0) (get_or after a.from 0)) [
    | inl same ↦ inl (omega (arith, spread, same, tells.grows a.to))
    | inr differ ↦ inr (tells.all_grown a.from (omega (arith, tells.grows a.from, differ)), omega (arith, ap (λ z. get_or places z 0) (only a.from differ)))
  ]

  pub waiting_all : (arcs : List Arc) (places : List ℕ) → AreSpread arcs before → AreWaiting arcs places after told (get_or places start 0)
  waiting_all arcs places spread k d lt = waiting_first (get_or arcs k d) places (spread k d lt)

  pub waiting_last : (arcs front : List Arc) (a : Arc) (places : List ℕ) → arcs ≡ front ++ a ∷ [] → AreSpread front before → IsSpread after a → AreWaiting arcs places after told (get_or places start 0)
  waiting_last arcs front a places is spread here k d lt =
      elim (cases_eq k (length front)) [
        | inl same ↦ inl (subst (IsSpread after) (sym (ap (λ l. get_or l k d) is ∙ get_or_push front a d k (sym same))) here)
        | inr other ↦
            let less : k < length front = omega (arith, lt, other, ap length is, length-append front (a ∷ [])) in
            let same : get_or arcs k d ≡ get_or front k d = ap (λ l. get_or l k d) is ∙ get_or_append_left front (a ∷ []) d k less in
            rw same (waiting_first (get_or front k d) places (spread k d less))
      ]

  pub lone : (v : ℕ) → Contains told.grown.listed v → v ≡ start
  lone v has = elim (tells.only_grown v has) [
    | inl was ↦ absurd (Contains-nil v (subst (λ (t : Told). Contains t.grown.listed v) none was))
    | inr more ↦ only v (λ e. omega (arith, more, e))
  ]

-- the end of an arc is the only node that may have grown
pub reach_one : (a : Arc) (before after : List ℕ) (old new : Told) (places : List ℕ) (top : ℕ) → SpreadsOne a before after → TellsMore old new before after → get_or places a.to 0 ≤ top → Reaches places old new top
reach_one a before after old new places top one tells low v has = elim (tells.only_grown v has) [
  | inl was ↦ inl was
  | inr more ↦ elim (cases_eq v a.to) [
    | inl same ↦ inr (omega (arith, low, ap (λ z. get_or places z 0) same))
    | inr other ↦ absurd (omega (arith, more, one_only a before after one v other))
  ]
]

pub reach_none : (before after : List ℕ) (old new : Told) (places : List ℕ) (top : ℕ) → after ≡ before → TellsMore old new before after → Reaches places old new top
reach_none before after old new places top same tells v has = elim (tells.only_grown v has) [
  | inl was ↦ inl was
  | inr more ↦ absurd (omega (arith, more, ap (λ z. get_or z v 0) same))
]

pub reach_self : (told : Told) (places : List ℕ) (top : ℕ) → Reaches places told told top
reach_self told places top v has = inl has

pub reach_both : (places : List ℕ) (a b c : Told) (low high : ℕ) → low ≤ high → Reaches places a b low → Reaches places b c high → Reaches places a c high
reach_both places a b c low high le p q v has = elim (q v has) [
  | inl was ↦ elim (p v was) [ inl first ↦ inl first | inr top ↦ inr (omega (arith, top, le)) ]
  | inr top ↦ inr top
]
