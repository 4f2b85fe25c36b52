-- Which stops wait for another, and which is the first that does not.
use Rattle.std.proofs.Common.{◌≡◌, ℕ, zero, suc, ◌+◌, ◌<◌, ◌≤◌, Bool, true, false, List, [], ◌∷◌, length, get_or, refl, sym, ap, subst, ◌∙◌, arith, inl, inr, Contains}
use Rattle.std.specs.Prelude.{AllPairs}
use Rattle.std.proofs.lemmas.Bool.{cases_lt, cases_eq, both_ways}
use Rattle.std.proofs.lemmas.List.{get_or_default}
use Rattle.disp_model.specs.Earliest.{ComesBefore}
use Rattle.disp_laws.proofs.EarliestPlans.{not_before_itself}
use Rattle.incremental_paths.specs.declared.arc.Arc.{Arc}
use Rattle.incremental_paths.specs.Walks.{JoinsPair}
use Rattle.incremental_paths.specs.Marked.{AreRising}
use Rattle.incremental_paths.specs.Ordered.{is_marked}
use Rattle.plan_builder.specs.declared.stop.Stop.{Stop}
use Rattle.plan_builder.specs.Stops.{AreMarkedNodes, IsBlocked, IsFirstFree}

-- ---- marks tell who waits

pub blocked_by : (arcs : List Arc) (rest : List Stop) (marks : List Bool) (s : Stop) → AreMarkedNodes rest marks → (u : ℕ) × JoinsPair arcs u s.node × (is_marked marks u ≡ true) → IsBlocked arcs rest s
blocked_by arcs rest marks s waiting (u, joined, marked) =
    let from = waiting.only u marked in (from.0, from.1, subst (λ (n : ℕ). JoinsPair arcs n s.node) (sym from.2) joined)

pub free_by : (arcs : List Arc) (rest : List Stop) (marks : List Bool) (s : Stop) → AreMarkedNodes rest marks → ((u : ℕ) → JoinsPair arcs u s.node → is_marked marks u ≡ false) → IsBlocked arcs rest s → ⊥
free_by arcs rest marks s waiting none (other, there, joined) = both_ways (is_marked marks other.node) (none other.node joined) (waiting.each other there)

-- ---- not all wait, since arcs rise

joined_rises : (arcs : List Arc) (places : List ℕ) (u v : ℕ) → AreRising arcs places → JoinsPair arcs u v → get_or places u 0 < get_or places v 0
joined_rises arcs places u v rising (k, arc, lt, is, (from, to)) =
    let rises = rising k arc lt in
    let low = ap (λ (a : Arc). get_or places a.from 0) is ∙ ap (λ (n : ℕ). get_or places n 0) from in
    let high = ap (λ (a : Arc). get_or places a.to 0) is ∙ ap (λ (n : ℕ). get_or places n 0) to in
    omega (arith, rises, low, high)

none_below : (arcs : List Arc) (places : List ℕ) (rest : List Stop) → AreRising arcs places → ((k : ℕ) (d : Stop) → k < length rest → IsBlocked arcs rest (get_or rest k d)) → (n : ℕ) (s : Stop) → Contains rest s → get_or places s.node 0 < n → ⊥
none_below arcs places rest rising blocked zero s there lt = omega (arith, lt)
none_below arcs places rest rising blocked (suc n) s (k, within, is) lt =
    let by = subst (IsBlocked arcs rest) is (blocked k s within) in
    none_below arcs places rest rising blocked n by.0 by.1 (omega (arith, joined_rises arcs places by.0.node s.node rising by.2, lt))

pub not_all_blocked : (arcs : List Arc) (places : List ℕ) (rest : List Stop) → AreRising arcs places → ((k : ℕ) (d : Stop) → k < length rest → IsBlocked arcs rest (get_or rest k d)) → length rest ≡ 0
not_all_blocked arcs places [] rising blocked = refl
not_all_blocked arcs places (s ∷ rest) rising blocked =
    absurd (none_below arcs places (s ∷ rest) rising blocked (suc (get_or places s.node 0)) s (0, omega arith, refl) (omega arith))

-- ---- the first one

pub first_free : (arcs : List Arc) (rest : List Stop) (place : ℕ) (s : Stop) → place < length rest → s ≡ get_or rest place s → ((d : Stop) → IsBlocked arcs rest (get_or rest place d) → ⊥)
    → ((k : ℕ) (d : Stop) → place < k → k < length rest → IsBlocked arcs rest (get_or rest k d)) → AllPairs (λ s t. ComesBefore s.event t.event → ⊥) rest → IsFirstFree arcs rest s
first_free arcs rest place s within is free blocked falling = record {
  free = subst (λ (x : Stop). IsBlocked arcs rest x → ⊥) (sym is) (free s);
  first = λ other there not before. by_place other there.0 there.1 there.2 not before;
}
  where
    by_place : (other : Stop) (k : ℕ) → k < length rest → get_or rest k other ≡ other → (IsBlocked arcs rest other → ⊥) → ComesBefore other.event s.event → ⊥
    by_place other k lt own not before = elim (cases_lt k place) [
      | inl less ↦ falling k place other less within
          (subst (λ (x : Stop). ComesBefore (get_or rest k other).event x.event) (is ∙ get_or_default rest place s other within) (subst (λ (x : Stop). ComesBefore x.event s.event) (sym own) before))
      | inr le ↦ elim (cases_eq k place) [
        | inl same ↦
            let alike : other ≡ s = sym own ∙ ap (λ (n : ℕ). get_or rest n other) same ∙ get_or_default rest place other s within ∙ sym is in
            not_before_itself s.event (subst (λ (x : Stop). ComesBefore x.event s.event) alike before)
        | inr differs ↦ not (subst (IsBlocked arcs rest) own (blocked k other (omega (arith, le, differs)) lt))
      ]
    ]

-- ---- one look at a stop

pub free_at : (arcs : List Arc) (rest : List Stop) (marks : List Bool) (place : ℕ) (e : Stop) → AreMarkedNodes rest marks → place < length rest → ((u : ℕ) → JoinsPair arcs u (get_or rest place e).node → is_marked marks u ≡ false)
    → (d : Stop) → IsBlocked arcs rest (get_or rest place d) → ⊥
free_at arcs rest marks place e waiting within none d =
    subst (λ (x : Stop). IsBlocked arcs rest x → ⊥) (get_or_default rest place e d within) (free_by arcs rest marks (get_or rest place e) waiting none)

pub blocked_at : (arcs : List Arc) (rest : List Stop) (marks : List Bool) (place : ℕ) (e : Stop) → AreMarkedNodes rest marks → place < length rest → (u : ℕ) × JoinsPair arcs u (get_or rest place e).node × (is_marked marks u ≡ true)
    → ((k : ℕ) (d : Stop) → place + 1 ≤ k → k < length rest → IsBlocked arcs rest (get_or rest k d)) → (k : ℕ) (d : Stop) → place ≤ k → k < length rest → IsBlocked arcs rest (get_or rest k d)
blocked_at arcs rest marks place e waiting within found behind k d le lt = elim (cases_eq k place) [
  | inl same ↦ subst (λ (n : ℕ). IsBlocked arcs rest (get_or rest n d)) (sym same)
      (subst (IsBlocked arcs rest) (get_or_default rest place e d within) (blocked_by arcs rest marks (get_or rest place e) waiting found))
  | inr differs ↦ behind k d (omega (arith, le, differs)) lt
]

pub none_waits : (arcs : List Arc) (rest : List Stop) → ((k : ℕ) (d : Stop) → 0 ≤ k → k < length rest → IsBlocked arcs rest (get_or rest k d)) → (0 < length rest → (places : List ℕ) × AreRising arcs places) → length rest ≡ 0
none_waits arcs rest blocked rising = elim (cases_lt 0 (length rest)) [
  | inl some ↦ (let found = rising some in not_all_blocked arcs found.0 rest found.1 (λ k d lt. blocked k d (omega arith) lt))
  | inr none ↦ omega (arith, none)
]
