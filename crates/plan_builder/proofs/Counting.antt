-- How many stops are at a node.
use Rattle.std.proofs.Common.{◌≡◌, ◌≢◌, ℕ, zero, suc, ◌+◌, ◌<◌, ◌≤◌, List, [], ◌∷◌, Some, refl, sym, ap, ◌∙◌, arith, inl, inr, Contains}
use Rattle.std.specs.Prelude.{slice_get, ◌==◌, if◌then◌else◌}
use Rattle.std.specs.List.Sorted.{IsPermutation}
use Rattle.std.proofs.lemmas.Bool.{cases_lt, cases_eq, eq-eqb, ne_eqb}
use Rattle.std.proofs.lemmas.Option.{none-some, same_Some, slice_get-get_or}
use Rattle.std.proofs.lemmas.List.Sums.{sum_by-cons}
use Rattle.std.proofs.lemmas.List.Sorted.{sum_by-IsPermutation}
use Rattle.plan_builder.specs.declared.stop.Stop.{Stop}
use Rattle.plan_builder.specs.Stops.{stops_at, AreOnce}

abbrev one_at : ℕ → Stop → ℕ
one_at k s = if s.node == k then 1 else 0

at_own : (k : ℕ) (s : Stop) → s.node ≡ k → one_at k s ≡ 1
at_own k s same = rw (eq-eqb s.node k same) refl

at_other : (k : ℕ) (s : Stop) → s.node ≢ k → one_at k s ≡ 0
at_other k s differs = rw (ne_eqb s.node k differs) refl

pub count_cons : (k : ℕ) (s : Stop) (stops : List Stop) → stops_at k (s ∷ stops) ≡ one_at k s + stops_at k stops
count_cons k s stops = sum_by-cons (one_at k) s stops

-- a stop at the node counts
pub counted : (k : ℕ) (stops : List Stop) (s : Stop) → Contains stops s → s.node ≡ k → 1 ≤ stops_at k stops
counted k [] s (i, lt, e) same = absurd (omega (arith, lt))
counted k (r ∷ stops) s (zero, lt, e) same = omega (arith, count_cons k r stops, at_own k r (ap (λ (x : Stop). x.node) e ∙ same))
counted k (r ∷ stops) s (suc i, lt, e) same = omega (arith, count_cons k r stops, counted k stops s (i, omega (arith, lt), e) same)

-- two stops at the node count twice
counted_at : (k : ℕ) (stops : List Stop) (i : ℕ) (s : Stop) → slice_get stops i ≡ Some s → s.node ≡ k → 1 ≤ stops_at k stops
counted_at k [] i s at same = absurd (none-some s at)
counted_at k (r ∷ stops) zero s at same = omega (arith, count_cons k r stops, at_own k r (ap (λ (x : Stop). x.node) (same_Some r s at) ∙ same))
counted_at k (r ∷ stops) (suc i) s at same = omega (arith, count_cons k r stops, counted_at k stops i s at same)

counted_twice : (k : ℕ) (stops : List Stop) (i j : ℕ) (s r : Stop) → i < j → slice_get stops i ≡ Some s → slice_get stops j ≡ Some r → s.node ≡ k → r.node ≡ k → 2 ≤ stops_at k stops
counted_twice k [] i j s r lt at there one other = absurd (none-some s at)
counted_twice k (x ∷ stops) i zero s r lt at there one other = absurd (omega (arith, lt))
counted_twice k (x ∷ stops) zero (suc j) s r lt at there one other =
    omega (arith, count_cons k x stops, at_own k x (ap (λ (y : Stop). y.node) (same_Some x s at) ∙ one), counted_at k stops j r there other)
counted_twice k (x ∷ stops) (suc i) (suc j) s r lt at there one other =
    omega (arith, count_cons k x stops, counted_twice k stops i j s r (omega (arith, lt)) at there one other)

-- one place for each node
pub one_place : (stops : List Stop) (i j : ℕ) (s r : Stop) → AreOnce stops → slice_get stops i ≡ Some s → slice_get stops j ≡ Some r → s.node ≡ r.node → i ≡ j
one_place stops i j s r once at there same =
    elim (cases_lt i j) [
      | inl lt ↦ absurd (omega (arith, counted_twice r.node stops i j s r lt at there same refl, once r.node))
      | inr le ↦ elim (cases_lt j i) [
        | inl gt ↦ absurd (omega (arith, counted_twice r.node stops j i r s gt there at refl same, once r.node))
        | inr ge ↦ omega (arith, le, ge)
      ]
    ]

pub once_moved : (stops other : List Stop) → IsPermutation stops other → AreOnce stops → AreOnce other
once_moved stops other moved once k = omega (arith, sum_by-IsPermutation (one_at k) stops other moved, once k)

-- the others are at other nodes
pub apart : (s : Stop) (stops : List Stop) → AreOnce (s ∷ stops) → (r : Stop) → Contains stops r → r.node ≢ s.node
apart s stops once r there same = omega (arith, count_cons s.node s stops, at_own s.node s refl, counted s.node stops r there same, once s.node)

pub once_rest : (s : Stop) (stops : List Stop) → AreOnce (s ∷ stops) → AreOnce stops
once_rest s stops once k = omega (arith, count_cons k s stops, once k)

-- ---- none twice where no operation is

none_counted : (k : ℕ) (stops : List Stop) → ((r : Stop) → Contains stops r → r.node ≢ k) → stops_at k stops ≡ 0
none_counted k [] none = refl
none_counted k (s ∷ stops) none =
    omega (arith, count_cons k s stops, at_other k s (none s (0, omega arith, refl)), none_counted k stops (λ r there. none r (suc there.0, omega (arith, there.1), there.2)))

-- at most one at each node, where the node tells the stop's name, and no name stands twice
pub once_named : {X : Type 0} (name : Stop → X) (stops : List Stop) → ((s r : Stop) → Contains stops s → Contains stops r → s.node ≡ r.node → name s ≡ name r) → ((i j : ℕ) (s r : Stop) → i < j → slice_get stops i ≡ Some s → slice_get stops j ≡ Some r → name s ≢ name r) → AreOnce stops
once_named name [] told apart k = omega arith
once_named name (s ∷ stops) told apart k = elim (cases_eq s.node k) [
  | inl same ↦ omega (
    arith,
    count_cons k s stops,
    at_own k s same,
    none_counted k stops (λ r there is.
        apart 0 (suc there.0) s r (omega arith) refl (slice_get-get_or stops there.0 r there.1 ∙ ap (λ (x : Stop). Some x) there.2) (told s r (0, omega arith, refl) (suc there.0, omega (arith, there.1), there.2) (same ∙ sym is))),
  )
  | inr differs ↦ omega (
    arith,
    count_cons k s stops,
    at_other k s differs,
    once_named name stops
        (λ x y one other is. told x y (suc one.0, omega (arith, one.1), one.2) (suc other.0, omega (arith, other.1), other.2) is)
        (λ i j x y lt one other. apart (suc i) (suc j) x y (omega (arith, lt)) one other) k,
  )
]
