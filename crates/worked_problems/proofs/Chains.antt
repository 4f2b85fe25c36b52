-- A train whose operations come one behind the other is acyclic.
use Rattle.std.proofs.Common.{◌≡◌, ℕ, zero, suc, ◌+◌, ◌<◌, ◌≤◌, List, [], ◌∷◌, length, get_or, Option, Some, None, refl, sym, subst, ◌∙◌, arith, inl, inr}
use Rattle.std.specs.Prelude.{slice_get, Contains, nat_lt, if◌then◌else◌}
use Rattle.std.proofs.lemmas.Option.{slice_get-get_or, none-some, same_Some}
use Rattle.std.proofs.lemmas.Bool.{cases_lt, le-ltb, lt-ltb}
use Rattle.plain_values.proofs.Lists.{contains_none, contains_one}
use Rattle.disp_model.specs.declared.train.Operation.{Operation}
use Rattle.disp_model.specs.Train.{IsSuccessor, IsEntry, IsExit}
use Rattle.disp_model.specs.WellFormed.{LeadsTo, IsAcyclic}

-- the next place of n, if there is one
abbrev pub next_place : ℕ → ℕ → List ℕ
next_place n k = if nat_lt (k + 1) n then (k + 1) ∷ [] else []

-- from place k of n on, each operation goes on to the next place
abbrev pub Chained : ℕ → ℕ → List Operation → Type 0
Chained n k [] = Unit {0}
Chained n k (o ∷ rest) = (o.next ≡ next_place n k) × Chained n (k + 1) rest

-- at least one operation, each going on to the next
abbrev pub IsChain : List Operation → Type 0
IsChain train = (0 < length train) × Chained (length train) 0 train

chained_at : (n k : ℕ) (train : List Operation) (i : ℕ) (o : Operation) → Chained n k train → slice_get train i ≡ Some o → o.next ≡ next_place n (k + i)
chained_at n k [] i o h at = absurd (none-some o at)
chained_at n k (p ∷ train) zero o h at =
    let same : k + 0 ≡ k = omega arith in
    rw same (subst (λ (x : Operation). x.next ≡ next_place n k) (same_Some p o at) h.0)
chained_at n k (p ∷ train) (suc i) o h at =
    let same : k + suc i ≡ (k + 1) + i = omega arith in
    rw same (chained_at n (k + 1) train i o h.1 at)

contains_next_place : (n k s : ℕ) → Contains (next_place n k) s → (s ≡ k + 1) × (k + 1 < n)
contains_next_place n k s h =
    elim (cases_lt (k + 1) n) [
      | inl lt ↦ (contains_one (k + 1) s (rw (lt-ltb (k + 1) n lt) at h), lt)
      | inr le ↦ absurd (contains_none s (rw (le-ltb (k + 1) n le) at h))
    ]

next-is : (train : List Operation) (k : ℕ) (o : Operation) → IsChain train → slice_get train k ≡ Some o → o.next ≡ next_place (length train) k
next-is train k o chain at = let same : 0 + k ≡ k = omega arith in rw same at (chained_at (length train) 0 train k o chain.1 at)

successor_in : (train : List Operation) (k s : ℕ) (found : Option Operation) → slice_get train k ≡ found → IsChain train → IsSuccessor train k s → (s ≡ k + 1) × (k + 1 < length train)
successor_in train k s None at chain h = absurd (contains_none s (rw at at h))
successor_in train k s (Some o) at chain h = contains_next_place (length train) k s (subst (λ (l : List ℕ). Contains l s) (next-is train k o chain at) (rw at at h))

successor-is : (train : List Operation) (k s : ℕ) → IsChain train → IsSuccessor train k s → (s ≡ k + 1) × (k + 1 < length train)
successor-is train k s chain h = successor_in train k s (slice_get train k) refl chain h

goes_next : (train : List Operation) (k : ℕ) (o : Operation) → slice_get train k ≡ Some o → IsChain train → k + 1 < length train → IsSuccessor train k (k + 1)
goes_next train k o at chain lt =
    let one : Contains ((k + 1) ∷ []) (k + 1) = (0, omega arith, refl) in
    let here : o.next ≡ (k + 1) ∷ [] = next-is train k o chain at ∙ rw (lt-ltb (k + 1) (length train) lt) refl in
    rw at (subst (λ (l : List ℕ). Contains l (k + 1)) (sym here) one)

next_is_successor : (train : List Operation) (k : ℕ) → IsChain train → k + 1 < length train → IsSuccessor train k (k + 1)
next_is_successor [] k chain lt = absurd (omega (arith, lt))
next_is_successor (x ∷ xs) k chain lt =
    let within : k < length (x ∷ xs) = omega (arith, lt) in
    goes_next (x ∷ xs) k (get_or (x ∷ xs) k x) (slice_get-get_or (x ∷ xs) k x within) chain lt

entry-is : (train : List Operation) (o : ℕ) → IsChain train → IsEntry train o → o ≡ 0
entry-is train zero chain h = refl
entry-is train (suc k) chain h =
    let e : k + 1 ≡ suc k = omega arith in
    absurd (h.first k (subst (λ (s : ℕ). IsSuccessor train k s) e (next_is_successor train k chain (omega (arith, h.there)))))

exit-is : (train : List Operation) (o : ℕ) → IsChain train → IsExit train o → o + 1 ≡ length train
exit-is train o chain h =
    elim (cases_lt (o + 1) (length train)) [
      | inl lt ↦ absurd (contains_none (o + 1) (rw h.last at (next_is_successor train o chain lt)))
      | inr le ↦ omega (arith, h.there)
    ]

leads_up : (train : List Operation) (n o s : ℕ) → IsChain train → LeadsTo train n o s → o < s
leads_up train zero o s chain h = omega (arith, (successor-is train o s chain h).0)
leads_up train (suc n) o s chain (p, one, rest) = omega (arith, (successor-is train o p chain one).0, leads_up train n p s chain rest)

pub chain_is_acyclic : (train : List Operation) → IsChain train → IsAcyclic train
chain_is_acyclic train chain = record {
  entered = chain.0;
  one_entry = λ o p h k. entry-is train o chain h ∙ sym (entry-is train p chain k);
  one_exit = λ o p h k. omega (arith, exit-is train o chain h, exit-is train p chain k);
  no_cycle = λ n o h. omega (arith, leads_up train n o o chain h);
}
