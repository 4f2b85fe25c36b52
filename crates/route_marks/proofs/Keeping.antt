-- Rows that are made of some successors, and where successors stand.
use Rattle.std.proofs.Common.{◌≡◌, ℕ, ◌+◌, ◌<◌, ◌++◌, List, [], ◌∷◌, length, take, get_or, Some, Bool, true, false, refl, sym, subst, inl, inr, cond}
use Rattle.std.specs.Prelude.{slice_get, Contains, IsTrue, ◌↔◌}
use Rattle.std.proofs.lemmas.Bool.{false≢true}
use Rattle.std.proofs.lemmas.List.{take_more}
use Rattle.std.proofs.lemmas.List.Elements.{Contains-append_left, Contains-push, Contains-push_cases}
use Rattle.disp_model.specs.declared.train.Operation.{Operation}
use Rattle.disp_model.specs.Train.{IsSuccessor}
use Rattle.train_orders.specs.Orders.{IsOrder}
use Rattle.train_orders.proofs.Places.{at_contains}
use Rattle.train_orders.proofs.Ordered.{at_taken}

-- one more successor is kept, or it is not
pub row_more : (P : ℕ → Type 0) (xs items row : List ℕ) (i : ℕ) (kept : Bool) → items ≡ xs → i < length items → (IsTrue kept ↔ P (get_or items i 0))
    → ((s : ℕ) → Contains row s ↔ (Contains (take i xs) s × P s)) → (s : ℕ) → Contains (cond kept (row ++ get_or items i 0 ∷ []) row) s ↔ (Contains (take (i + 1) xs) s × P s)
row_more P xs items row i kept same lt says before s =
    subst (λ (l : List ℕ). Contains (cond kept (row ++ get_or items i 0 ∷ []) row) s ↔ (Contains (take (i + 1) l) s × P s)) same
    (rw (take_more items i 0 lt) (by kept says (subst (λ (l : List ℕ). (s : ℕ) → Contains row s ↔ (Contains (take i l) s × P s)) (sym same) before)))
  where
    x : ℕ
    x = get_or items i 0

    by : (kept : Bool) → (IsTrue kept ↔ P x) → ((s : ℕ) → Contains row s ↔ (Contains (take i items) s × P s)) → Contains (cond kept (row ++ x ∷ []) row) s ↔ (Contains (take i items ++ x ∷ []) s × P s)
    by true says before = (
      λ there. elim (Contains-push_cases row x s there) [
        | inl early ↦ let found = (before s).0 early in (Contains-append_left (take i items) (x ∷ []) s found.0, found.1)
        | inr e ↦ (subst (λ (y : ℕ). Contains (take i items ++ x ∷ []) y) e (Contains-push (take i items) x), subst P e (says.0 refl))
      ],
      λ h. elim (Contains-push_cases (take i items) x s h.0) [
        | inl early ↦ Contains-append_left row (x ∷ []) s ((before s).1 (early, h.1))
        | inr e ↦ subst (λ (y : ℕ). Contains (row ++ x ∷ []) y) e (Contains-push row x)
      ],
    )
    by false says before = (
      λ there. let found = (before s).0 there in (Contains-append_left (take i items) (x ∷ []) s found.0, found.1),
      λ h. elim (Contains-push_cases (take i items) x s h.0) [
        | inl early ↦ (before s).1 (early, h.1)
        | inr e ↦ absurd (false≢true (says.1 (subst P (sym e) h.1)))
      ],
    )

-- a successor stands before the operation
pub earlier : (train : List Operation) (order : List ℕ) (k o s : ℕ) → IsOrder train order → slice_get order k ≡ Some o → IsSuccessor train o s → (j : ℕ) × (j < k) × (slice_get order j ≡ Some s)
earlier train order k o s is here goes =
    let place = at_contains (take k order) s (is.is_behind.behind k o s here goes) in
    let found = at_taken order k place.0 s place.1 in
    (place.0, found.0, found.1)
