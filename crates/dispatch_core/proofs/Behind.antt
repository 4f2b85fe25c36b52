-- A fixing that is accepted stands behind those that stood before.
use Rattle.std.proofs.Common.{◌≡◌, ◌∙◌, ℕ, suc, ◌+◌, ◌≤◌, inl, inr, List, [], ◌∷◌, ◌++◌, length, map, take, drop, refl, sym, ap, subst, arith}
use Rattle.std.specs.Prelude.{Bool, false, Some, slice_get, nat_eq, ◌||◌}
use Rattle.std.proofs.Math.Seq.{take-suc}
use Rattle.std.proofs.lemmas.Bool.{cases_Bool, eqb-true}
use Rattle.std.proofs.lemmas.List.{length-take-le, map_push, take-append-drop}
use Rattle.std.proofs.lemmas.Option.{slice_get_within, get_or_from_slice_get}
use Rattle.disp_model.specs.declared.fixing.Change.{Change}
use Rattle.disp_model.specs.declared.fixing.Change.TheVariants.{Fix, Withdraw}
use Rattle.disp_model.specs.declared.fixing.Fixing.{Fixing}
use Rattle.disp_model.specs.declared.problem.Problem.{Problem}
use Rattle.disp_model.specs.Changes.{is_withdrawn, standing_from, numbered_standing, standing_of}
use Rattle.disp_model.specs.Replies.{IsEdition}
use Rattle.train_orders.proofs.Places.{get_kept}
use Rattle.fixing_editions.proofs.Accepting.{accepted_back, change_within}

-- no change takes back the fixing of this number
none_back : (n : ℕ) (changes : List Change) → ((i k : ℕ) → slice_get changes i ≡ Some (Withdraw k) → k ≡ n → ⊥) → is_withdrawn n changes ≡ false
none_back n [] none = refl
none_back n (Fix fixing ∷ changes) none = none_back n changes (λ i k at. none (suc i) k at)
none_back n (Withdraw k ∷ changes) none = elim (cases_Bool (nat_eq k n)) [
  | inl is ↦ absurd (none 0 k refl (eqb-true k n is))
  | inr is ↦ rw is (none_back n changes (λ i j at. none (suc i) j at))
]

-- a fixing takes none back
same_back : (n : ℕ) (changes : List Change) (fixing : Fixing) → is_withdrawn n (changes ++ Fix fixing ∷ []) ≡ is_withdrawn n changes
same_back n [] fixing = refl
same_back n (Fix other ∷ changes) fixing = same_back n changes fixing
same_back n (Withdraw k ∷ changes) fixing = ap (λ (b : Bool). (nat_eq k n) || b) (same_back n changes fixing)

-- of the changes from a number on, and one fixing more
behind_from : (all : List Change) (fixing : Fixing) (number : ℕ) (changes : List Change) → is_withdrawn (number + length changes) all ≡ false
    → standing_from (all ++ Fix fixing ∷ []) number (changes ++ Fix fixing ∷ []) ≡ standing_from all number changes ++ (number + length changes, fixing) ∷ []
behind_from all fixing number [] kept =
    let here : number + 0 ≡ number = omega arith in
    let stands : is_withdrawn number (all ++ Fix fixing ∷ []) ≡ false = same_back number all fixing ∙ ap (λ (n : ℕ). is_withdrawn n all) (sym here) ∙ kept in
    rw (stands, here) refl
behind_from all fixing number (Withdraw k ∷ changes) kept =
    let next : number + suc (length changes) ≡ (number + 1) + length changes = omega arith in
    behind_from all fixing (number + 1) changes (ap (λ (n : ℕ). is_withdrawn n all) (sym next) ∙ kept)
    ∙ ap (λ (n : ℕ). standing_from all (number + 1) changes ++ (n, fixing) ∷ []) (sym next)
behind_from all fixing number (Fix other ∷ changes) kept =
    let next : number + suc (length changes) ≡ (number + 1) + length changes = omega arith in
    let later : standing_from (all ++ Fix fixing ∷ []) (number + 1) (changes ++ Fix fixing ∷ []) ≡ standing_from all (number + 1) changes ++ (number + suc (length changes), fixing) ∷ [] =
    behind_from all fixing (number + 1) changes (ap (λ (n : ℕ). is_withdrawn n all) (sym next) ∙ kept)
    ∙ ap (λ (n : ℕ). standing_from all (number + 1) changes ++ (n, fixing) ∷ []) (sym next) in
    elim (cases_Bool (is_withdrawn number all)) [
      | inl is ↦ rw (same_back number all fixing, is) later
      | inr is ↦ rw (same_back number all fixing, is) (ap (λ (l : List (ℕ × Fixing)). (number, other) ∷ l) later)
    ]

-- of all changes
standing_behind : (changes : List Change) (fixing : Fixing) → is_withdrawn (1 + length changes) changes ≡ false → standing_of (changes ++ Fix fixing ∷ []) ≡ standing_of changes ++ fixing ∷ []
standing_behind changes fixing kept =
    ap (λ (l : List (ℕ × Fixing)). map (λ p. p.1) l) (behind_from changes fixing 1 changes kept) ∙ map_push (λ p. p.1) (numbered_standing changes) (1 + length changes, fixing)

module _ (problem : Problem) (changes : List Change) (edition : IsEdition problem changes) where
  -- a withdrawal is of a change before it
  of_before : (i k : ℕ) → slice_get changes i ≡ Some (Withdraw k) → k ≤ i
  of_before i k at =
      let back = accepted_back (take i changes) k (i + 1) (edition i (Withdraw k) at) in
      let found = change_within (take i changes) k (Fix back.fixing) back.there in
      omega (arith, found.1, found.2, length-take-le i changes (omega (arith, slice_get_within changes i (Withdraw k) at)))

  -- of the first changes none takes back the next one
  none_yet : (j : ℕ) → is_withdrawn (1 + length (take j changes)) (take j changes) ≡ false
  none_yet j =
      none_back (1 + length (take j changes)) (take j changes) (λ i k at same.
      let whole : slice_get changes i ≡ Some (Withdraw k) = subst (λ (l : List Change). slice_get l i ≡ Some (Withdraw k)) (take-append-drop j changes)
      (get_kept (take j changes) (drop j changes) (Withdraw k) i at) in
      omega (arith, same, of_before i k whole, slice_get_within (take j changes) i (Withdraw k) at))

  -- the first changes, and one more
  taken_more : (j : ℕ) (change : Change) → slice_get changes j ≡ Some change → take (j + 1) changes ≡ take j changes ++ change ∷ []
  taken_more j change at =
      let one : suc j ≡ j + 1 = omega arith in
      ap (λ (k : ℕ). take k changes) (sym one) ∙ take-suc changes j change (slice_get_within changes j change at)
      ∙ ap (λ (d : Change). take j changes ++ d ∷ []) (get_or_from_slice_get changes j change change at)

  -- the fixings that stand after one more change, where that is a fixing
  pub stands_behind : (j : ℕ) (fixing : Fixing) → slice_get changes j ≡ Some (Fix fixing) → standing_of (take (j + 1) changes) ≡ standing_of (take j changes) ++ fixing ∷ []
  stands_behind j fixing at = ap standing_of (taken_more j (Fix fixing) at) ∙ standing_behind (take j changes) fixing (none_yet j)
