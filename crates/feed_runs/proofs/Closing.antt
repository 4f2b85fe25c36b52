-- Feeds that are closed, one after the other.
use Rattle.std.proofs.Common.{◌≡◌, ◌≢◌, ◌∙◌, ℕ, ◌+◌, ◌<◌, ◌≤◌, ◌⊎◌, inl, inr, ⊎_elim, true, false, List, [], ◌∷◌, ◌++◌, Contains, get_or, nat_eq, refl, sym, subst, arith}
use Rattle.std.specs.Prelude.{◌↔◌}
use Rattle.std.specs.Cmp.Lexicographic.{pointwise, bytes_decides}
use Rattle.std.proofs.lemmas.Bool.{cases_lt}
use Rattle.std.proofs.lemmas.List.Elements.{All-append, Contains-append_left, Contains-append_right}
use Rattle.turn_lock.proofs.Beginnings.{either_bool}
use Rattle.feed_runs.specs.Readers.{CountsFeeds}

-- two names are the same, or not
same_or_other : (one other : List ℕ) → (one ≡ other) ⊎ (one ≢ other)
same_or_other one other = ⊎_elim
    (λ (yes : pointwise nat_eq one other ≡ true). inl ((bytes_decides one other).0 yes))
    (λ (no : pointwise nat_eq one other ≡ false). inr (λ same. unlike (sym no ∙ (bytes_decides one other).1 same)))
    (either_bool (pointwise nat_eq one other))
  where
    unlike : false ≡ true → ⊥
    unlike e = cc

module _ {F : Type 0} (name : F → List ℕ) (faults : F → ℕ) where
  pub none_closed : (counts : List ℕ → ℕ) → CountsFeeds name faults [] counts counts
  none_closed counts = record {
    counted = λ one. omega arith;
    risen = λ one rises. absurd (omega (arith, rises));
    failed = λ k d within. absurd (omega (arith, within));
  }

  -- what closing one does
  pub record Closes (feed : F) (mid new : List ℕ → ℕ) : Type 0 where
    pub exactly : (0 < faults feed) ↔ (mid (name feed) < new (name feed))
    pub counted : mid (name feed) ≤ new (name feed)
    pub others : (other : List ℕ) → other ≢ name feed → new other ≡ mid other

  module _ (feeds : List F) (feed : F) (old mid new : List ℕ → ℕ) (counts : CountsFeeds name faults feeds old mid) (closes : Closes feed mid new) where
    never : (one : List ℕ) → mid one ≤ new one
    never one = ⊎_elim
        (λ (same : one ≡ name feed). subst (λ (n : List ℕ). mid n ≤ new n) (sym same) closes.counted)
        (λ (other : one ≢ name feed). let stays = closes.others one other in omega arith)
        (same_or_other one (name feed))

    rises : (one : List ℕ) → old one < new one → (f : F) × Contains (feeds ++ feed ∷ []) f × (name f ≡ one) × (0 < faults f)
    rises one up = ⊎_elim
        (λ (same : one ≡ name feed). at_last same)
        (λ (other : one ≢ name feed). let stays = closes.others one other in let found = counts.risen one (omega (arith, up)) in (found.0, Contains-append_left feeds (feed ∷ []) found.0 found.1, found.2, found.3))
        (same_or_other one (name feed))
      where
        at_last : one ≡ name feed → (f : F) × Contains (feeds ++ feed ∷ []) f × (name f ≡ one) × (0 < faults f)
        at_last same = ⊎_elim
            (λ (before : old one < mid one). let found = counts.risen one before in (found.0, Contains-append_left feeds (feed ∷ []) found.0 found.1, found.2, found.3))
            (λ (late : mid one ≤ old one).
            let now : mid (name feed) < new (name feed) = subst (λ (n : List ℕ). mid n < new n) same (omega (arith, late, up)) in
            (feed, Contains-append_right feeds (feed ∷ []) feed (0, omega arith, refl), sym same, closes.exactly.1 now))
            (cases_lt (old one) (mid one))

    pub one_closed : CountsFeeds name faults (feeds ++ feed ∷ []) old new
    one_closed = record {
      counted = λ one. let first = counts.counted one in let then = never one in omega (arith, first, then);
      risen = rises;
      failed = All-append (λ f. 0 < faults f → old (name f) < new (name f)) feeds (feed ∷ [])
          (λ k d within fault. let first = counts.failed k d within fault in let then = never (name (get_or feeds k d)) in omega (arith, first, then))
          (λ k d within. let at : k ≡ 0 = omega (arith, within) in rw at (λ fault. let now = closes.exactly.0 fault in let first = counts.counted (name feed) in omega (arith, now, first)));
    }
