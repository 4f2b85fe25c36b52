-- Feeds that were read in two halves.
use Rattle.std.proofs.Common.{◌≡◌, ◌∙◌, ℕ, ◌+◌, ◌-◌, ◌<◌, ◌≤◌, ⊎_elim, List, ◌++◌, Option, get_or, length, sym, subst, arith}
use Rattle.std.proofs.lemmas.Bool.{cases_lt}
use Rattle.std.proofs.lemmas.List.{get_or_append_left, get_or-append-add, length-append}
use Rattle.feed_runs.specs.declared.reader.Reader.{Reader}
use Rattle.feed_runs.specs.Readers.{HasRead, HaveRead}

module _ {F : Type 0} (told : F → Option (List (List ℕ))) (faults : F → ℕ) (name : F → List ℕ) where
  pub have_both : (xs ys us vs : List (Reader F)) → HaveRead told faults name xs us → HaveRead told faults name ys vs → HaveRead told faults name (xs ++ ys) (us ++ vs)
  have_both xs ys us vs front back = record {
    as_many = length-append us vs ∙ (omega (arith, front.as_many, back.as_many) ∙ sym (length-append xs ys));
    each = λ place d within. ⊎_elim
        (λ (early : place < length xs).
        let early_too : place < length us = omega (arith, early, front.as_many) in
        subst (HasRead told faults name (get_or (xs ++ ys) place d)) (sym (get_or_append_left us vs d place early_too))
        (subst (λ (r : Reader F). HasRead told faults name r (get_or us place d)) (sym (get_or_append_left xs ys d place early)) (front.each place d early)))
        (λ (late : length xs ≤ place). behind place d within late)
        (cases_lt place (length xs));
  }
    where
      behind : (place : ℕ) (d : Reader F) → place < length (xs ++ ys) → length xs ≤ place → HasRead told faults name (get_or (xs ++ ys) place d) (get_or (us ++ vs) place d)
      behind place d within late =
          let rest = place - length xs in
          let at : length xs + rest ≡ place = omega (arith, late) in
          let at_too : length us + rest ≡ place = omega (arith, late, front.as_many) in
          let inside : rest < length ys = omega (arith, late, within, length-append xs ys) in
          subst (λ (n : ℕ). HasRead told faults name (get_or (xs ++ ys) n d) (get_or (us ++ vs) place d)) at
          (subst (λ (n : ℕ). HasRead told faults name (get_or (xs ++ ys) (length xs + rest) d) (get_or (us ++ vs) n d)) at_too
          (subst (HasRead told faults name (get_or (xs ++ ys) (length xs + rest) d)) (sym (get_or-append-add us vs rest d))
          (subst (λ (r : Reader F). HasRead told faults name r (get_or vs rest d)) (sym (get_or-append-add xs ys rest d)) (back.each rest d inside))))
