-- Lists that begin with others, and lists of places.
use Rattle.std.proofs.Common.{◌≡◌, ℕ, zero, suc, ◌+◌, ◌<◌, ◌≤◌, ◌⊎◌, Bool, true, false, List, [], ◌∷◌, ◌++◌, length, sym, refl, ap, ◌∙◌, subst, inl, inr, arith, append_assoc, length-append, Some}
use Rattle.std.specs.Prelude.{slice_get, nat_lt}
use Rattle.std.proofs.lemmas.List.{append-nil}
use Rattle.std.proofs.lemmas.Bool.{ltb-true, ltb-false, cond_both}
use Rattle.turn_lock.specs.Known.{StartsWith, longer_of, shorter_of}

pub either_bool : (b : Bool) → (b ≡ true) ⊎ (b ≡ false)
either_bool true = inl refl
either_bool false = inr refl

module _ {E : Type 0} where
  pub nil_of : (l : List E) → length l ≡ 0 → l ≡ []
  nil_of [] e = refl
  nil_of (x ∷ l) e = absurd (omega arith)

  pub starts_none : (h : List E) → StartsWith h []
  starts_none h = (h, refl)

  pub starts_refl : (h : List E) → StartsWith h h
  starts_refl h = ([], sym (append-nil h))

  pub starts_more : (h p m : List E) → StartsWith h p → StartsWith (h ++ m) p
  starts_more h p m (rest, e) = (rest ++ m, ap (λ l. l ++ m) e ∙ append_assoc p rest m)

  pub starts_length : (h p : List E) → StartsWith h p → length p ≤ length h
  starts_length h p (rest, e) = let n : length h ≡ length p + length rest = ap length e ∙ length-append p rest in omega arith

  pub none_there : (k : ℕ) (e : E) → slice_get [] k ≡ Some e → ⊥
  none_there k e found = absurd (cc)

  pub get_left : (p r : List E) (k : ℕ) (e : E) → slice_get p k ≡ Some e → slice_get (p ++ r) k ≡ Some e
  get_left [] r k e h = absurd (cc)
  get_left (x ∷ p) r zero e h = h
  get_left (x ∷ p) r (suc k) e h = get_left p r k e h

  pub get_back : (p r : List E) (k : ℕ) (e : E) → k < length p → slice_get (p ++ r) k ≡ Some e → slice_get p k ≡ Some e
  get_back [] r k e l h = absurd (omega arith)
  get_back (x ∷ p) r zero e l h = h
  get_back (x ∷ p) r (suc k) e l h = get_back p r k e (omega arith) h

  pub get_last : (p : List E) (x e : E) (k : ℕ) → length p ≤ k → slice_get (p ++ x ∷ []) k ≡ Some e → (k ≡ length p) × (x ≡ e)
  get_last [] x e zero l h = (refl, cc)
  get_last [] x e (suc k) l h = absurd (cc)
  get_last (y ∷ p) x e zero l h = absurd (omega arith)
  get_last (y ∷ p) x e (suc k) l h = let r = get_last p x e k (omega arith) h in (ap suc r.0, r.1)

  pub starts_get : (h p : List E) → StartsWith h p → (k : ℕ) (e : E) → slice_get p k ≡ Some e → slice_get h k ≡ Some e
  starts_get h p (rest, e) k x g = subst (λ l. slice_get l k ≡ Some x) (sym e) (get_left p rest k x g)

  pub starts_back : (h p : List E) → StartsWith h p → (k : ℕ) (e : E) → k < length p → slice_get h k ≡ Some e → slice_get p k ≡ Some e
  starts_back h p (rest, e) k x l g = get_back p rest k x l (subst (λ l. slice_get l k ≡ Some x) e g)

  both_start : (a b r q : List E) → a ++ r ≡ b ++ q → length a ≤ length b → StartsWith b a
  both_start [] b r q e l = (b, refl)
  both_start (x ∷ a) [] r q e l = absurd (omega arith)
  both_start (x ∷ a) (y ∷ b) r q e l = let h : y ≡ x = cc in let t : a ++ r ≡ b ++ q = cc in let s = both_start a b r q t (omega arith) in (s.0, λ i. h i ∷ s.1 i)

  -- of two beginnings of one list the shorter begins the longer
  pub starts_both : (h a b : List E) → StartsWith h a → StartsWith h b → length a ≤ length b → StartsWith b a
  starts_both h a b s t l = both_start a b s.0 t.0 (sym s.1 ∙ t.1) l

  pub starts_whole : (h p : List E) → StartsWith h p → length h ≤ length p → p ≡ h
  starts_whole h p (rest, e) l = let n : length h ≡ length p + length rest = ap length e ∙ length-append p rest in
      let none_left : rest ≡ [] = nil_of rest (omega arith) in sym (e ∙ (ap (λ r. p ++ r) none_left ∙ append-nil p))

  pub longer_starts : (h a b : List E) → StartsWith h a → StartsWith h b → StartsWith h (longer_of a b)
  longer_starts h a b s t = cond_both (nat_lt (length a) (length b)) b a (StartsWith h) (λ _. t) (λ _. s)

  pub shorter_starts : (h a b : List E) → StartsWith h a → StartsWith h b → StartsWith h (shorter_of a b)
  shorter_starts h a b s t = cond_both (nat_lt (length a) (length b)) a b (StartsWith h) (λ _. s) (λ _. t)

  pub le_longer : (a b : List E) → (length a ≤ length (longer_of a b)) × (length b ≤ length (longer_of a b))
  le_longer a b = cond_both (nat_lt (length a) (length b)) b a (λ (l : List E). (length a ≤ length l) × (length b ≤ length l))
      (λ e. let h = ltb-true (length a) (length b) e in (omega arith, omega arith)) (λ e. let h = ltb-false (length a) (length b) e in (omega arith, omega arith))

  pub shorter_le : (a b : List E) → length (shorter_of a b) ≤ length (longer_of a b)
  shorter_le a b = let m = le_longer a b in cond_both (nat_lt (length a) (length b)) a b (λ (l : List E). length l ≤ length (longer_of a b)) (λ _. m.0) (λ _. m.1)
