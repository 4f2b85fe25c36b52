-- Where the first line ends.
use Rattle.std.proofs.Common.{◌≡◌, ℕ, suc, zero, ◌+◌, ◌≤◌, ◌<◌, Bool, true, false, ◌==◌, if◌then◌else◌, List, [], ◌∷◌, length, take, drop, None, Some, cond, position, refl, ap, ◌∙◌, arith}
use Rattle.std.proofs.Math.ListN.{get_or}
use Rattle.std.specs.List.{position_or_len}
use Rattle.std.specs.Prelude.{nat_lt}
use Rattle.std.proofs.lemmas.Bool.Decides.{nat_tests}
use Rattle.std.proofs.lemmas.List.Recursion.{is_position_or_len}
use Rattle.std.proofs.lemmas.List.{drop-drop, length-drop}
use Rattle.std.specs.Io.BufRead.{take_through}
use Rattle.disp_outside.specs.Lines.{feed_lines, put_before}

-- the bytes up to the first LF
pub to_first : (xs : List ℕ) (i : ℕ) → i < length xs → (get_or xs i 0 == 10) ≡ true → ((k : ℕ) → k < i → (get_or xs k 0 == 10) ≡ false) → take (suc i) xs ≡ take_through 10 xs
to_first [] i within here before = absurd (omega arith)
to_first (x ∷ xs) zero within here before = rw here refl
to_first (x ∷ xs) (suc i) within here before =
    let first : (x == 10) ≡ false = before 0 (omega arith) in
    rw first (ap (λ line. x ∷ line) (to_first xs i (omega arith) here (λ k below. before (suc k) (omega arith))))

-- where the first LF is, or how many bytes there are
abbrev pub first_at : List ℕ → ℕ
first_at [] = 0
first_at (x ∷ xs) = cond (x == 10) 0 (1 + first_at xs)

not_some : (b : Bool) (n : ℕ) → cond b (Some n) None ≡ None → b ≡ false
not_some true n e = cc
not_some false n e = refl

none_before : (xs : List ℕ) → length xs ≤ first_at xs → xs ≡ take_through 10 xs
none_before [] none = refl
none_before (x ∷ xs) none = elim_first (x == 10) (first_at xs) none (none_before xs)
  where
    elim_first : (b : Bool) (n : ℕ) → suc (length xs) ≤ cond b 0 (1 + n) → (length xs ≤ n → xs ≡ take_through 10 xs) → x ∷ xs ≡ (if b then x ∷ [] else x ∷ take_through 10 xs)
    elim_first true n le rest = absurd (omega arith)
    elim_first false n le rest = ap (λ line. x ∷ line) (rest (omega arith))

-- all bytes, where there is no LF
pub to_end : (xs : List ℕ) → position (λ byte. byte == 10) xs ≡ None → xs ≡ take_through 10 xs
to_end xs none =
    let at : first_at xs ≡ position_or_len (λ byte. byte == 10) xs = is_position_or_len first_at (λ byte. byte == 10) refl (λ y ys. refl) xs in
    let past = not_some (nat_lt (position_or_len (λ byte. byte == 10) xs) (length xs)) (position_or_len (λ byte. byte == 10) xs) none in
    none_before xs (grind (arith, nat_tests, at, past))

-- no line is longer than the bytes
pub first_within : (xs : List ℕ) → length (take_through 10 xs) ≤ length xs
first_within [] = omega arith
first_within (x ∷ xs) =
    elim (x == 10) as (λ b. length (if b then x ∷ [] else x ∷ take_through 10 xs) ≤ suc (length xs)) [
      | true ↦ omega arith
      | false ↦ let rest = first_within xs in omega arith
    ]

-- a line has a byte
pub first_has_byte : (xs : List ℕ) → 0 < length xs → 0 < length (take_through 10 xs)
first_has_byte [] some = absurd (omega arith)
first_has_byte (x ∷ xs) some =
    elim (x == 10) as (λ b. 0 < length (if b then x ∷ [] else x ∷ take_through 10 xs)) [ true ↦ omega arith | false ↦ omega arith ]

-- the first line, and those behind it
pub split_first : (xs : List ℕ) → 0 < length xs → feed_lines xs ≡ take_through 10 xs ∷ feed_lines (drop (length (take_through 10 xs)) xs)
split_first [] some = absurd (omega arith)
split_first (x ∷ []) some =
    elim (x == 10) as (λ b. (if b then (x ∷ []) ∷ feed_lines [] else put_before x (feed_lines [])) ≡ (if b then x ∷ [] else x ∷ take_through 10 []) ∷ feed_lines (drop (length (if b then x ∷ [] else x ∷ take_through 10 [])) (x ∷ []))) [
      | true ↦ refl
      | false ↦ refl
    ]
split_first (x ∷ y ∷ ys) some =
    elim (x == 10) as (λ b. (if b then (x ∷ []) ∷ feed_lines (y ∷ ys) else put_before x (feed_lines (y ∷ ys))) ≡ (if b then x ∷ [] else x ∷ take_through 10 (y ∷ ys)) ∷ feed_lines (drop (length (if b then x ∷ [] else x ∷ take_through 10 (y ∷ ys))) (x ∷ y ∷ ys))) [
      | true ↦ refl
      | false ↦ ap (put_before x) (split_first (y ∷ ys) (omega arith))
    ]

-- the same from a place on
pub split_at : (xs : List ℕ) (at : ℕ) → 0 < length (drop at xs) → feed_lines (drop at xs) ≡ take_through 10 (drop at xs) ∷ feed_lines (drop (at + length (take_through 10 (drop at xs))) xs)
split_at xs at some = split_first (drop at xs) some ∙ ap (λ rest. take_through 10 (drop at xs) ∷ feed_lines rest) (drop-drop (length (take_through 10 (drop at xs))) at xs)

-- and no further than the end
pub within_at : (xs : List ℕ) (at : ℕ) → at ≤ length xs → at + length (take_through 10 (drop at xs)) ≤ length xs
within_at xs at le = omega (arith, first_within (drop at xs), length-drop at xs)
