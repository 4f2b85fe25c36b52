-- What stands before the first byte of a kind, and from it on.
use Rattle.std.proofs.Common.{◌≡◌, ℕ, zero, suc, ◌<◌, List, [], ◌∷◌, ◌++◌, length, get_or, take, drop, refl, ap, arith, ne_eqb, eq-eqb}
use Rattle.std.proofs.lemmas.List.{take_all, drop_all}
use Rattle.std.proofs.lemmas.List.Elements.{All-tail}
use Rattle.tree_certificate.specs.FieldsRead.{HasNone, IsFirstByte, before, from}

abbrev Differs : ℕ → ℕ → Type 0
Differs byte b = b ≡ byte → ⊥

-- of all bytes, where none is such a byte
pub none_is : (byte : ℕ) (bytes : List ℕ) → HasNone byte bytes → (before byte bytes ≡ bytes) × (from byte bytes ≡ [])
none_is byte [] none = (refl, refl)
none_is byte (b ∷ bytes) none =
    let differs : b ≡ byte → ⊥ = none 0 0 (omega arith) in
    let rest = none_is byte bytes (All-tail (Differs byte) b bytes none) in
    (rw (ne_eqb b byte differs) (ap (λ (l : List ℕ). b ∷ l) rest.0), rw (ne_eqb b byte differs) rest.1)

pub none_before : (byte : ℕ) (bytes : List ℕ) → HasNone byte bytes → take (length bytes) bytes ≡ before byte bytes
none_before byte bytes none = rw (take_all (length bytes) bytes (omega arith), (none_is byte bytes none).0) refl

pub none_from : (byte : ℕ) (bytes : List ℕ) → HasNone byte bytes → drop (length bytes) bytes ≡ from byte bytes
none_from byte bytes none = rw (drop_all (length bytes) bytes (omega arith), (none_is byte bytes none).1) refl

-- round a byte behind bytes that are none such
pub around : (byte : ℕ) (front rest : List ℕ) → HasNone byte front
    → (before byte (front ++ byte ∷ rest) ≡ front) × (from byte (front ++ byte ∷ rest) ≡ byte ∷ rest)
around byte [] rest none = (rw (eq-eqb byte byte refl) refl, rw (eq-eqb byte byte refl) refl)
around byte (b ∷ front) rest none =
    let differs : b ≡ byte → ⊥ = none 0 0 (omega arith) in
    let both = around byte front rest (All-tail (Differs byte) b front none) in
    (rw (ne_eqb b byte differs) (ap (λ (l : List ℕ). b ∷ l) both.0), rw (ne_eqb b byte differs) both.1)

pub first_is : (byte : ℕ) (bytes : List ℕ) (k : ℕ) → k < length bytes → get_or bytes k 0 ≡ byte → HasNone byte (take k bytes)
    → (before byte bytes ≡ take k bytes) × (from byte bytes ≡ drop k bytes)
first_is byte [] k within is none = absurd (omega arith)
first_is byte (b ∷ bytes) zero within is none = (rw (eq-eqb b byte is) refl, rw (eq-eqb b byte is) refl)
first_is byte (b ∷ bytes) (suc k) within is none =
    let differs : b ≡ byte → ⊥ = none 0 0 (omega arith) in
    let rest = first_is byte bytes k (omega arith) is (All-tail (Differs byte) b (take k bytes) none) in
    (rw (ne_eqb b byte differs) (ap (λ (l : List ℕ). b ∷ l) rest.0), rw (ne_eqb b byte differs) rest.1)

pub first_before : (byte : ℕ) (bytes : List ℕ) (k : ℕ) → IsFirstByte byte bytes k → take k bytes ≡ before byte bytes
first_before byte bytes k first = rw (first_is byte bytes k first.within first.is first.none_before).0 refl

pub first_from : (byte : ℕ) (bytes : List ℕ) (k : ℕ) → IsFirstByte byte bytes k → drop k bytes ≡ from byte bytes
first_from byte bytes k first = rw (first_is byte bytes k first.within first.is first.none_before).1 refl
