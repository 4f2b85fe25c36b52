-- The number of a field: what the reader of numbers answers, and what a number's text is read as.
use Rattle.std.proofs.Common.{◌≡◌, ℕ, ◌<◌, ◌≤◌, Bool, true, false, List, [], ◌∷◌, length, get_or, refl, sym, ap, arith, ltb-true, lt-ltb, le-leb, eqb-true}
use Rattle.std.specs.Prelude.{Ok, Err, IsErrOf, ◌&&◌, ◌||◌, not, ◌==◌, nat_lt}
use Rattle.std.specs.List.{list_all}
use Rattle.std.specs.Char.{digit_value}
use Rattle.std.proofs.lemmas.Bool.{lt-leb}
use Rattle.std.proofs.lemmas.List.Elements.{All-nil, All-cons, All-tail}
use Rattle.plain_values.specs.declared.number.NumberNo.{NumberNo}
use Rattle.plain_values.specs.Decimal.{AreDigits, IsDecimal, IsNumber, IsAbove, value_of}
use Rattle.tree_certificate.specs.declared.fault.Fault.TheVariants.{Bad, Large}
use Rattle.tree_certificate.specs.FieldsRead.{is_decimal, whole_field}

-- one answer of the reader of numbers
pub is_error : (e f : NumberNo) → e ≡ f → IsErrOf {T = ℕ} (Err e) f
is_error e f same = ap Err same

abbrev is_digit : ℕ → Bool
is_digit b = nat_lt (digit_value b) 10

abbrev Digit : ℕ → Type 0
Digit b = digit_value b < 10

both_true : (a b : Bool) → (a && b) ≡ true → (a ≡ true) × (b ≡ true)
both_true true b e = (refl, e)
both_true false b e = absurd cc

true_both : (a b : Bool) → a ≡ true → b ≡ true → (a && b) ≡ true
true_both true b e f = f
true_both false b e f = absurd cc

pub digits_true : (bytes : List ℕ) → list_all is_digit bytes ≡ true → AreDigits bytes
digits_true [] all = All-nil Digit
digits_true (c ∷ cs) all =
    let both = both_true (is_digit c) (list_all is_digit cs) all in
    All-cons Digit c cs (ltb-true (digit_value c) 10 both.0) (digits_true cs both.1)

pub true_digits : (bytes : List ℕ) → AreDigits bytes → list_all is_digit bytes ≡ true
true_digits [] digits = refl
true_digits (c ∷ cs) digits = true_both (is_digit c) (list_all is_digit cs) (lt-ltb (digit_value c) 10 (digits 0 0 (omega arith))) (true_digits cs (All-tail Digit c cs digits))

-- either short, or not beginning with a zero
abbrev is_needful : List ℕ → Bool
is_needful bytes = nat_lt (length bytes) 2 || not (get_or bytes 0 0 == 48)

either_true : (a b : Bool) → (a || b) ≡ true → b ≡ false → a ≡ true
either_true true b e f = refl
either_true false b e f = absurd cc

left_true : (a b : Bool) → a ≡ true → (a || b) ≡ true
left_true true b e = refl
left_true false b e = absurd cc

right_true : (a b : Bool) → b ≡ true → (a || b) ≡ true
right_true true b e = refl
right_true false b e = e

not_of_true : (b : Bool) → b ≡ true → not b ≡ false
not_of_true true e = refl
not_of_true false e = absurd cc

not_of_false : (b : Bool) → b ≡ false → not b ≡ true
not_of_false true e = absurd cc
not_of_false false e = refl

zero_alone : (bytes : List ℕ) → 0 < length bytes → is_needful bytes ≡ true → get_or bytes 0 0 ≡ 48 → length bytes ≡ 1
zero_alone bytes some needful first =
    let short : nat_lt (length bytes) 2 ≡ true = either_true (nat_lt (length bytes) 2) (not (get_or bytes 0 0 == 48)) needful (not_of_true (get_or bytes 0 0 == 48) (rw first refl)) in
    let lt : length bytes < 2 = ltb-true (length bytes) 2 short in
    omega (arith, lt, some)

needful_by : (bytes : List ℕ) (b : Bool) → (get_or bytes 0 0 == 48) ≡ b → (get_or bytes 0 0 ≡ 48 → length bytes ≡ 1) → is_needful bytes ≡ true
needful_by bytes true is alone =
    let one : length bytes ≡ 1 = alone (eqb-true (get_or bytes 0 0) 48 is) in
    left_true (nat_lt (length bytes) 2) (not (get_or bytes 0 0 == 48)) (lt-ltb (length bytes) 2 (omega (arith, one)))
needful_by bytes false is alone = right_true (nat_lt (length bytes) 2) (not (get_or bytes 0 0 == 48)) (not_of_false (get_or bytes 0 0 == 48) is)

pub decimal_true : (bytes : List ℕ) → is_decimal bytes ≡ true → IsDecimal bytes
decimal_true bytes e =
    let outer = both_true (nat_lt 0 (length bytes) && list_all is_digit bytes) (is_needful bytes) e in
    let inner = both_true (nat_lt 0 (length bytes)) (list_all is_digit bytes) outer.0 in
    let some : 0 < length bytes = ltb-true 0 (length bytes) inner.0 in
    record { some = some; digits = digits_true bytes inner.1; zero_alone = zero_alone bytes some outer.1 }

pub true_decimal : (bytes : List ℕ) → IsDecimal bytes → is_decimal bytes ≡ true
true_decimal bytes is =
    true_both (nat_lt 0 (length bytes) && list_all is_digit bytes) (is_needful bytes)
    (true_both (nat_lt 0 (length bytes)) (list_all is_digit bytes) (lt-ltb 0 (length bytes) is.some) (true_digits bytes is.digits))
    (needful_by bytes (get_or bytes 0 0 == 48) refl is.zero_alone)

false_decimal_by : (bytes : List ℕ) (b : Bool) → is_decimal bytes ≡ b → (IsDecimal bytes → ⊥) → b ≡ false
false_decimal_by bytes true is not_decimal = absurd (not_decimal (decimal_true bytes is))
false_decimal_by bytes false is not_decimal = refl

-- the reader of numbers answers what the number of the field is
pub reads_number : (left most : ℕ) (field : List ℕ) (n : ℕ) → IsNumber field most n → whole_field left most field ≡ Ok n
unfolding whole_field
reads_number left most field n read =
    let same : n ≡ value_of field = read.value in
    let within : value_of field ≤ most = rw (← same) read.within in
    rw (true_decimal field read.decimal, le-leb (value_of field) most within) (ap Ok (sym same))

pub reads_none : (left most : ℕ) (field : List ℕ) → (IsDecimal field → ⊥) → whole_field left most field ≡ Err (Bad left)
unfolding whole_field
reads_none left most field not_decimal = rw (false_decimal_by field (is_decimal field) refl not_decimal) refl

pub reads_above : (left most : ℕ) (field : List ℕ) → IsAbove field most → whole_field left most field ≡ Err (Large left)
unfolding whole_field
reads_above left most field above = rw (true_decimal field above.decimal, lt-leb (value_of field) most above.above) refl
