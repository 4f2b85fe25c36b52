-- The text of a number, and what it is read as.
use Rattle.std.proofs.Common.{◌≡◌, ℕ, zero, suc, ◌+◌, ◌<◌, ◌≤◌, ◌^◌, List, [], ◌∷◌, length, get_or, refl, sym, ap, subst, ◌∙◌, arith}
use Rattle.std.specs.Prelude.{◌↔◌, Option, Some, None, Result, Ok, Err, MatchOption, IfOk, IsErrOf}
use Rattle.std.specs.Result.{OkIff, result_ok}
use Rattle.std.specs.Fmt.{decimal}
use Rattle.std.specs.Char.{digit_value}
use Rattle.std.specs.Str.Parse.{AllDigits, digits_value}
use Rattle.std.proofs.lemmas.Str.Parse.{IsNumeralModel, numerals_by_value, tells_digits, not_in_digits}
use Rattle.std.proofs.lemmas.Fmt.{decimal-digits_value, digits_decimal, digits_value-decimal, decimal_nonempty, decimal_digit, first_decimal}
use Rattle.std.proofs.lemmas.List.Elements.{All-nil, All-cons, All-tail}
use Rattle.std.proofs.lemmas.Grind.{get_or_default_zero}
use Rattle.plain_values.specs.declared.number.NumberNo.{NumberNo}
use Rattle.plain_values.specs.declared.number.NumberNo.TheVariants.{NotNumber, TooLarge}
use Rattle.plain_values.specs.Decimal.{AreDigits, IsDecimal, IsNumber, IsAbove, value_of}
use Rattle.fixing_lines.specs.Requests.{IsField, HasNoSpace}

own : IsNumeralModel (AllDigits 10) (digits_value 10)
own = numerals_by_value (AllDigits 10) tells_digits

are_digits : (bytes : List ℕ) → AllDigits 10 bytes → AreDigits bytes
are_digits [] digits = All-nil (λ (byte : ℕ). digit_value byte < 10)
are_digits (c ∷ cs) digits = All-cons (λ (byte : ℕ). digit_value byte < 10) c cs digits.0 (are_digits cs digits.1)

all_digits : (bytes : List ℕ) → AreDigits bytes → AllDigits 10 bytes
all_digits [] digits = tt
all_digits (c ∷ cs) digits = (digits 0 0 (omega arith), all_digits cs (All-tail (λ (byte : ℕ). digit_value byte < 10) c cs digits))

-- the bytes of a number are its text
read_is_field : (bytes : List ℕ) (most n : ℕ) → most < 2 ^ 64 → IsNumber bytes most n → IsField bytes n
read_is_field bytes most n limit read =
    let same : n ≡ value_of bytes = read.value in
    let le : n ≤ most = read.within in
    let small : value_of bytes < 2 ^ 64 = omega (arith, limit, same, le) in
    let text : decimal (value_of bytes) ≡ bytes = decimal-digits_value own bytes (all_digits bytes read.decimal.digits) read.decimal.some read.decimal.zero_alone small in
    record {
      within = omega (arith, limit, le);
      text = sym text ∙ ap decimal (sym same);
    }

zero_alone : (n : ℕ) → n < 2 ^ 64 → get_or (decimal n) 0 0 ≡ 48 → length (decimal n) ≡ 1
zero_alone zero small first = ap length (decimal_digit 0 (omega arith))
zero_alone (suc n) small first =
    let above : 48 < get_or (decimal (suc n)) 0 0 = first_decimal (suc n) (omega arith) small in
    absurd (omega (arith, above, first))

text_is_decimal : (n : ℕ) → n < 2 ^ 64 → IsDecimal (decimal n)
text_is_decimal n small = record {
  some = decimal_nonempty n small;
  digits = are_digits (decimal n) (digits_decimal own n small);
  zero_alone = zero_alone n small;
}

-- the number of a field is not above the greatest
not_above : (bytes : List ℕ) (most n : ℕ) → 2 ^ 64 ≤ most + 1 → IsField bytes n → IsAbove bytes most → ⊥
not_above bytes most n limit field too_large =
    let small : n < 2 ^ 64 = field.within in
    let value : value_of bytes ≡ n = ap value_of field.text ∙ digits_value-decimal own n small in
    let above : most < value_of bytes = too_large.above in
    omega (arith, limit, small, value, above)

-- what is not read is no field
pub unread_is_no_field : (bytes : List ℕ) (most : ℕ) (r : Result ℕ NumberNo) → 2 ^ 64 ≤ most + 1 → IsErrOf r NotNumber ↔ (IsDecimal bytes → ⊥) → IsErrOf r TooLarge ↔ IsAbove bytes most → None ≡ result_ok r
    → (n : ℕ) → IsField bytes n → ⊥
unread_is_no_field bytes most (Ok m) limit not_number too_large none n field = subst (λ (o : Option ℕ). MatchOption o (Unit {0}) (λ (k : ℕ). ⊥)) none tt
unread_is_no_field bytes most (Err NotNumber) limit not_number too_large none n field = not_number.0 refl (subst IsDecimal (sym field.text) (text_is_decimal n field.within))
unread_is_no_field bytes most (Err TooLarge) limit not_number too_large none n field = not_above bytes most n limit field (too_large.0 refl)

-- a number that was read keeps its value
kept_is_field : {E : Type 0} (bytes : List ℕ) (n : ℕ) (r : Result ℕ E) (o : Option ℕ) → IsField bytes n → OkIff r (n < 2 ^ 64) n → o ≡ result_ok r → MatchOption o ((m : ℕ) → IsField bytes m → ⊥) (IsField bytes)
kept_is_field bytes n (Ok m) o field kept is =
    let here : MatchOption (Some m) ((k : ℕ) → IsField bytes k → ⊥) (IsField bytes) = subst (IsField bytes) (sym kept.1) field in
    subst (λ (p : Option ℕ). MatchOption p ((k : ℕ) → IsField bytes k → ⊥) (IsField bytes)) (sym is) here
kept_is_field bytes n (Err e) o field kept is = absurd (kept field.within)

-- a number that was read is a field's, also where it is held in fewer bits
pub read_number_is_field : {E : Type 0} (bytes : List ℕ) (most n : ℕ) (read : Result ℕ NumberNo) (r : Result ℕ E) (o : Option ℕ) → most < 2 ^ 64 → IfOk read (IsNumber bytes most) → Some n ≡ result_ok read → OkIff r (n < 2 ^ 64) n
    → o ≡ result_ok r → MatchOption o ((m : ℕ) → IsField bytes m → ⊥) (IsField bytes)
read_number_is_field bytes most n (Ok m) r o limit ok some kept is =
    let same : n ≡ m = subst (λ (p : Option ℕ). MatchOption p ⊥ (λ (k : ℕ). n ≡ k)) some refl in
    kept_is_field bytes n r o (read_is_field bytes most n limit (subst (IsNumber bytes most) (sym same) ok)) kept is
read_number_is_field bytes most n (Err e) r o limit ok some kept is = absurd (subst (λ (p : Option ℕ). MatchOption p ⊥ (λ (k : ℕ). Unit {0})) some tt)

-- a number's text has no space
pub no_space_in_number : (n : ℕ) → n < 2 ^ 64 → HasNoSpace (decimal n)
no_space_in_number n small i d within is =
    not_in_digits own (decimal n) 32 (digits_decimal own n small) (λ h. omega (arith, h)) i within (sym (get_or_default_zero (decimal n) i d within) ∙ is)
