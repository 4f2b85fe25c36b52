-- Numbers as they stand in lines: decimal digits, without sign and without needless zeros.
use Rattle.std.specs.Prelude.{◌≡◌, ℕ, ◌<◌, ◌≤◌, List, length, get_or, All}
use Rattle.std.specs.Char.{digit_value}
use Rattle.std.specs.Str.Parse.{digits_value}

-- each byte is a decimal digit
abbrev pub AreDigits : List ℕ → Type 0
AreDigits bytes = All (λ byte. digit_value byte < 10) bytes

-- the bytes are digits, at least one, and do not begin with a zero unless they are that zero alone
pub record IsDecimal (bytes : List ℕ) : Type 0 where
  pub some : 0 < length bytes
  pub digits : AreDigits bytes
  pub zero_alone : get_or bytes 0 0 ≡ 48 → length bytes ≡ 1

-- the number that the digits write
abbrev pub value_of : List ℕ → ℕ
value_of bytes = digits_value 10 bytes

-- the bytes are the number's, which is at most so much
pub record IsNumber (bytes : List ℕ) (most n : ℕ) : Type 0 where
  pub decimal : IsDecimal bytes
  pub value : n ≡ value_of bytes
  pub within : n ≤ most

-- the bytes are a number's that is above the most
pub record IsAbove (bytes : List ℕ) (most : ℕ) : Type 0 where
  pub decimal : IsDecimal bytes
  pub above : most < value_of bytes
