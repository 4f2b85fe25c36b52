-- The number of more and more digits.
use Rattle.std.proofs.Common.{◌≡◌, ℕ, ◌+◌, ◌*◌, ◌<◌, ◌≤◌, List, length, take, get_or, arith}
use Rattle.std.specs.Char.{digit_value}
use Rattle.std.proofs.lemmas.Grind.{get_or_default_zero}
use Rattle.std.proofs.lemmas.Int.Digits.{digits_value_more}
use Rattle.std.proofs.lemmas.Str.Parse.{digits_value-take-le}
use Rattle.plain_values.specs.Decimal.{value_of}

-- one more digit
pub more : (bytes : List ℕ) (i d : ℕ) → i < length bytes → value_of (take (i + 1) bytes) ≡ value_of (take i bytes) * 10 + digit_value (get_or bytes i d)
more bytes i d within = rw (get_or_default_zero bytes i d within) (digits_value_more 10 bytes i within)

-- what is above with some of the digits is above with all
pub above : (bytes : List ℕ) (i most : ℕ) → most < value_of (take i bytes) → most < value_of bytes
above bytes i most lt =
    let le : value_of (take i bytes) ≤ value_of bytes = digits_value-take-le 10 bytes i (omega arith) in
    omega (arith, lt, le)
