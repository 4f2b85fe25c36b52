-- The fields of a line. Each reader answers what it read and the bytes behind it, or a fault, which
-- names its line by how many bytes are left from that line on.
use Rattle.std.specs.Prelude.{◌≡◌, ℕ, zero, suc, ◌<◌, All, List, [], ◌∷◌, length, take, drop, get_or, Bool, not, ◌&&◌, ◌||◌, ◌==◌, nat_eq, nat_lt, nat_le, Option, Some, None, Result, Ok, Err, ⊤, if◌then◌else◌}
use Rattle.std.specs.List.{list_all}
use Rattle.std.specs.Char.{digit_value}
use Rattle.std.specs.Cmp.Lexicographic.{pointwise}
use Rattle.plain_values.specs.Decimal.{value_of}
use Rattle.disp_model.specs.declared.train.Op.{Op}
use Rattle.disp_model.specs.declared.limits.TheConstants.{GREATEST_NUMBER}
use Rattle.tree_certificate.specs.declared.fault.Fault.{Fault}
use Rattle.tree_certificate.specs.declared.fault.Fault.TheVariants.{Bad, Large}
use Rattle.tree_certificate.specs.Reading.{◌>>=◌}

-- no byte is this one
abbrev pub HasNone : ℕ → List ℕ → Type 0
HasNone byte bytes = All (λ b. b ≡ byte → ⊥) bytes

-- the first such byte stands there
pub record IsFirstByte (byte : ℕ) (bytes : List ℕ) (place : ℕ) : Type 0 where
  pub within : place < length bytes
  pub is : get_or bytes place 0 ≡ byte
  pub none_before : HasNone byte (take place bytes)

-- the bytes before the first such byte
abbrev pub before : ℕ → List ℕ → List ℕ
before byte [] = []
before byte (b ∷ bytes) = if b == byte then [] else b ∷ before byte bytes

-- the bytes from the first such byte on
abbrev pub from : ℕ → List ℕ → List ℕ
from byte [] = []
from byte (b ∷ bytes) = if b == byte then b ∷ bytes else from byte bytes

-- what stands behind a word at the front
abbrev pub behind : List ℕ → List ℕ → Option (List ℕ)
behind word line = if pointwise nat_eq (take (length word) line) word
    then Some (drop (length word) line) else None

-- decimal digits, at least one, without a needless zero
abbrev pub is_decimal : List ℕ → Bool
is_decimal bytes =
    nat_lt 0 (length bytes) && list_all (λ b. nat_lt (digit_value b) 10) bytes
    && (nat_lt (length bytes) 2 || not (get_or bytes 0 0 == 48))

-- the number of a whole field
unfoldable pub whole_field : ℕ → ℕ → List ℕ → Result ℕ Fault
whole_field left most field =
    if is_decimal field then (if nat_le (value_of field) most then Ok (value_of field)
    else Err (Large left)) else Err (Bad left)

-- a space, and the number of the field behind it
unfoldable pub field_number : ℕ → ℕ → List ℕ → Result (ℕ × List ℕ) Fault
field_number left most [] = Err (Bad left)
field_number left most (space ∷ bytes) =
    if space == 32 then (whole_field left most (before 32 bytes) >>= λ n. Ok (n, from 32 bytes))
    else Err (Bad left)

unfoldable pub op_at : ℕ → List ℕ → Result (Op × List ℕ) Fault
op_at left bytes = do
  t ← field_number left GREATEST_NUMBER bytes
  o ← field_number left GREATEST_NUMBER t.1
  Ok (record { train = t.0; op = o.0 }, o.1)

-- operations up to the end of the line, so many at most
unfoldable pub ops_at : ℕ → ℕ → List ℕ → Result (List Op) Fault
ops_at left most [] = Ok []
ops_at left zero (b ∷ bytes) = Err (Bad left)
ops_at left (suc most) (b ∷ bytes) = do
  o ← op_at left (b ∷ bytes)
  ops ← ops_at left most o.1
  Ok (o.0 ∷ ops)

-- the line has no further field
unfoldable pub line_ended : ℕ → List ℕ → Result ⊤ Fault
line_ended left [] = Ok tt
line_ended left (b ∷ bytes) = Err (Bad left)

-- what stands behind the word that the line begins with
abbrev pub found : ℕ → Option (List ℕ) → Result (List ℕ) Fault
found left None = Err (Bad left)
found left (Some fields) = Ok fields

abbrev pub word_at : ℕ → List ℕ → List ℕ → Result (List ℕ) Fault
word_at left word line = found left (behind word line)

-- one of several words
abbrev pub or_word : {W : Type 0} → Option (List ℕ) → W → Result (W × List ℕ) Fault
    → Result (W × List ℕ) Fault
or_word (Some fields) word other = Ok (word, fields)
or_word None word other = other
