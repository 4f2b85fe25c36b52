-- The lines of bytes.
use Rattle.std.specs.Prelude.{◌≡◌, ℕ, ◌<◌, ◌≤◌, List, [], ◌∷◌, length, ◌==◌, if◌then◌else◌, ⊤, Option, None, Some}
use Rattle.std.specs.Io.BufRead.{ends_with_byte, strip_last}

-- the byte stands before the first line
abbrev pub put_before : ℕ → List (List ℕ) → List (List ℕ)
put_before byte [] = (byte ∷ []) ∷ []
put_before byte (line ∷ lines) = (byte ∷ line) ∷ lines

-- the lines of bytes, each with the LF that ends it; the last one may lack it, and then has a byte
abbrev pub feed_lines : List ℕ → List (List ℕ)
feed_lines [] = []
feed_lines (byte ∷ bytes) = if byte == 10 then (byte ∷ []) ∷ feed_lines bytes
    else put_before byte (feed_lines bytes)

-- the line without its LF
abbrev pub without_end : List ℕ → List ℕ
without_end line = strip_last 10 line

-- what a line says: it lacks its LF, and one CR before that
abbrev pub text_of : List ℕ → List ℕ
text_of line = if ends_with_byte 10 line then strip_last 13 (without_end line) else line

-- the first of the lines left is given: it has at most 256 bytes before its LF
abbrev pub GivesLine : Option (List (List ℕ)) → Option (List (List ℕ)) → List ℕ → Type 0
GivesLine None new text = new ≡ None
GivesLine (Some []) new text = ⊥
GivesLine (Some (line ∷ lines)) new text = (text ≡ text_of line) × (length (without_end line) ≤ 256)
    × (new ≡ Some lines)

-- the first of the lines left is skipped: it has more than 256 bytes before its LF
abbrev pub Skips : Option (List (List ℕ)) → Option (List (List ℕ)) → Type 0
Skips None new = new ≡ None
Skips (Some []) new = ⊥
Skips (Some (line ∷ lines)) new = (256 < length (without_end line)) × (new ≡ Some lines)

-- no line is left, where that is told
abbrev pub NoneLeft : Option (List (List ℕ)) → Type 0
NoneLeft None = ⊤
NoneLeft (Some lines) = lines ≡ []

-- the lines left of a new feed are those of what the name holds, where that is told, and a name
-- without a file has none
abbrev pub HasLinesOf : Option (Option (List ℕ)) → Option (List (List ℕ)) → Type 0
HasLinesOf None told = ⊤
HasLinesOf (Some None) told = ⊥
HasLinesOf (Some (Some bytes)) told = told ≡ Some (feed_lines bytes)
