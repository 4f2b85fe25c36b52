-- The JSON value of bytes.
use Rattle.std.specs.Prelude.{◌≡◌, ℕ, List, Some}
use Rattle.std.specs.Str.{IsUtf8}
use Rattle.serde_json.specs.Data.{Data}
use Rattle.serde_json.specs.Read.{read}

-- the bytes are UTF-8, and serde_json reads them as this value
pub record IsJson (bytes : List ℕ) (d : Data) : Type 0 where
  pub utf8 : IsUtf8 bytes
  pub value : read bytes ≡ Some d

-- the bytes are not UTF-8, or serde_json refuses them
abbrev pub IsNoJson : List ℕ → Type 0
IsNoJson bytes = (d : Data) → IsJson bytes d → ⊥
