-- Refusals of a text by the first rule that it breaks. A format names its refusals by a type N.
use Rattle.std.specs.Prelude.{ℕ, List}
use Rattle.serde_json.specs.Data.{Data}
use Rattle.json_claims.specs.Json.{IsJson}

-- the bytes are JSON, and their value breaks the rule of the refusal and none before it
pub record BreaksFirst {N : Type 0} (Breaks : Data → N → Type 0) (bytes : List ℕ) (why : N)
    : Type 0 where
  pub value : Data
  pub json : IsJson bytes value
  pub breaks : Breaks value why
