-- Bytes are JSON, or they are not.
use Rattle.std.proofs.Common.{◌≡◌, ◌⊎◌, ℕ, List, Option, Some, None, Bool, true, false, refl, sym, ◌∙◌, inl, inr}
use Rattle.std.specs.Str.{is_utf8}
use Rattle.std.proofs.lemmas.Str.{IsUtf8-from_is_utf8, is_utf8-from_IsUtf8}
use Rattle.std.proofs.lemmas.Option.{none-some}
use Rattle.std.proofs.lemmas.Bool.{false≢true}
use Rattle.serde_json.specs.Data.{Data}
use Rattle.serde_json.specs.Read.{read}
use Rattle.json_claims.specs.Json.{IsJson, IsNoJson}

pub json_or_not : (bytes : List ℕ) → ((d : Data) × IsJson bytes d) ⊎ IsNoJson bytes
json_or_not bytes = by (is_utf8 bytes) refl (read bytes) refl
  where
    by : (b : Bool) → is_utf8 bytes ≡ b → (found : Option Data) → read bytes ≡ found → ((d : Data) × IsJson bytes d) ⊎ IsNoJson bytes
    by true utf8 (Some d) value = inl (d, record { utf8 = IsUtf8-from_is_utf8 bytes utf8; value = value })
    by true utf8 None value = inr (λ d json. none-some d (sym value ∙ json.value))
    by false utf8 found value = inr (λ d json. false≢true (sym utf8 ∙ is_utf8-from_IsUtf8 bytes json.utf8))
