-- The types of the components.
use Rattle.std.specs.Prelude.{ℕ, ◌+◌, List, [], ◌∷◌, Bool, false, Option, Some, None, codes, if◌then◌else◌}
use Rattle.std.specs.Option.{option_map_or}
use Rattle.serde_json.specs.Data.{Data}
use Rattle.json_claims.specs.Field.{text_at}
use Rattle.displib_reader.specs.ProblemOf.{is_delay}

-- the component is of the one type that there is
abbrev pub is_known : Data → Bool
is_known d = option_map_or is_delay (text_at (codes "type") d) false

-- the first component of another type, counted from c on
abbrev pub first_unknown : ℕ → List Data → Option ℕ
first_unknown c [] = None
first_unknown c (d ∷ ds) = if is_known d then first_unknown (c + 1) ds else Some c
