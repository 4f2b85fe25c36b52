-- The text of a problem (format: compact, keys in the order of `serde_json`'s map).
use Rattle.std.specs.Prelude.{ℕ, List, [], ◌∷◌, ◌++◌, codes, Option, Some, None, slice_index_or}
use Rattle.std.specs.List.{flat_map}
use Rattle.std.specs.Fmt.{decimal}
use Rattle.serde_json.specs.Data.{string}
use Rattle.serde_json.specs.Written.{compact_text}
use Rattle.disp_model.specs.declared.problem.Problem.{Problem}
use Rattle.disp_model.specs.declared.train.Operation.{Operation}
use Rattle.disp_model.specs.declared.train.Listing.{Listing}
use Rattle.disp_model.specs.declared.train.Component.{Component}

-- an element behind another one
abbrev pub behind_comma : {X : Type 0} → (X → List ℕ) → X → List ℕ
behind_comma text x = codes "," ++ text x

-- elements with a comma between each two, in brackets
abbrev pub listed : {X : Type 0} → (X → List ℕ) → List X → List ℕ
listed text [] = codes "[]"
listed text (x ∷ xs) = codes "[" ++ text x ++ flat_map (behind_comma text) xs ++ codes "]"

-- the name of a resource as JSON, as `serde_json` writes it
abbrev pub name_text : List (List ℕ) → ℕ → List ℕ
name_text names resource = compact_text (string (slice_index_or names resource []))

abbrev pub written_listing : List (List ℕ) → Listing → List ℕ
written_listing names l =
    codes "{\"release_time\":" ++ decimal l.release ++ codes ",\"resource\":"
    ++ name_text names l.resource ++ codes "}"

-- an upper end, where there is one
abbrev pub upper_text : Option ℕ → List ℕ
upper_text None = []
upper_text (Some upper) = codes ",\"start_ub\":" ++ decimal upper

abbrev pub written_operation : List (List ℕ) → Operation → List ℕ
written_operation names o =
    codes "{\"min_duration\":" ++ decimal o.min ++ codes ",\"resources\":"
    ++ listed (written_listing names) o.listings ++ codes ",\"start_lb\":" ++ decimal o.lower
    ++ upper_text o.upper ++ codes ",\"successors\":" ++ listed decimal o.next ++ codes "}"

abbrev pub written_train : List (List ℕ) → List Operation → List ℕ
written_train names train = listed (written_operation names) train

abbrev pub written_component : Component → List ℕ
written_component c =
    codes "{\"coeff\":" ++ decimal c.coeff ++ codes ",\"increment\":" ++ decimal c.increment
    ++ codes ",\"operation\":" ++ decimal c.operation ++ codes ",\"threshold\":"
    ++ decimal c.threshold ++ codes ",\"train\":" ++ decimal c.train
    ++ codes ",\"type\":\"op_delay\"}"

-- a problem
abbrev pub problem_text : Problem → List ℕ
problem_text problem =
    codes "{\"objective\":" ++ listed written_component problem.components ++ codes ",\"trains\":"
    ++ listed (written_train problem.names) problem.trains ++ codes "}"
