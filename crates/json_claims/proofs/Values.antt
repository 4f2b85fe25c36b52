-- The values of an array, as a list.
use Rattle.std.proofs.Common.{◌≡◌, List, [], ◌∷◌, map, ap, refl}
use Rattle.serde_json.specs.declared.value.Value.{Value}
use Rattle.serde_json.specs.View.{view, items_view}
use Rattle.json_claims.specs.Field.{values_of}

pub values_of_view : (vs : List Value) → values_of (items_view vs) ≡ map view vs
values_of_view [] = refl
values_of_view (v ∷ vs) = ap (λ ds. view v ∷ ds) (values_of_view vs)
