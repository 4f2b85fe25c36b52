-- The problem of a JSON value, in the DISPLIB 2025 format. Keys that are not named here do not
-- matter.
use Rattle.std.specs.Prelude.{◌≡◌, ℕ, List, [], ◌∷◌, Bool, not, Option, Some, None, option_map, filter, codes, if◌then◌else◌, nat_eq}
use Rattle.std.specs.List.{flat_map, filter_map, position_or_len}
use Rattle.std.specs.Str.{bytes_eq}
use Rattle.serde_json.specs.Data.{Data}
use Rattle.serde_json.specs.Find.{as_array, as_object}
use Rattle.disp_model.specs.declared.limits.TheConstants.{GREATEST_NUMBER}
use Rattle.disp_model.specs.declared.train.Listing.{Listing}
use Rattle.disp_model.specs.declared.train.Operation.{Operation}
use Rattle.disp_model.specs.declared.train.Component.{Component}
use Rattle.disp_model.specs.declared.problem.Problem.{Problem}
use Rattle.json_claims.specs.Field.{◌>>=◌, number_at, number_or, optional_number, whole_of, values_of, members_in, members_at, array_at, array_or_empty, text_at, each}

-- each member once, where it first stands
abbrev pub once : {A : Type 0} → (A → A → Bool) → List A → List A
once same [] = []
once same (x ∷ xs) = x ∷ filter (λ y. not (same x y)) (once same xs)

-- the names of resources that an operation lists, in the order of the text
abbrev pub names_of_operation : Data → List (List ℕ)
names_of_operation d = filter_map (text_at (codes "resource")) (members_at (codes "resources") d)

abbrev pub names_of_train : Data → List (List ℕ)
names_of_train d = flat_map names_of_operation (members_in (Some d))

-- the names of resources, numbered by first appearance in the text
abbrev pub names_in : Data → List (List ℕ)
names_in d = once bytes_eq (flat_map names_of_train (members_at (codes "trains") d))

-- a listing: a resource, and a release time that is 0 where it is absent
abbrev pub listing_of : List (List ℕ) → Data → Option Listing
listing_of names d = do
  name ← text_at (codes "resource") d
  release ← number_or (codes "release_time") GREATEST_NUMBER 0 d
  Some (record { resource = position_or_len (bytes_eq name) names; release = release })

-- an operation; a successor that is named twice counts once
unfoldable pub operation_read : List (List ℕ) → Data → Option Operation
operation_read names d = do
  members ← as_object d
  lower ← number_or (codes "start_lb") GREATEST_NUMBER 0 d
  upper ← optional_number (codes "start_ub") GREATEST_NUMBER d
  min ← number_or (codes "min_duration") GREATEST_NUMBER 0 d
  resources ← array_or_empty (codes "resources") d
  listings ← each (listing_of names) resources
  successors ← array_or_empty (codes "successors") d
  next ← each (whole_of GREATEST_NUMBER) successors
  Some (record {
    lower = lower;
    upper = upper;
    min = min;
    listings = listings;
    next = once nat_eq next;
  })

abbrev pub train_read_as : List (List ℕ) → Data → Option (List Operation)
train_read_as names d = option_map values_of (as_array d) >>= each (operation_read names)

-- the one type of component that there is
abbrev pub is_delay : List ℕ → Bool
is_delay kind = bytes_eq kind (codes "op_delay")

unfoldable pub component_of : Data → Option Component
component_of d = do
  kind ← text_at (codes "type") d
  train ← number_at (codes "train") GREATEST_NUMBER d
  operation ← number_at (codes "operation") GREATEST_NUMBER d
  threshold ← number_or (codes "threshold") GREATEST_NUMBER 0 d
  increment ← number_or (codes "increment") GREATEST_NUMBER 0 d
  coeff ← number_or (codes "coeff") GREATEST_NUMBER 0 d
  if is_delay kind then Some (record {
    train = train;
    operation = operation;
    threshold = threshold;
    increment = increment;
    coeff = coeff;
  }) else None

-- the trains, where the resources have these names
abbrev pub trains_with : List (List ℕ) → Data → Option (List (List Operation))
trains_with names d = array_at (codes "trains") d >>= each (train_read_as names)

abbrev pub trains_of : Data → Option (List (List Operation))
trains_of d = trains_with (names_in d) d

abbrev pub components_of : Data → Option (List Component)
components_of d = array_at (codes "objective") d >>= each component_of

-- the problem is that of the value: it has the value's trains, components and names. (That it is
-- well formed is part of every problem: a value whose parts are not well formed has no problem.)
pub record IsProblemOf (d : Data) (problem : Problem) : Type 0 where
  pub trains : trains_of d ≡ Some problem.trains
  pub components : components_of d ≡ Some problem.components
  pub names : names_in d ≡ problem.names
