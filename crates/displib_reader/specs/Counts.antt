-- How many trains, operations and components a JSON value gives, and which of these are too many.
use Rattle.std.specs.Prelude.{ℕ, length, sum_by, Option, Some, None, nat_lt, codes, if◌then◌else◌}
use Rattle.serde_json.specs.Data.{Data}
use Rattle.disp_model.specs.declared.limits.TheConstants.{MOST_TRAINS, MOST_OPERATIONS, MOST_COMPONENTS}
use Rattle.displib_reader.specs.declared.fault.Kind.{Kind}
use Rattle.displib_reader.specs.declared.fault.Kind.TheVariants.{Trains, Operations, Components}
use Rattle.json_claims.specs.Field.{members_in, members_at}

abbrev pub trains_given : Data → ℕ
trains_given d = length (members_at (codes "trains") d)

-- over all trains
abbrev pub operations_given : Data → ℕ
operations_given d = sum_by (λ train. length (members_in (Some train)))
    (members_at (codes "trains") d)

abbrev pub components_given : Data → ℕ
components_given d = length (members_at (codes "objective") d)

-- the first of the three counts that is above its limit (the limits are this project's choice)
abbrev pub too_many : Data → Option (Kind × ℕ)
too_many d =
    if nat_lt MOST_TRAINS (trains_given d) then Some (Trains, trains_given d) else
    (if nat_lt MOST_OPERATIONS (operations_given d) then Some (Operations, operations_given d) else
    (if nat_lt MOST_COMPONENTS (components_given d) then Some (Components, components_given d)
    else None))
