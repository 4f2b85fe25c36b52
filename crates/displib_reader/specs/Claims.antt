-- What the format asks of a JSON value: a list of claims in document order, each on what stands at
-- one place.
use Rattle.std.specs.Prelude.{ℕ, List, [], ◌∷◌, ◌++◌, length, Option, Some, None, codes, slice_get}
use Rattle.serde_json.specs.Data.{Data}
use Rattle.disp_model.specs.declared.limits.TheConstants.{GREATEST_NUMBER}
use Rattle.json_claims.specs.declared.rule.Want.TheVariants as want
use Rattle.json_claims.specs.Field.{field, members_in, members_at}
use Rattle.json_claims.specs.Claims.{Claim, needed, optional, claims_from, whole_in}
use Rattle.displib_reader.specs.declared.place.Place.{Place}
use Rattle.displib_reader.specs.declared.place.Place.TheVariants as place
use Rattle.displib_reader.specs.declared.place.OperationKey.TheVariants.{StartLb, StartUb, MinDuration, Resources, Successors}
use Rattle.displib_reader.specs.declared.place.ListingKey.TheVariants.{Resource, ReleaseTime}
use Rattle.displib_reader.specs.declared.place.ComponentKey.TheVariants as key

-- a listing: the resource's name is needed
abbrev pub listing_claims : ℕ → ℕ → ℕ → Data → List (Claim Place)
listing_claims t o k d =
    needed (place.Listing t o k) want.Object (Some d)
    ∷ needed (place.ListingKey t o k Resource) want.Text (field (codes "resource") d)
    ∷ optional (place.ListingKey t o k ReleaseTime) (want.Number GREATEST_NUMBER)
    (field (codes "release_time") d)
    ∷ []

-- a successor: an index among the train's operations
abbrev pub successor_claims : ℕ → ℕ → ℕ → ℕ → Data → List (Claim Place)
successor_claims count t o k d = needed (place.Successor t o k) (want.Index count GREATEST_NUMBER)
    (Some d) ∷ []

-- an operation of a train of so many
unfoldable pub operation_claims : ℕ → ℕ → ℕ → Data → List (Claim Place)
operation_claims count t o d =
    needed (place.Operation t o) want.Object (Some d)
    ∷ optional (place.OperationKey t o StartLb) (want.Number GREATEST_NUMBER)
    (field (codes "start_lb") d)
    ∷ optional (place.OperationKey t o StartUb) (want.Number GREATEST_NUMBER)
    (field (codes "start_ub") d)
    ∷ optional (place.OperationKey t o MinDuration) (want.Number GREATEST_NUMBER)
    (field (codes "min_duration") d)
    ∷ optional (place.OperationKey t o Resources) want.List (field (codes "resources") d)
    ∷ (claims_from (listing_claims t o) 0 (members_at (codes "resources") d)
    ++ (optional (place.OperationKey t o Successors) want.List (field (codes "successors") d)
    ∷ claims_from (successor_claims count t o) 0 (members_at (codes "successors") d)))

-- a train: a list of operations
unfoldable pub train_claims : ℕ → Data → List (Claim Place)
train_claims t d =
    needed (place.Train t) want.List (Some d)
    ∷ claims_from (operation_claims (length (members_in (Some d))) t) 0 (members_in (Some d))

-- how many operations the train of a number has, none where there is no such train
abbrev pub count_at : List Data → Option ℕ → ℕ
count_at trains None = 0
count_at trains (Some t) = length (members_in (slice_get trains t))

-- the threshold and the costs of a component
abbrev pub cost_claims : ℕ → Data → List (Claim Place)
cost_claims c d =
    optional (place.ComponentKey c key.Threshold) (want.Number GREATEST_NUMBER)
    (field (codes "threshold") d)
    ∷ optional (place.ComponentKey c key.Increment) (want.Number GREATEST_NUMBER)
    (field (codes "increment") d)
    ∷ optional (place.ComponentKey c key.Coeff) (want.Number GREATEST_NUMBER)
    (field (codes "coeff") d)
    ∷ []

-- a component: its train is an index among the trains, its operation one among that train's
-- operations
unfoldable pub component_claims : List Data → ℕ → Data → List (Claim Place)
component_claims trains c d =
    needed (place.Component c) want.Object (Some d)
    ∷ needed (place.ComponentKey c key.Kind) want.Text (field (codes "type") d)
    ∷ needed (place.ComponentKey c key.Train) (want.Index (length trains) GREATEST_NUMBER)
    (field (codes "train") d)
    ∷ needed (place.ComponentKey c key.Operation)
    (want.Index (count_at trains (whole_in (field (codes "train") d))) GREATEST_NUMBER)
    (field (codes "operation") d)
    ∷ cost_claims c d

-- a problem: trains and an objective are needed (format)
abbrev pub problem_claims : Data → List (Claim Place)
problem_claims d =
    needed place.Root want.Object (Some d)
    ∷ needed place.Trains want.List (field (codes "trains") d)
    ∷ (claims_from train_claims 0 (members_at (codes "trains") d)
    ++ (needed place.Objective want.List (field (codes "objective") d)
    ∷ claims_from (component_claims (members_at (codes "trains") d)) 0
    (members_at (codes "objective") d)))
