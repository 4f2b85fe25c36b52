-- What two operations list in common, and how long the first holds it after its end.
use Rattle.std.specs.Prelude.{◌≡◌, ◌≢◌, ℕ, List, [], Option, Some, None}
use Rattle.disp_model.specs.declared.train.Op.{Op}
use Rattle.disp_model.specs.declared.train.Listing.{Listing}
use Rattle.disp_model.specs.declared.problem.Problem.{Problem}
use Rattle.disp_model.specs.WellFormed.{greatest_release}
use Rattle.disp_model.specs.Arcs.{Conflicts, release_of}

-- the greatest release time of listings, if there are any
abbrev pub IsShared : List Listing → Option ℕ → Type 0
IsShared shared None = shared ≡ []
IsShared shared (Some release) = (shared ≢ []) × (release ≡ greatest_release shared)

-- the two conflict, and the first holds so long after its end what the second lists too
pub record IsConflict (problem : Problem) (a b : Op) (release : ℕ) : Type 0 where
  pub conflicts : Conflicts problem a b
  pub release_is : release ≡ release_of problem a b
