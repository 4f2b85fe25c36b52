-- The names of resources in the order in which the trains of a problem list them.
use Rattle.std.specs.Prelude.{◌≡◌, ℕ, List, [], map, All, slice_index_or}
use Rattle.std.specs.List.{flat_map}
use Rattle.std.specs.Str.{IsUtf8, bytes_eq}
use Rattle.disp_model.specs.declared.train.Listing.{Listing}
use Rattle.disp_model.specs.declared.train.Operation.{Operation}
use Rattle.disp_model.specs.declared.problem.Problem.{Problem}
use Rattle.displib_reader.specs.ProblemOf.{once}

-- the name of the resource that a listing has
abbrev pub name_of : List (List ℕ) → Listing → List ℕ
name_of names l = slice_index_or names l.resource []

-- the names that an operation lists, in order
abbrev pub listed_names_of_operation : List (List ℕ) → Operation → List (List ℕ)
listed_names_of_operation names o = map (name_of names) o.listings

abbrev pub listed_names_of_train : List (List ℕ) → List Operation → List (List ℕ)
listed_names_of_train names train = flat_map (listed_names_of_operation names) train

-- the names that the trains list, in order, each as often as it is listed
abbrev pub names_listed : List (List ℕ) → List (List Operation) → List (List ℕ)
names_listed names trains = flat_map (listed_names_of_train names) trains

-- each name is a text, and they stand in the order of their first listing, each that is listed and
-- no other
pub record HasNamesInOrder (problem : Problem) : Type 0 where
  pub texts : All IsUtf8 problem.names
  pub order : once bytes_eq (names_listed problem.names problem.trains) ≡ problem.names
