-- Names that are gathered one after another, for private clauses.
use Rattle.std.specs.Prelude.{List, [], ◌∷◌, ◌++◌, Bool, fold, Option, Some, None, if◌then◌else◌, ℕ}
use Rattle.std.specs.List.{list_any}
use Rattle.std.specs.Str.{bytes_eq}

-- the members, with one more behind them if it is new
abbrev pub with_new : {A : Type 0} → (A → A → Bool) → List A → A → List A
with_new same xs x = if list_any (same x) xs then xs else xs ++ x ∷ []

abbrev pub with_name : List (List ℕ) → List ℕ → List (List ℕ)
with_name names name = with_new bytes_eq names name

unfoldable pub with_names : List (List ℕ) → List (List ℕ) → List (List ℕ)
with_names names more = fold with_name names more

-- with the name that was found, if one was
abbrev pub with_found : List (List ℕ) → Option (List ℕ) → List (List ℕ)
with_found names None = names
with_found names (Some name) = with_name names name
