-- Fields of a JSON value: what counts as absent, which numbers are taken, and lists of values.
use Rattle.std.specs.Prelude.{ℕ, List, [], ◌∷◌, Option, Some, None, option_map, option_and_then, is_some, nat_le, if◌then◌else◌}
use Rattle.std.specs.Option.{option_map_or}
use Rattle.serde_json.specs.Data.{Data, Items, no_items, item}
use Rattle.serde_json.specs.Find.{get, as_null, as_number, as_u64, as_array, as_str}

-- `null` counts as absent
abbrev pub present : Option Data → Option Data
present found = option_and_then (λ d. if is_some (as_null d) then None else Some d) found

-- the value at a key of an object
abbrev pub field : List ℕ → Data → Option Data
field key d = present (get key d)

-- a number within a limit
abbrev pub fit : ℕ → ℕ → Option ℕ
fit limit n = if nat_le n limit then Some n else None

-- a whole number within a limit
abbrev pub whole_of : ℕ → Data → Option ℕ
whole_of limit d = option_and_then (fit limit) (option_and_then as_u64 (as_number d))

-- the whole number at a key
abbrev pub number_at : List ℕ → ℕ → Data → Option ℕ
number_at key limit d = option_and_then (whole_of limit) (field key d)

-- the whole number at a key, or what stands for one that is absent
abbrev pub number_or : List ℕ → ℕ → ℕ → Data → Option ℕ
number_or key limit default d = option_map_or (whole_of limit) (field key d) (Some default)

-- the whole number at a key, if there is one
abbrev pub optional_number : List ℕ → ℕ → Data → Option (Option ℕ)
optional_number key limit d = option_map_or (λ v. option_map Some (whole_of limit v)) (field key d)
    (Some None)

-- the values of an array
abbrev pub values_of : Items → List Data
values_of no_items = []
values_of (item d ds) = d ∷ values_of ds

-- the members of a list, none where there is no list
abbrev pub members_in : Option Data → List Data
members_in None = []
members_in (Some d) = option_map_or values_of (as_array d) []

-- the members of the list at a key
abbrev pub members_at : List ℕ → Data → List Data
members_at key d = members_in (field key d)

-- the values of the array at a key
abbrev pub array_at : List ℕ → Data → Option (List Data)
array_at key d = option_and_then (λ v. option_map values_of (as_array v)) (field key d)

-- the values of the array at a key, none where it is absent
abbrev pub array_or_empty : List ℕ → Data → Option (List Data)
array_or_empty key d = option_map_or (λ v. option_map values_of (as_array v)) (field key d)
    (Some [])

-- the text at a key
abbrev pub text_at : List ℕ → Data → Option (List ℕ)
text_at key d = option_and_then as_str (field key d)

-- one step after another: nothing where a step gives nothing
infixl 10 ◌>>=◌
abbrev pub ◌>>=◌ : {A B : Type 0} → Option A → (A → Option B) → Option B
None >>= f = None
(Some x) >>= f = f x

-- what a step gives, before the others
abbrev pub with_first : {B : Type 0} → B → Option (List B) → Option (List B)
with_first b None = None
with_first b (Some bs) = Some (b ∷ bs)

-- what each of a list gives, where each gives something
abbrev pub each : {A B : Type 0} → (A → Option B) → List A → Option (List B)
each f [] = Some []
each f (x ∷ xs) = f x >>= (λ b. with_first b (each f xs))
