-- What a format asks of a JSON value: a list of claims in document order, each on what stands at
-- one place. The rules on single places, and the first place that breaks one. A format names its
-- places by a type P.
use Rattle.std.specs.Prelude.{◌≡◌, ℕ, ◌+◌, List, [], ◌∷◌, ◌++◌, Bool, true, false, not, Option, Some, None, option_map, option_and_then, is_some, nat_lt, nat_le, find, Result, Ok, Err, ⊤, if◌then◌else◌}
use Rattle.std.specs.Option.{option_map_or}
use Rattle.serde_json.specs.Data.{Data}
use Rattle.serde_json.specs.Find.{as_array, as_object, as_str, as_number, as_u64}
use Rattle.json_claims.specs.declared.rule.Rule.{Rule}
use Rattle.json_claims.specs.declared.rule.Rule.TheVariants as rule
use Rattle.json_claims.specs.declared.rule.Want.{Want}
use Rattle.json_claims.specs.declared.rule.Want.TheVariants as want

-- what has to stand at a place, whether it is needed, and what is there; `null` is there in a list
-- alone
pub record Claim (P : Type 0) : Type 0 where
  pub place : P
  pub want : Want
  pub needed : Bool
  pub found : Option Data

abbrev pub claim : {P : Type 0} → P → Want → Bool → Option Data → Claim P
claim place want needed found = record {
  place = place;
  want = want;
  needed = needed;
  found = found;
}

abbrev pub needed : {P : Type 0} → P → Want → Option Data → Claim P
needed place want found = claim place want true found

-- what may be absent
abbrev pub optional : {P : Type 0} → P → Want → Option Data → Claim P
optional place want found = claim place want false found

-- the claims on the members of a list, which are numbered from k on
abbrev pub claims_from : {P : Type 0} → (ℕ → Data → List (Claim P)) → ℕ → List Data → List (Claim P)
claims_from claims k [] = []
claims_from claims k (d ∷ ds) = claims k d ++ claims_from claims (k + 1) ds

-- ---- the rules

-- the value is of the kind; a number of any form is of the kind number
abbrev pub is_of : Want → Data → Bool
is_of want.Object d = is_some (as_object d)
is_of want.List d = is_some (as_array d)
is_of want.Text d = is_some (as_str d)
is_of (want.Number limit) d = is_some (as_number d)
is_of (want.Index count limit) d = is_some (as_number d)

-- a value of another kind, or none where one is needed
abbrev pub is_misshapen : Want → Bool → Option Data → Bool
is_misshapen want needed found = option_map_or (λ d. not (is_of want d)) found needed

-- a number that is not held as a whole number from 0 to 2^64 - 1
abbrev pub is_not_whole : Option Data → Bool
is_not_whole found = option_map_or (λ n. not (is_some (as_u64 n))) (option_and_then as_number found)
    false

-- a whole number
abbrev pub whole_in : Option Data → Option ℕ
whole_in found = option_and_then as_u64 (option_and_then as_number found)

-- the number is above the limit of a number that is wanted
abbrev pub is_above : Want → ℕ → Bool
is_above want.Object n = false
is_above want.List n = false
is_above want.Text n = false
is_above (want.Number limit) n = nat_lt limit n
is_above (want.Index count limit) n = nat_lt limit n

-- a whole number above its limit
abbrev pub is_too_large : Want → Option Data → Bool
is_too_large want found = option_map_or (is_above want) (whole_in found) false

-- the number is no index where one is wanted
abbrev pub is_past : Want → ℕ → Bool
is_past want.Object n = false
is_past want.List n = false
is_past want.Text n = false
is_past (want.Number limit) n = false
is_past (want.Index count limit) n = nat_le count n

-- an index of nothing that is there
abbrev pub is_bad_index : Want → Option Data → Bool
is_bad_index want found = option_map_or (is_past want) (whole_in found) false

-- the claim breaks the rule
unfoldable pub breaks : {P : Type 0} → Rule → Claim P → Bool
breaks rule.Shape c = is_misshapen c.want c.needed c.found
breaks rule.Whole c = is_not_whole c.found
breaks rule.Limit c = is_too_large c.want c.found
breaks rule.Index c = is_bad_index c.want c.found

-- the first place that breaks the rule, if there is one
abbrev pub first_broken : {P : Type 0} → Rule → List (Claim P) → Option P
first_broken rule claims = option_map (λ c. c.place) (find (breaks rule) claims)

-- each value is of its kind, needed ones are there, and numbers are whole and within their limits
pub record ArePlain {P : Type 0} (claims : List (Claim P)) : Type 0 where
  pub shape : first_broken rule.Shape claims ≡ None
  pub whole : first_broken rule.Whole claims ≡ None
  pub limit : first_broken rule.Limit claims ≡ None

-- ---- the verdict of a walk along the claims

-- the first place that breaks the rule, as an error
abbrev pub next_verdict : {P : Type 0} → Result ⊤ P → Result ⊤ P → Result ⊤ P
next_verdict (Ok x) next = next
next_verdict (Err place) next = Err place

unfoldable pub judged : {P : Type 0} → Rule → Claim P → Result ⊤ P
judged rule c = if breaks rule c then Err c.place else Ok tt

abbrev pub verdict : {P : Type 0} → Rule → List (Claim P) → Result ⊤ P
verdict rule [] = Ok tt
verdict rule (c ∷ cs) = next_verdict (judged rule c) (verdict rule cs)

-- no place breaks the rule, or the first one does
abbrev pub IsFirst : {P : Type 0} → Result ⊤ P → Option P → Type 0
IsFirst (Ok x) found = found ≡ None
IsFirst (Err place) found = found ≡ Some place
