-- Claims that break no rule, and what then stands at their places.
use Rattle.std.proofs.Common.{◌≡◌, ℕ, ◌+◌, ◌<◌, ◌≤◌, List, [], ◌∷◌, ◌++◌, Option, Some, None, Bool, true, false, not, cond, option_map, is_some, refl, ap}
use Rattle.std.specs.Prelude.{option_and_then, find, nat_lt, nat_le}
use Rattle.std.specs.List.{AllByRecursion}
use Rattle.std.specs.Option.{option_map_or}
use Rattle.std.proofs.lemmas.Bool.{ltb-false, leb-false, le-leb}
use Rattle.serde_json.specs.Data.{Num, Data}
use Rattle.serde_json.specs.Find.{as_array, as_object, as_str, as_number, as_u64}
use Rattle.json_claims.specs.declared.rule.Rule.{Rule}
use Rattle.json_claims.specs.declared.rule.Rule.TheVariants as rule
use Rattle.json_claims.specs.declared.rule.Want.TheVariants as want
use Rattle.json_claims.specs.Field.{fit, whole_of, values_of, members_in, each}
use Rattle.json_claims.specs.Claims.{Claim, needed, optional, breaks, first_broken, claims_from, whole_in, is_misshapen, is_not_whole, is_too_large, is_bad_index, ArePlain}
use Rattle.json_claims.proofs.Steps.{each_cons}

-- the claim breaks no rule but maybe that on indexes
pub record IsPlain {P : Type 0} (c : Claim P) : Type 0 where
  pub shape : is_misshapen c.want c.needed c.found ≡ false
  pub whole : is_not_whole c.found ≡ false
  pub limit : is_too_large c.want c.found ≡ false

-- the claim breaks no rule
pub record IsKept {P : Type 0} (c : Claim P) : Type 0 where
  pub plain : IsPlain c
  pub index : is_bad_index c.want c.found ≡ false

-- no claim breaks a rule
pub record AreKept {P : Type 0} (claims : List (Claim P)) : Type 0 where
  pub plain : ArePlain claims
  pub index : first_broken rule.Index claims ≡ None

module _ {P : Type 0} where
  broken_head : (b : Bool) (c : Claim P) (rest : Option (Claim P)) → option_map (λ (x : Claim P). x.place) (cond b (Some c) rest) ≡ None → (b ≡ false) × (option_map (λ (x : Claim P). x.place) rest ≡ None)
  broken_head true c rest e = absurd cc
  broken_head false c rest e = (refl, e)

  first_head : (rule : Rule) (c : Claim P) (cs : List (Claim P)) → first_broken rule (c ∷ cs) ≡ None → (breaks rule c ≡ false) × (first_broken rule cs ≡ None)
  first_head rule c cs e = broken_head (breaks rule c) c (find (breaks rule) cs) e

  none_here : (b : Bool) (c : Claim P) (rest : Option (Claim P)) → b ≡ false → option_map (λ (x : Claim P). x.place) rest ≡ None → option_map (λ (x : Claim P). x.place) (cond b (Some c) rest) ≡ None
  none_here b c rest e f = rw e f

  first_both : (rule : Rule) (a b : List (Claim P)) → first_broken rule (a ++ b) ≡ None → (first_broken rule a ≡ None) × (first_broken rule b ≡ None)
  first_both rule [] b e = (refl, e)
  first_both rule (c ∷ a) b e =
      let head = first_head rule c (a ++ b) e in
      let rest = first_both rule a b head.1 in
      (none_here (breaks rule c) c (find (breaks rule) a) head.0 rest.0, rest.1)

  pub plain_head : (c : Claim P) (cs : List (Claim P)) → ArePlain (c ∷ cs) → IsPlain c × ArePlain cs
  unfolding breaks
  plain_head c cs kept =
      let shape = first_head rule.Shape c cs kept.shape in
      let whole = first_head rule.Whole c cs kept.whole in
      let limit = first_head rule.Limit c cs kept.limit in
      (record { shape = shape.0; whole = whole.0; limit = limit.0 }, record { shape = shape.1; whole = whole.1; limit = limit.1 })

  pub plain_both : (a b : List (Claim P)) → ArePlain (a ++ b) → ArePlain a × ArePlain b
  plain_both a b kept =
      let shape = first_both rule.Shape a b kept.shape in
      let whole = first_both rule.Whole a b kept.whole in
      let limit = first_both rule.Limit a b kept.limit in
      (record { shape = shape.0; whole = whole.0; limit = limit.0 }, record { shape = shape.1; whole = whole.1; limit = limit.1 })

  pub kept_head : (c : Claim P) (cs : List (Claim P)) → AreKept (c ∷ cs) → IsKept c × AreKept cs
  unfolding breaks
  kept_head c cs kept =
      let plain = plain_head c cs kept.plain in
      let index = first_head rule.Index c cs kept.index in
      (record { plain = plain.0; index = index.0 }, record { plain = plain.1; index = index.1 })

  pub kept_both : (a b : List (Claim P)) → AreKept (a ++ b) → AreKept a × AreKept b
  kept_both a b kept =
      let plain = plain_both a b kept.plain in
      let index = first_both rule.Index a b kept.index in
      (record { plain = plain.0; index = index.0 }, record { plain = plain.1; index = index.1 })

-- ---- what stands at one place

not_false : (b : Bool) → not b ≡ false → b ≡ true
not_false true e = refl
not_false false e = absurd cc

pub fits : (limit n : ℕ) → n ≤ limit → fit limit n ≡ Some n
fits limit n le = rw (le-leb n limit le) refl

read_u64 : (limit : ℕ) (u : Option ℕ) → not (is_some u) ≡ false → option_map_or (λ n. nat_lt limit n) u false ≡ false → (n : ℕ) × (option_and_then (fit limit) u ≡ Some n) × (u ≡ Some n)
read_u64 limit None w l = absurd cc
read_u64 limit (Some n) w l = (n, fits limit n (ltb-false limit n l), refl)

read_number : (limit : ℕ) (o : Option Num) → is_some o ≡ true → option_map_or (λ n. not (is_some (as_u64 n))) o false ≡ false → option_map_or (λ n. nat_lt limit n) (option_and_then as_u64 o) false ≡ false
    → (n : ℕ) × (option_and_then (fit limit) (option_and_then as_u64 o) ≡ Some n) × (option_and_then as_u64 o ≡ Some n)
read_number limit None s w l = absurd cc
read_number limit (Some num) s w l = read_u64 limit (as_u64 num) w l

is_there : {A : Type 0} (o : Option A) → not (is_some o) ≡ false → (x : A) × (o ≡ Some x)
is_there None e = absurd cc
is_there (Some x) e = (x, refl)

module _ {P : Type 0} where
  -- a number that is needed
  pub number_there : (place : P) (limit : ℕ) (found : Option Data) → IsPlain (needed place (want.Number limit) found) → (n : ℕ) × (option_and_then (whole_of limit) found ≡ Some n)
  number_there place limit None kept = absurd (let e : true ≡ false = kept.shape in cc)
  number_there place limit (Some v) kept = let r = read_number limit (as_number v) (not_false (is_some (as_number v)) kept.shape) kept.whole kept.limit in (r.0, r.1)

  -- a number that may be absent
  pub default_there : (place : P) (limit : ℕ) (found : Option Data) → IsPlain (optional place (want.Number limit) found) → (n : ℕ) × (option_map_or (whole_of limit) found (Some 0) ≡ Some n)
  default_there place limit None kept = (0, refl)
  default_there place limit (Some v) kept = let r = read_number limit (as_number v) (not_false (is_some (as_number v)) kept.shape) kept.whole kept.limit in (r.0, r.1)

  pub optional_there : (place : P) (limit : ℕ) (found : Option Data) → IsPlain (optional place (want.Number limit) found) → (u : Option ℕ) × (option_map_or (λ v. option_map Some (whole_of limit v)) found (Some None) ≡ Some u)
  optional_there place limit None kept = (None, refl)
  optional_there place limit (Some v) kept =
      let r = read_number limit (as_number v) (not_false (is_some (as_number v)) kept.shape) kept.whole kept.limit in
      (Some r.0, ap (option_map Some) r.1)

  -- an index among so many
  pub index_there : (place : P) (count limit : ℕ) (found : Option Data) → IsKept (needed place (want.Index count limit) found) → (n : ℕ) × (option_and_then (whole_of limit) found ≡ Some n) × (whole_in found ≡ Some n) × (n < count)
  index_there place count limit None kept = absurd (let e : true ≡ false = kept.plain.shape in cc)
  index_there place count limit (Some v) kept =
      let r = read_number limit (as_number v) (not_false (is_some (as_number v)) kept.plain.shape) kept.plain.whole kept.plain.limit in
      let past : nat_le count r.0 ≡ false = rw r.2 at kept.index in
      (r.0, r.1, r.2, leb-false count r.0 past)

  pub text_there : (place : P) (found : Option Data) → IsPlain (needed place want.Text found) → (s : List ℕ) × (option_and_then as_str found ≡ Some s)
  text_there place None kept = absurd (let e : true ≡ false = kept.shape in cc)
  text_there place (Some v) kept = is_there (as_str v) kept.shape

  pub object_there : (place : P) (d : Data) → IsPlain (needed place want.Object (Some d)) → (m : _) × (as_object d ≡ Some m)
  object_there place d kept = is_there (as_object d) kept.shape

  -- a list that may be absent
  pub list_there : (place : P) (found : Option Data) → IsPlain (optional place want.List found) → option_map_or (λ v. option_map values_of (as_array v)) found (Some []) ≡ Some (members_in found)
  list_there place None kept = refl
  list_there place (Some v) kept = let a = is_there (as_array v) kept.shape in rw a.1 refl

  -- a list that is needed
  pub needed_list_there : (place : P) (found : Option Data) → IsPlain (needed place want.List found) → option_and_then (λ v. option_map values_of (as_array v)) found ≡ Some (members_in found)
  needed_list_there place None kept = absurd (let e : true ≡ false = kept.shape in cc)
  needed_list_there place (Some v) kept = let a = is_there (as_array v) kept.shape in rw a.1 refl

  -- ---- lists of parts

  -- where each member is read, the list is, and what holds of what each gives holds of all; K says which rules are kept
  pub each_read : {B : Type 0} (K : List (Claim P) → Type 0) (claims : ℕ → Data → List (Claim P)) (f : Data → Option B) (Q : Data → Type 0) (R : B → Type 0)
      → ((a b : List (Claim P)) → K (a ++ b) → K a × K b)
      → ((k : ℕ) (d : Data) → Q d → K (claims k d) → (b : B) × (f d ≡ Some b) × R b)
      → (k : ℕ) (ds : List Data) → AllByRecursion Q ds → K (claims_from claims k ds) → (bs : List B) × (each f ds ≡ Some bs) × AllByRecursion R bs
  each_read K claims f Q R split read k [] all kept = ([], refl, tt)
  each_read K claims f Q R split read k (d ∷ ds) all kept =
      let both = split (claims k d) (claims_from claims (k + 1) ds) kept in
      let here = read k d all.0 both.0 in
      let rest = each_read K claims f Q R split read (k + 1) ds all.1 both.1 in
      (here.0 ∷ rest.0, each_cons f d ds here.0 rest.0 here.1 rest.1, (here.2, rest.2))

  pub each_kept : {B : Type 0} (claims : ℕ → Data → List (Claim P)) (f : Data → Option B) (Q : Data → Type 0) (R : B → Type 0)
      → ((k : ℕ) (d : Data) → Q d → AreKept (claims k d) → (b : B) × (f d ≡ Some b) × R b)
      → (k : ℕ) (ds : List Data) → AllByRecursion Q ds → AreKept (claims_from claims k ds) → (bs : List B) × (each f ds ≡ Some bs) × AllByRecursion R bs
  each_kept claims f Q R read k ds all kept = each_read AreKept claims f Q R kept_both read k ds all kept
