-- Members that are gathered one after another, each once.
use Rattle.std.proofs.Common.{◌≡◌, ℕ, zero, suc, ◌+◌, ◌<◌, List, [], ◌∷◌, ◌++◌, ◌||◌, not, length, get_or, map, fold, filter, Bool, true, false, cond, refl, sym, ap, ◌∙◌, append-nil, append_assoc, String, Global, string_bytes, ◌≤◌, Option, Some, None, take, inl, inr, arith}
use Rattle.std.specs.Prelude.{if◌then◌else◌, nat_eq, nat_lt, position, unwrap_or}
use Rattle.std.specs.List.{list_any, position_or_len, flat_map, filter_map, cons_option}
use Rattle.serde_json.specs.Data.{Data}
use Rattle.std.specs.Cmp.{IsEquivalence, nat_eq_equiv}
use Rattle.std.specs.Cmp.Lexicographic.{nat_list_eq_equiv}
use Rattle.std.specs.Str.{bytes_eq}
use Rattle.std.specs.String.{string_eq}
use Rattle.std.proofs.lemmas.Bool.{cases_lt, lt-ltb, le-ltb}
use Rattle.indexmap.specs.IndexSet.{insert_key}
use Rattle.displib_reader.specs.ProblemOf.{once}
use Rattle.displib_reader.specs.Names.{with_new, with_name, with_names, with_found}

module _ {A : Type 0} (same : A → A → Bool) (laws : IsEquivalence same) where
  -- the member is none of these
  abbrev pub is_new : List A → A → Bool
  is_new xs y = not (list_any (same y) xs)

  any_push : (xs : List A) (y z : A) → list_any (same z) (xs ++ y ∷ []) ≡ (same y z || list_any (same z) xs)
  any_push [] y z = rw (laws.symm z y) refl
  any_push (x ∷ xs) y z = rw (any_push xs y z) (swapped (same z x) (same y z) (list_any (same z) xs))
    where
      swapped : (a b c : Bool) → (a || (b || c)) ≡ (b || (a || c))
      swapped true true c = refl
      swapped true false c = refl
      swapped false b c = refl

  any_same : (xs : List A) (y z : A) → same y z ≡ true → list_any (same y) xs ≡ list_any (same z) xs
  any_same [] y z e = refl
  any_same (x ∷ xs) y z e = rw (laws.congr y z x e, any_same xs y z e) refl

  -- those that are new beside y too
  filter_push : (xs : List A) (y : A) (zs : List A) → filter (is_new (xs ++ y ∷ [])) zs ≡ filter (is_new xs) (filter (λ z. not (same y z)) zs)
  filter_push xs y [] = refl
  filter_push xs y (z ∷ zs) = rw (any_push xs y z) (by (same y z) (list_any (same z) xs) refl (filter_push xs y zs))
    where
      by : (a b : Bool) → list_any (same z) xs ≡ b → filter (is_new (xs ++ y ∷ [])) zs ≡ filter (is_new xs) (filter (λ z. not (same y z)) zs)
          → cond (not (a || b)) (z ∷ filter (is_new (xs ++ y ∷ [])) zs) (filter (is_new (xs ++ y ∷ [])) zs)
          ≡ filter (is_new xs) (cond (not a) (z ∷ filter (λ z. not (same y z)) zs) (filter (λ z. not (same y z)) zs))
      by true b e rest = rest
      by false true e rest = rw e rest
      by false false e rest = rw e (ap (λ l. z ∷ l) rest)

  -- where y is not new, nothing that is the same as y is
  filter_seen : (xs : List A) (y : A) → list_any (same y) xs ≡ true → (zs : List A) → filter (is_new xs) zs ≡ filter (is_new xs) (filter (λ z. not (same y z)) zs)
  filter_seen xs y seen [] = refl
  filter_seen xs y seen (z ∷ zs) = by (same y z) refl (list_any (same z) xs) refl (filter_seen xs y seen zs)
    where
      by : (a : Bool) → same y z ≡ a → (b : Bool) → list_any (same z) xs ≡ b → filter (is_new xs) zs ≡ filter (is_new xs) (filter (λ z. not (same y z)) zs)
          → filter (is_new xs) (z ∷ zs) ≡ filter (is_new xs) (filter (λ z. not (same y z)) (z ∷ zs))
      by true e b f rest = let g : list_any (same z) xs ≡ true = sym (any_same xs y z e) ∙ seen in rw (e, g) rest
      by false e true f rest = rw (e, f) rest
      by false e false f rest = rw (e, f) (ap (λ l. z ∷ l) rest)

  -- behind what is there come the new ones, each once
  pub gathered_behind : (ys xs : List A) → fold (with_new same) xs ys ≡ xs ++ filter (is_new xs) (once same ys)
  gathered_behind [] xs = sym (append-nil xs)
  gathered_behind (y ∷ ys) xs = by (list_any (same y) xs) refl (gathered_behind ys)
    where
      by : (b : Bool) → list_any (same y) xs ≡ b → ((xs : List A) → fold (with_new same) xs ys ≡ xs ++ filter (is_new xs) (once same ys))
          → fold (with_new same) xs (y ∷ ys) ≡ xs ++ filter (is_new xs) (once same (y ∷ ys))
      by true e rest = rw e (rest xs ∙ ap (λ l. xs ++ l) (filter_seen xs y e (once same ys)))
      by false e rest =
          rw e (rest (xs ++ y ∷ []) ∙ ap (λ l. (xs ++ y ∷ []) ++ l) (filter_push xs y (once same ys)) ∙ append_assoc xs (y ∷ []) (filter (is_new xs) (filter (λ z. not (same y z)) (once same ys))))

  all_new : (ys : List A) → filter (is_new []) ys ≡ ys
  all_new [] = refl
  all_new (y ∷ ys) = ap (λ l. y ∷ l) (all_new ys)

  -- from nothing on each member is gathered once
  pub gathered : (ys : List A) → fold (with_new same) [] ys ≡ once same ys
  gathered ys = gathered_behind ys [] ∙ all_new (once same ys)

-- ---- names and numbers

any_texts : (name : List ℕ) (keys : List (String Global)) → list_any (bytes_eq name) (map string_bytes keys) ≡ list_any (λ k. bytes_eq name (string_bytes k)) keys
any_texts name [] = refl
any_texts name (k ∷ keys) = ap (λ b. bytes_eq name (string_bytes k) || b) (any_texts name keys)

map_push : (keys : List (String Global)) (k : String Global) → map string_bytes (keys ++ k ∷ []) ≡ map string_bytes keys ++ string_bytes k ∷ []
map_push [] k = refl
map_push (x ∷ keys) k = ap (λ l. string_bytes x ∷ l) (map_push keys k)

inserted_by : (keys : List (String Global)) (k : String Global) (a b : Bool) → a ≡ b → map string_bytes (if a then keys else keys ++ k ∷ []) ≡ (if b then map string_bytes keys else map string_bytes keys ++ string_bytes k ∷ [])
inserted_by keys k true b e = rw (← e) refl
inserted_by keys k false b e = rw (← e) (map_push keys k)

-- a name that is inserted is added where it is new
pub inserted_name : (keys : List (String Global)) (k : String Global) → map string_bytes (insert_key string_eq keys k) ≡ with_name (map string_bytes keys) (string_bytes k)
inserted_name keys k = inserted_by keys k (list_any (string_eq k) keys) (list_any (bytes_eq (string_bytes k)) (map string_bytes keys)) (sym (any_texts (string_bytes k) keys))

-- a name that is there is not added
pub known_name : (keys : List (String Global)) (name : List ℕ) → list_any (λ k. bytes_eq name (string_bytes k)) keys ≡ true → with_name (map string_bytes keys) name ≡ map string_bytes keys
known_name keys name e = rw (any_texts name keys, e) refl

pub gathered_numbers : (ns : List ℕ) → fold (with_new nat_eq) [] ns ≡ once nat_eq ns
gathered_numbers ns = gathered nat_eq nat_eq_equiv ns

pub gathered_names : (ns : List (List ℕ)) → with_names [] ns ≡ once bytes_eq ns
unfolding with_names
gathered_names ns = gathered bytes_eq nat_list_eq_equiv ns

place_in_texts : (name : List ℕ) (keys : List (String Global)) → position_or_len (λ k. bytes_eq name (string_bytes k)) keys ≡ position_or_len (bytes_eq name) (map string_bytes keys)
place_in_texts name [] = refl
place_in_texts name (k ∷ keys) = by (bytes_eq name (string_bytes k)) (place_in_texts name keys)
  where
    by : (b : Bool) → position_or_len (λ k. bytes_eq name (string_bytes k)) keys ≡ position_or_len (bytes_eq name) (map string_bytes keys)
        → cond (not b) (1 + position_or_len (λ k. bytes_eq name (string_bytes k)) keys) 0 ≡ cond (not b) (1 + position_or_len (bytes_eq name) (map string_bytes keys)) 0
    by true e = refl
    by false e = ap (λ n. 1 + n) e

place_within : {A : Type 0} (test : A → Bool) (xs : List A) → position_or_len test xs ≤ length xs
place_within test [] = omega arith
place_within {A} test (x ∷ xs) = by (test x) (place_within test xs)
  where
    by : (b : Bool) → position_or_len test xs ≤ length xs → cond (not b) (1 + position_or_len test xs) 0 ≤ length (x ∷ xs)
    by true le = omega arith
    by false le = omega (arith, le)

place_or : (place n : ℕ) → place ≤ n → unwrap_or (cond (nat_lt place n) (Some place) None) n ≡ place
place_or place n le = elim (cases_lt place n) [
  | inl lt ↦ rw (lt-ltb place n lt) refl
  | inr ge ↦ rw (le-ltb place n ge) (omega (arith, le, ge))
]

-- the place of a name among the names, or how many there are
pub name_place : (name : List ℕ) (keys : List (String Global)) → unwrap_or (position (λ k. bytes_eq name (string_bytes k)) keys) (length keys) ≡ position_or_len (bytes_eq name) (map string_bytes keys)
name_place name keys =
    place_or (position_or_len (λ k. bytes_eq name (string_bytes k)) keys) (length keys) (place_within (λ (k : String Global). bytes_eq name (string_bytes k)) keys) ∙ place_in_texts name keys

pub with_both : (names a b : List (List ℕ)) → with_names names (a ++ b) ≡ with_names (with_names names a) b
unfolding with_names
with_both names [] b = refl
with_both names (n ∷ a) b = with_both (with_name names n) a b

pub with_none : (names : List (List ℕ)) → with_names names [] ≡ names
unfolding with_names
with_none names = refl

with_found_is : (names : List (List ℕ)) (found : Option (List ℕ)) → with_names names (cons_option found []) ≡ with_found names found
unfolding with_names
with_found_is names None = refl
with_found_is names (Some n) = refl

filter_map_push : {V : Type 0} (view : V → Data) (f : Data → Option (List ℕ)) (xs : List V) (i : ℕ) (d : V) → i < length xs → filter_map f (map view (take (i + 1) xs)) ≡ filter_map f (map view (take i xs)) ++ cons_option (f (view (get_or xs i d))) []
filter_map_push view f [] i d lt = absurd (omega arith)
filter_map_push view f (x ∷ xs) zero d lt = refl
filter_map_push view f (x ∷ xs) (suc i) d lt =
    let more : suc i + 1 ≡ suc (i + 1) = omega arith in
    rw more (by (f (view x)) (filter_map_push view f xs i d (omega arith)))
  where
    by : (found : Option (List ℕ)) → filter_map f (map view (take (i + 1) xs)) ≡ filter_map f (map view (take i xs)) ++ cons_option (f (view (get_or xs i d))) []
        → cons_option found (filter_map f (map view (take (i + 1) xs))) ≡ cons_option found (filter_map f (map view (take i xs))) ++ cons_option (f (view (get_or xs i d))) []
    by None e = e
    by (Some n) e = ap (λ l. n ∷ l) e

-- one more listing
pub found_more : {V : Type 0} (view : V → Data) (names : List (List ℕ)) (f : Data → Option (List ℕ)) (xs : List V) (i : ℕ) (d : V) → i < length xs
    → with_names names (filter_map f (map view (take (i + 1) xs))) ≡ with_found (with_names names (filter_map f (map view (take i xs)))) (f (view (get_or xs i d)))
found_more view names f xs i d lt =
    ap (with_names names) (filter_map_push view f xs i d lt) ∙ with_both names (filter_map f (map view (take i xs))) (cons_option (f (view (get_or xs i d))) [])
    ∙ with_found_is (with_names names (filter_map f (map view (take i xs)))) (f (view (get_or xs i d)))

flat_map_push : {V : Type 0} (view : V → Data) (f : Data → List (List ℕ)) (xs : List V) (i : ℕ) (d : V) → i < length xs → flat_map f (map view (take (i + 1) xs)) ≡ flat_map f (map view (take i xs)) ++ f (view (get_or xs i d))
flat_map_push view f [] i d lt = absurd (omega arith)
flat_map_push view f (x ∷ xs) zero d lt = append-nil (f (view x))
flat_map_push view f (x ∷ xs) (suc i) d lt =
    let more : suc i + 1 ≡ suc (i + 1) = omega arith in
    rw more (ap (λ l. f (view x) ++ l) (flat_map_push view f xs i d (omega arith)) ∙ sym (append_assoc (f (view x)) (flat_map f (map view (take i xs))) (f (view (get_or xs i d)))))

-- the names of one more operation, or of one more train
pub names_more : {V : Type 0} (view : V → Data) (names : List (List ℕ)) (f : Data → List (List ℕ)) (xs : List V) (i : ℕ) (d : V) → i < length xs
    → with_names names (flat_map f (map view (take (i + 1) xs))) ≡ with_names (with_names names (flat_map f (map view (take i xs)))) (f (view (get_or xs i d)))
names_more view names f xs i d lt = ap (with_names names) (flat_map_push view f xs i d lt) ∙ with_both names (flat_map f (map view (take i xs))) (f (view (get_or xs i d)))
