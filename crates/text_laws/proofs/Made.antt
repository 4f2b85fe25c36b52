-- The names of a problem that is made stand in the order of their first listing.
use Rattle.std.proofs.Common.{◌≡◌, ℕ, zero, suc, ◌/◌, ◌%◌, ◌^◌, ◌<◌, ◌≤◌, ◌||◌, List, [], ◌∷◌, ◌++◌, length, get_or, Bool, true, false, refl, sym, ap, ◌∙◌, arith, inl, inr, length-append, decimal, append_assoc, append-nil}
use Rattle.std.specs.Prelude.{◌==◌, ◌⊎◌, codes, All, slice_index_or, if◌then◌else◌}
use Rattle.std.specs.List.{flat_map, list_any}
use Rattle.std.specs.Str.{IsUtf8, bytes_eq}
use Rattle.std.proofs.Math.Seq.{get_or-append_seam}
use Rattle.std.proofs.lemmas.Bool.{cases_lt}
use Rattle.std.proofs.lemmas.List.{get_or_append_left}
use Rattle.std.proofs.lemmas.Fmt.{IsAscii-decimal, decimal_injective}
use Rattle.std.proofs.lemmas.List.Elements.{All-from_recursion, All-append}
use Rattle.std.proofs.lemmas.List.Folds.{list_any-append}
use Rattle.std.proofs.lemmas.Slice.Eq.{bytes_eq-Decides}
use Rattle.std.proofs.lemmas.Str.{IsUtf8-append, IsUtf8-from_ascii}
use Rattle.json.proofs.Printed.Utf8.{IsUtf8-are_ascii}
use Rattle.disp_model.specs.declared.problem.Problem.{Problem}
use Rattle.disp_model.specs.declared.train.Operation.{Operation}
use Rattle.displib_reader.specs.ProblemOf.{once}
use Rattle.displib_reader.specs.Names.{with_name, with_names}
use Rattle.displib_reader.proofs.Once.{gathered_names, with_both}
use Rattle.displib_reader.specs.Outcome.{IsReadAs}
use Rattle.instance_maker.specs.Draws.{pair_at}
use Rattle.instance_maker.specs.Made.{first_train, second_train, made_train, made_trains, names_of, pair_count, IsMade}
use Rattle.problem_text.specs.Texts.{problem_text}
use Rattle.text_laws.specs.Listed.{listed_names_of_train, names_listed, HasNamesInOrder}
use Rattle.text_laws.proofs.Graphs.{not_true}
use Rattle.text_laws.proofs.Whole.{read_again, line_again}

-- the name of the resource of this number
abbrev label : ℕ → List ℕ
label k = codes "p" ++ decimal k

-- the names that the first so many trains list
abbrev labels : ℕ → List (List ℕ)
labels zero = []
labels (suc t) = labels t ++ label (t / 2) ∷ []

names_long : (n : ℕ) → length (names_of n) ≡ n
names_long zero = refl
names_long (suc n) = length-append (names_of n) (label n ∷ []) ∙ omega (arith, names_long n)

trains_long : (number n : ℕ) → length (made_trains number n) ≡ n
trains_long number zero = refl
trains_long number (suc n) = length-append (made_trains number n) (made_train number n ∷ []) ∙ omega (arith, trains_long number n)

-- ---- what the trains list

train_lists : (names : List (List ℕ)) (number k : ℕ) (first : Bool)
    → listed_names_of_train names (if first then first_train k (pair_at number k) else second_train k (pair_at number k)) ≡ slice_index_or names k [] ∷ []
train_lists names number k true = refl
train_lists names number k false = refl

flat_push : {X : Type 0} (f : X → List (List ℕ)) (xs : List X) (y : X) → flat_map f (xs ++ y ∷ []) ≡ flat_map f xs ++ f y
flat_push f [] y = append-nil (f y)
flat_push f (x ∷ xs) y = ap (λ l. f x ++ l) (flat_push f xs y) ∙ sym (append_assoc (f x) (flat_map f xs) (f y))

trains_list : (names : List (List ℕ)) (number n : ℕ) → ((t : ℕ) → t < n → slice_index_or names (t / 2) [] ≡ label (t / 2)) → names_listed names (made_trains number n) ≡ labels n
trains_list names number zero named = refl
trains_list names number (suc t) named =
    flat_push (listed_names_of_train names) (made_trains number t) (made_train number t)
    ∙ ap (λ l. names_listed names (made_trains number t) ++ l) (train_lists names number (t / 2) (t % 2 == 0))
    ∙ ap (λ name. names_listed names (made_trains number t) ++ name ∷ []) (named t (omega arith))
    ∙ ap (λ l. l ++ label (t / 2) ∷ []) (trains_list names number t (λ u lt. named u (omega (arith, lt))))

-- ---- each once

-- with one more name
once_push : (xs : List (List ℕ)) (y : List ℕ) → once bytes_eq (xs ++ y ∷ []) ≡ with_name (once bytes_eq xs) y
unfolding with_names
once_push xs y = sym (gathered_names (xs ++ y ∷ [])) ∙ with_both [] xs (y ∷ []) ∙ ap (λ l. with_name l y) (gathered_names xs)

same_rest : (x : ℕ) (one other : List ℕ) → x ∷ one ≡ x ∷ other → one ≡ other
same_rest x one other e = cc

other_label : (k j : ℕ) → j < k → k < 2 ^ 64 → bytes_eq (label k) (label j) ≡ false
other_label k j lt fits = not_true (bytes_eq (label k) (label j)) (λ same. differs ((bytes_eq-Decides (label k) (label j)).0 same))
  where
    differs : label k ≡ label j → ⊥
    differs texts = let equal : k ≡ j = decimal_injective k j fits (omega (arith, lt, fits)) (same_rest 112 (decimal k) (decimal j) texts) in omega (arith, lt, equal)

new_label : (k n : ℕ) → n ≤ k → k < 2 ^ 64 → list_any (bytes_eq (label k)) (names_of n) ≡ false
new_label k zero le fits = refl
new_label k (suc n) le fits =
    list_any-append (bytes_eq (label k)) (names_of n) (label n ∷ []) ∙ rw (new_label k n (omega (arith, le)) fits, other_label k n (omega (arith, le)) fits) refl

last_label : (k : ℕ) → list_any (bytes_eq (label k)) (names_of (suc k)) ≡ true
last_label k =
    let itself : bytes_eq (label k) (label k) ≡ true = (bytes_eq-Decides (label k) (label k)).1 refl in
    list_any-append (bytes_eq (label k)) (names_of k) (label k ∷ []) ∙ rw itself (or_true (list_any (bytes_eq (label k)) (names_of k)))
  where
    or_true : (b : Bool) → (b || true) ≡ true
    or_true true = refl
    or_true false = refl

with_new_label : (k : ℕ) → k < 2 ^ 64 → with_name (names_of k) (label k) ≡ names_of (suc k)
with_new_label k fits = rw (new_label k k (omega arith) fits) refl

with_last_label : (k : ℕ) → with_name (names_of (suc k)) (label k) ≡ names_of (suc k)
with_last_label k = rw (last_label k) refl

-- the first of a pair has a new name, the second one that of the first
one_more : (k count more : ℕ) → ((count ≡ k) ⊎ (count ≡ suc k)) → more ≡ suc k → k < 2 ^ 64 → with_name (names_of count) (label k) ≡ names_of more
one_more k count more (inl new) is fits = rw (new, is) (with_new_label k fits)
one_more k count more (inr old) is fits = rw (old, is) (with_last_label k)

labels_once : (n : ℕ) → n < 2 ^ 64 → once bytes_eq (labels n) ≡ names_of (pair_count n)
labels_once zero fits = refl
labels_once (suc t) fits =
    once_push (labels t) (label (t / 2))
    ∙ ap (λ l. with_name l (label (t / 2))) (labels_once t (omega (arith, fits)))
    ∙ one_more (t / 2) (pair_count t) (pair_count (suc t)) (either (cases_lt (t / 2) (pair_count t))) (omega arith) (omega (arith, fits))
  where
    either : (t / 2 < pair_count t) ⊎ (pair_count t ≤ t / 2) → (pair_count t ≡ t / 2) ⊎ (pair_count t ≡ suc (t / 2))
    either (inl lt) = inr (omega (arith, lt))
    either (inr le) = inl (omega (arith, le))

-- ---- the problem

label_utf8 : (k : ℕ) → k < 2 ^ 64 → IsUtf8 (label k)
label_utf8 k fits = IsUtf8-append (codes "p") (decimal k) (IsUtf8-are_ascii (codes "p") refl) (IsUtf8-from_ascii (decimal k) (IsAscii-decimal k fits))

names_utf8 : (n : ℕ) → n < 2 ^ 64 → All IsUtf8 (names_of n)
names_utf8 zero fits = All-from_recursion IsUtf8 [] tt
names_utf8 (suc n) fits = All-append IsUtf8 (names_of n) (label n ∷ []) (names_utf8 n (omega (arith, fits))) (All-from_recursion IsUtf8 (label n ∷ []) (label_utf8 n (omega (arith, fits)), tt))

name_at : (n k : ℕ) → k < n → get_or (names_of n) k [] ≡ label k
name_at zero k lt = absurd (omega (arith, lt))
name_at (suc n) k lt = elim (cases_lt k n) [
  | inl below ↦ get_or_append_left (names_of n) (label n ∷ []) [] k (omega (arith, below, names_long n)) ∙ name_at n k below
  | inr above ↦
      let same : k ≡ length (names_of n) = omega (arith, lt, above, names_long n) in
      let last : k ≡ n = omega (arith, lt, above) in
      ap (λ i. get_or (names_of n ++ label n ∷ []) i []) same ∙ get_or-append_seam (names_of n) (label n) [] [] ∙ ap label (sym last)
]

pub made_in_order : (number n : ℕ) (problem : Problem) → IsMade number n problem → HasNamesInOrder problem
made_in_order number n problem made =
    let long : length problem.trains ≡ n = ap (λ (l : List (List Operation)). length l) made.trains_are ∙ trains_long number n in
    let fits : n < 2 ^ 64 = omega (arith, long, problem.well_formed.trains_fit) in
    let named : names_listed problem.names problem.trains ≡ labels n =
    rw (made.names_are, made.trains_are) (trains_list (names_of (pair_count n)) number n (λ t lt. name_at (pair_count n) (t / 2) (omega (arith, lt))))
    in
    record {
      texts = rw made.names_are (names_utf8 (pair_count n) (omega (arith, fits)));
      order = ap (once bytes_eq) named ∙ labels_once n fits ∙ sym made.names_are;
    }

pub made_again : (number n : ℕ) (problem : Problem) → IsMade number n problem → IsReadAs (problem_text problem) problem
made_again number n problem made = read_again problem (made_in_order number n problem made)

pub made_line : (number n : ℕ) (problem : Problem) → IsMade number n problem → IsReadAs (problem_text problem ++ codes "\n") problem
made_line number n problem made = line_again problem (made_in_order number n problem made)
