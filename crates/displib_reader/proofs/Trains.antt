-- The trains of a value that keeps the rules on single places and on counts.
use Rattle.std.proofs.Common.{◌≡◌, ℕ, zero, suc, ◌+◌, ◌≤◌, List, [], ◌∷◌, ◌++◌, length, Option, Some, None, Bool, true, false, cond, option_map, refl, sym, ap, subst, ◌∙◌, arith}
use Rattle.std.specs.Prelude.{codes, slice_get, sum_by, nat_lt, ◌||◌}
use Rattle.std.specs.List.{AllByRecursion, list_any, filter_map, flat_map, cons_option}
use Rattle.std.specs.Option.{option_map_or}
use Rattle.std.specs.Str.{bytes_eq}
use Rattle.std.specs.Cmp.Lexicographic.{nat_list_eq_equiv}
use Rattle.std.proofs.lemmas.Bool.{ltb-false}
use Rattle.std.proofs.lemmas.List.Sums.{sum_by-cons}
use Rattle.std.proofs.lemmas.Option.{same_Some, none-some}
use Rattle.serde_json.specs.Data.{Data, Items}
use Rattle.serde_json.specs.Find.{as_array}
use Rattle.disp_model.specs.declared.train.Operation.{Operation}
use Rattle.disp_model.specs.declared.limits.TheConstants.{MOST_TRAINS, MOST_OPERATIONS, MOST_COMPONENTS}
use Rattle.disp_model.specs.WellFormed.{operation_count}
use Rattle.displib_reader.specs.declared.place.Place.TheVariants as place
use Rattle.json_claims.specs.Field.{field, values_of, members_in, members_at, text_at, array_at, each}
use Rattle.displib_reader.specs.ProblemOf.{once, names_of_operation, names_of_train, names_in, operation_read, train_read_as, trains_with, trains_of}
use Rattle.json_claims.specs.Claims.{claims_from}
use Rattle.displib_reader.specs.Claims.{operation_claims, train_claims, problem_claims}
use Rattle.displib_reader.specs.Counts.{too_many, trains_given, operations_given, components_given}
use Rattle.displib_reader.specs.Outcome.{IsLinked}
use Rattle.json_claims.proofs.Steps.{bind_some, each_some}
use Rattle.json_claims.proofs.Kept.{AreKept, kept_head, kept_both, needed_list_there, each_kept}
use Rattle.displib_reader.proofs.Distinct.{once_any}
use Rattle.displib_reader.proofs.Parts.{IsNamed, AreNamed, IsGoodOperation, read_operation}

-- ---- lists

pub all_weaker : {A : Type 0} (P Q : A → Type 0) → ((x : A) → P x → Q x) → (xs : List A) → AllByRecursion P xs → AllByRecursion Q xs
all_weaker P Q weaker [] all = tt
all_weaker P Q weaker (x ∷ xs) all = (weaker x all.0, all_weaker P Q weaker xs all.1)

all_both : {A : Type 0} (P : A → Type 0) (a b : List A) → AllByRecursion P (a ++ b) → AllByRecursion P a × AllByRecursion P b
all_both P [] b all = (tt, all)
all_both P (x ∷ a) b all = let rest = all_both P a b all.1 in ((all.0, rest.0), rest.1)

pub each_length : {A B : Type 0} (f : A → Option B) (xs : List A) (ys : List B) → each f xs ≡ Some ys → length ys ≡ length xs
each_length f [] ys e = let n : [] ≡ ys = same_Some _ _ e in ap length (sym n)
each_length f (x ∷ xs) ys e =
    let p = each_some f x xs ys e in
    let rest = each_length f xs p.1 p.3 in
    ap length p.4 ∙ ap suc rest

pub each_at : {A B : Type 0} (f : A → Option B) (xs : List A) (ys : List B) → each f xs ≡ Some ys → (k : ℕ) (y : B) → slice_get ys k ≡ Some y → (x : A) × (slice_get xs k ≡ Some x) × (f x ≡ Some y)
each_at f [] ys e k y at = let n : [] ≡ ys = same_Some _ _ e in absurd (none-some y (subst (λ l. slice_get l k ≡ Some y) (sym n) at))
each_at {A} {B} f (x ∷ xs) ys e zero y at =
    let p = each_some f x xs ys e in
    let here : p.0 ≡ y = same_Some p.0 y (subst (λ (l : List B). slice_get l 0 ≡ Some y) p.4 at) in
    (x, refl, p.2 ∙ ap Some here)
each_at {A} {B} f (x ∷ xs) ys e (suc k) y at =
    let p = each_some f x xs ys e in
    each_at f xs p.1 p.3 k y (subst (λ (l : List B). slice_get l (suc k) ≡ Some y) p.4 at)

-- ---- names

-- each of these is among the names
abbrev pub AreAmong : List (List ℕ) → List (List ℕ) → Type 0
AreAmong names xs = AllByRecursion (λ x. list_any (bytes_eq x) names ≡ true) xs

or_true : (b : Bool) → (b || true) ≡ true
or_true true = refl
or_true false = refl

among_self : (xs : List (List ℕ)) → AreAmong xs xs
among_self [] = tt
among_self (x ∷ xs) = (
  rw (nat_list_eq_equiv.refl x) refl,
  all_weaker (λ y. list_any (bytes_eq y) xs ≡ true) (λ y. list_any (bytes_eq y) (x ∷ xs) ≡ true) (λ y h. rw h (or_true (bytes_eq y x))) xs (among_self xs),
)

among_once : (xs : List (List ℕ)) → AreAmong (once bytes_eq xs) xs
among_once xs = all_weaker (λ y. list_any (bytes_eq y) xs ≡ true) (λ y. list_any (bytes_eq y) (once bytes_eq xs) ≡ true) (once_any bytes_eq nat_list_eq_equiv xs) xs (among_self xs)

among_flat : (names : List (List ℕ)) (f : Data → List (List ℕ)) (ds : List Data) → AreAmong names (flat_map f ds) → AllByRecursion (λ d. AreAmong names (f d)) ds
among_flat names f [] all = tt
among_flat names f (d ∷ ds) all = let both = all_both (λ x. list_any (bytes_eq x) names ≡ true) (f d) (flat_map f ds) all in (both.0, among_flat names f ds both.1)

named_head : (names : List (List ℕ)) (d : Data) (found : Option (List ℕ)) (rest : List (List ℕ)) → text_at (codes "resource") d ≡ found → AreAmong names (cons_option found rest) → IsNamed names d × AreAmong names rest
named_head names d None rest is all = (λ name e. absurd (none-some name (sym is ∙ e)), all)
named_head names d (Some n) rest is all = (λ name e. let same : n ≡ name = same_Some n name (sym is ∙ e) in subst (λ m. list_any (bytes_eq m) names ≡ true) same all.0, all.1)

named_listings : (names : List (List ℕ)) (ds : List Data) → AreAmong names (filter_map (text_at (codes "resource")) ds) → AllByRecursion (IsNamed names) ds
named_listings names [] all = tt
named_listings names (d ∷ ds) all = let p = named_head names d (text_at (codes "resource") d) (filter_map (text_at (codes "resource")) ds) refl all in (p.0, named_listings names ds p.1)

-- what a train's operations list has its names among these
abbrev pub IsTrainNamed : List (List ℕ) → Data → Type 0
IsTrainNamed names d = AllByRecursion (AreNamed names) (members_in (Some d))

train_named : (names : List (List ℕ)) (d : Data) → AreAmong names (names_of_train d) → IsTrainNamed names d
train_named names d all =
    all_weaker (λ o. AreAmong names (names_of_operation o)) (AreNamed names) (λ o h. named_listings names (members_at (codes "resources") o) h) (members_in (Some d)) (among_flat names names_of_operation (members_in (Some d)) all)

trains_named : (d : Data) → AllByRecursion (IsTrainNamed (names_in d)) (members_at (codes "trains") d)
trains_named d =
    let ds = members_at (codes "trains") d in
    all_weaker (λ t. AreAmong (names_in d) (names_of_train t)) (IsTrainNamed (names_in d)) (train_named (names_in d)) ds (among_flat (names_in d) names_of_train ds (among_once (flat_map names_of_train ds)))

-- ---- trains

-- each operation is well formed
abbrev pub IsGoodTrain : ℕ → List Operation → Type 0
IsGoodTrain resources train = AllByRecursion (IsGoodOperation (length train) resources) train

train_made : (names : List (List ℕ)) (d : Data) (ds : List Data) (train : List Operation) → option_map values_of (as_array d) ≡ Some ds → each (operation_read names) ds ≡ Some train → train_read_as names d ≡ Some train
train_made names d ds train list read = rw list read

read_train : (names : List (List ℕ)) (t : ℕ) (d : Data) → IsTrainNamed names d → AreKept (train_claims t d) → (train : List Operation) × (train_read_as names d ≡ Some train) × IsGoodTrain (length names) train
unfolding train_claims
read_train names t d named kept =
    let one = kept_head _ _ kept in
    let ds = members_in (Some d) in
    let list = needed_list_there (place.Train t) (Some d) one.0.plain in
    let ops = each_kept (operation_claims (length ds) t) (operation_read names) (AreNamed names) (IsGoodOperation (length ds) (length names)) (read_operation names (length ds) t) 0 ds named one.1 in
    let long : length ops.0 ≡ length ds = each_length (operation_read names) ds ops.0 ops.1 in
    (ops.0, train_made names d ds ops.0 list ops.1, subst (λ n. AllByRecursion (IsGoodOperation n (length names)) ops.0) (sym long) ops.2)

pub kept_problem : (d : Data) → IsLinked d → AreKept (problem_claims d)
kept_problem d linked = record { plain = linked.plain; index = linked.index }

trains_made : (names : List (List ℕ)) (d : Data) (ds : List Data) (trains : List (List Operation)) → array_at (codes "trains") d ≡ Some ds → each (train_read_as names) ds ≡ Some trains → trains_with names d ≡ Some trains
trains_made names d ds trains list read = rw list read

-- the trains are read, and are well formed but for their graphs
pub read_trains : (d : Data) → IsLinked d → (trains : List (List Operation)) × (trains_of d ≡ Some trains) × AllByRecursion (IsGoodTrain (length (names_in d))) trains
read_trains d linked =
    let one = kept_head _ _ (kept_problem d linked) in
    let two = kept_head _ _ one.1 in
    let three = kept_both (claims_from train_claims 0 (members_at (codes "trains") d)) _ two.1 in
    let list = needed_list_there place.Trains (field (codes "trains") d) two.0.plain in
    let read = each_kept train_claims (train_read_as (names_in d)) (IsTrainNamed (names_in d)) (IsGoodTrain (length (names_in d))) (read_train (names_in d)) 0 (members_at (codes "trains") d) (trains_named d) three.0 in
    (read.0, trains_made (names_in d) d (members_at (codes "trains") d) read.0 list read.1, read.2)

-- the trains that are read are those of the members
pub trains_each : (d : Data) → IsLinked d → (trains : List (List Operation)) → trains_of d ≡ Some trains → each (train_read_as (names_in d)) (members_at (codes "trains") d) ≡ Some trains
trains_each d linked trains is =
    let one = kept_head _ _ (kept_problem d linked) in
    let two = kept_head _ _ one.1 in
    let list = needed_list_there place.Trains (field (codes "trains") d) two.0.plain in
    sym (rw list refl) ∙ is

pub good_trains : (d : Data) → IsLinked d → (trains : List (List Operation)) → trains_of d ≡ Some trains → AllByRecursion (IsGoodTrain (length (names_in d))) trains
good_trains d linked trains is =
    let read = read_trains d linked in
    let same : read.0 ≡ trains = same_Some read.0 trains (sym read.1 ∙ is) in
    subst (λ l. AllByRecursion (IsGoodTrain (length (names_in d))) l) same read.2

-- ---- counts

members_are : (found : Option Items) (ds : List Data) → option_map values_of found ≡ Some ds → option_map_or values_of found [] ≡ ds
members_are None ds e = absurd cc
members_are (Some items) ds e = same_Some (values_of items) ds e

pub train_length : (names : List (List ℕ)) (d : Data) (train : List Operation) → train_read_as names d ≡ Some train → length train ≡ length (members_in (Some d))
train_length names d train e =
    let p = bind_some (option_map values_of (as_array d)) (each (operation_read names)) train e in
    each_length (operation_read names) p.0 train p.2 ∙ ap length (sym (members_are (as_array d) p.0 p.1))

count_each : (names : List (List ℕ)) (ds : List Data) (trains : List (List Operation)) → each (train_read_as names) ds ≡ Some trains → operation_count trains ≡ sum_by (λ t. length (members_in (Some t))) ds
count_each names [] trains e = let n : [] ≡ trains = same_Some _ _ e in ap operation_count (sym n)
count_each names (d ∷ ds) trains e =
    let p = each_some (train_read_as names) d ds trains e in
    ap operation_count p.4
    ∙ sum_by-cons (λ (t : List Operation). length t) p.0 p.1
    ∙ ap (λ n. n + operation_count p.1) (train_length names d p.0 p.2)
    ∙ ap (λ n. length (members_in (Some d)) + n) (count_each names ds p.1 p.3)
    ∙ sym (sum_by-cons (λ t. length (members_in (Some t))) d ds)

not_above : {A : Type 0} (b : Bool) (x : A) (rest : Option A) → cond b (Some x) rest ≡ None → (b ≡ false) × (rest ≡ None)
not_above true x rest e = absurd cc
not_above false x rest e = (refl, e)

pub record HasFew (d : Data) : Type 0 where
  pub trains : trains_given d ≤ MOST_TRAINS
  pub operations : operations_given d ≤ MOST_OPERATIONS
  pub components : components_given d ≤ MOST_COMPONENTS

pub has_few : (d : Data) → too_many d ≡ None → HasFew d
has_few d e =
    let one = not_above (nat_lt MOST_TRAINS (trains_given d)) _ _ e in
    let two = not_above (nat_lt MOST_OPERATIONS (operations_given d)) _ _ one.1 in
    let three = not_above (nat_lt MOST_COMPONENTS (components_given d)) _ _ two.1 in
    record {
      trains = ltb-false MOST_TRAINS (trains_given d) one.0;
      operations = ltb-false MOST_OPERATIONS (operations_given d) two.0;
      components = ltb-false MOST_COMPONENTS (components_given d) three.0;
    }

pub few_trains : (d : Data) → IsLinked d → (trains : List (List Operation)) → trains_of d ≡ Some trains → length trains ≤ MOST_TRAINS
few_trains d linked trains is = omega (arith, each_length (train_read_as (names_in d)) (members_at (codes "trains") d) trains (trains_each d linked trains is), (has_few d linked.few).trains)

pub few_operations : (d : Data) → IsLinked d → (trains : List (List Operation)) → trains_of d ≡ Some trains → operation_count trains ≤ MOST_OPERATIONS
few_operations d linked trains is = omega (arith, count_each (names_in d) (members_at (codes "trains") d) trains (trains_each d linked trains is), (has_few d linked.few).operations)

lengths_below : (n : ℕ) (trains : List (List Operation)) → operation_count trains ≤ n → AllByRecursion (λ t. length t ≤ n) trains
lengths_below n [] le = tt
lengths_below n (t ∷ trains) le =
    let sum : operation_count (t ∷ trains) ≡ length t + operation_count trains = sum_by-cons (λ (u : List Operation). length u) t trains in
    (omega arith, lengths_below n trains (omega arith))

pub short_trains : (d : Data) → IsLinked d → (trains : List (List Operation)) → trains_of d ≡ Some trains → AllByRecursion (λ t. length t ≤ MOST_OPERATIONS) trains
short_trains d linked trains is = lengths_below MOST_OPERATIONS trains (few_operations d linked trains is)
