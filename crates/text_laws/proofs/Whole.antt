-- The text of a problem whose names stand in the order of their first listing is read as the problem.
use Rattle.std.proofs.Common.{◌≡◌, ◌≢◌, ℕ, zero, suc, ◌+◌, ◌^◌, ◌<◌, ◌≤◌, List, [], ◌∷◌, ◌++◌, length, get_or, filter, not, cond, Bool, true, false, Some, None, refl, sym, ap, ◌∙◌, subst, arith, le-ltb}
use Rattle.std.specs.Prelude.{codes, nat_eq, nat_lt, All, slice_get, sum_by}
use Rattle.std.specs.List.{AllByRecursion, position_or_len}
use Rattle.std.specs.Str.{IsUtf8, bytes_eq}
use Rattle.std.proofs.lemmas.Bool.{eqb-true}
use Rattle.std.proofs.lemmas.Option.{same_Some, none-some, slice_get-get_or}
use Rattle.std.proofs.lemmas.List.Elements.{recursion_from_All}
use Rattle.std.proofs.lemmas.List.Sums.{sum_by-cons, position_or_len_is}
use Rattle.std.proofs.lemmas.Slice.Eq.{bytes_eq-Decides}
use Rattle.serde_json.specs.Data.{Data}
use Rattle.json_claims.specs.declared.rule.Rule.TheVariants as rule
use Rattle.json_claims.specs.Field.{values_of, members_in}
use Rattle.disp_model.specs.declared.limits.TheConstants.{GREATEST_NUMBER, MOST_TRAINS, MOST_OPERATIONS, MOST_COMPONENTS}
use Rattle.disp_model.specs.declared.problem.Problem.{Problem}
use Rattle.disp_model.specs.declared.train.Listing.{Listing}
use Rattle.disp_model.specs.declared.train.Operation.{Operation}
use Rattle.disp_model.specs.declared.train.Component.{Component}
use Rattle.disp_model.specs.WellFormed.{HasFitNumbers, RefersInside, IsAcyclic, IsComponent, operation_count}
use Rattle.displib_reader.specs.Claims.{count_at, problem_claims}
use Rattle.displib_reader.specs.Counts.{trains_given, operations_given, components_given, too_many}
use Rattle.displib_reader.specs.Types.{first_unknown}
use Rattle.displib_reader.specs.ProblemOf.{once, trains_with, IsProblemOf}
use Rattle.displib_reader.specs.Outcome.{IsLinked, IsReadAs}
use Rattle.displib_reader.proofs.Distinct.{at_all}
use Rattle.displib_reader.proofs.Parts.{IsGoodOperation}
use Rattle.displib_reader.proofs.Trains.{IsGoodTrain, all_weaker}
use Rattle.problem_text.specs.Texts.{problem_text}
use Rattle.json_claims.specs.Json.{IsJson}
use Rattle.text_laws.specs.Listed.{name_of, HasNamesInOrder}
use Rattle.text_laws.proofs.Data.{items_data, listing_data, operation_data, train_data, component_data, problem_data}
use Rattle.text_laws.proofs.Texts.{problem_written}
use Rattle.text_laws.proofs.Readings.{IsRead, IsShort, listing_read, operation_read, list_read, component_read, problem_read, text_is_json, line_is_json}
use Rattle.text_laws.proofs.Rules.{AreUnbroken, IsPlace, HasPlaces, HasPlace, as_many, problem_unbroken}
use Rattle.text_laws.proofs.Back.{IsKnown, IsReadable, IsSmall, trains_back, components_back, names_are}
use Rattle.text_laws.proofs.Graphs.{IsSound, not_true, have_graphs}

-- ---- numbers that stand once, and names

filter_same : {A : Type 0} (test : A → Bool) (xs : List A) → AllByRecursion (λ x. test x ≡ true) xs → filter test xs ≡ xs
filter_same test [] all = refl
filter_same test (x ∷ xs) all = rw all.0 (ap (λ l. x ∷ l) (filter_same test xs all.1))

differ : (x : ℕ) (xs : List ℕ) → ((j : ℕ) → slice_get xs j ≡ Some x → ⊥) → AllByRecursion (λ y. not (nat_eq x y) ≡ true) xs
differ x [] none = tt
differ x (y ∷ ys) none = (
  let other : nat_eq x y ≡ false = not_true (nat_eq x y) (λ same. none 0 (ap Some (sym (eqb-true x y same)))) in rw other refl,
  differ x ys (λ j at. none (suc j) at),
)

once_same : (xs : List ℕ) → ((i j : ℕ) (s : ℕ) → i < j → slice_get xs i ≡ Some s → slice_get xs j ≢ Some s) → once nat_eq xs ≡ xs
once_same [] apart = refl
once_same (x ∷ xs) apart =
    ap (λ l. x ∷ filter (λ y. not (nat_eq x y)) l) (once_same xs (λ i j s lt a b. apart (suc i) (suc j) s (omega (arith, lt)) a b))
    ∙ ap (λ l. x ∷ l) (filter_same (λ y. not (nat_eq x y)) xs (differ x xs (λ j at. apart 0 (suc j) x (omega arith) refl at)))

-- no name stands at two places
abbrev AreApart : List (List ℕ) → Type 0
AreApart names = (i j : ℕ) (name : List ℕ) → i < j → slice_get names i ≡ Some name → slice_get names j ≢ Some name

known_place : (names : List (List ℕ)) (l : Listing) → AreApart names → l.resource < length names → position_or_len (bytes_eq (name_of names l)) names ≡ l.resource
known_place names l apart within = position_or_len_is (bytes_eq (name_of names l)) names l.resource [] (omega (arith, within)) before (λ lt. (bytes_eq-Decides (name_of names l) (name_of names l)).1 refl)
  where
    before : (k : ℕ) → k < l.resource → bytes_eq (name_of names l) (get_or names k []) ≡ false
    before k lt = not_true (bytes_eq (name_of names l) (get_or names k [])) (λ same. differs k lt ((bytes_eq-Decides (name_of names l) (get_or names k [])).0 same))
      where
        differs : (i : ℕ) → i < l.resource → name_of names l ≡ get_or names i [] → ⊥
        differs i less equal = apart i l.resource (get_or names i []) less (slice_get-get_or names i [] (omega (arith, less, within))) (slice_get-get_or names l.resource [] within ∙ ap Some equal)

-- ---- operations

all_places : (count : ℕ) (ns : List ℕ) → count ≤ MOST_OPERATIONS → AllByRecursion (λ n. n < count) ns → AllByRecursion (IsPlace count) ns
all_places count ns few all = all_weaker (λ n. n < count) (IsPlace count) (λ n lt. record { below = lt; small = omega (arith, lt, few) }) ns all

places : (count resources : ℕ) (o : Operation) → count ≤ MOST_OPERATIONS → IsGoodOperation count resources o → HasPlaces count o
places count resources o few good = record {
  lower = good.numbers.lower;
  upper = good.numbers.upper;
  min = good.numbers.min;
  releases = recursion_from_All (λ (l : Listing). l.release ≤ GREATEST_NUMBER) o.listings good.numbers.releases;
  next = all_places count o.next few (recursion_from_All (λ n. n < count) o.next good.refers.next);
}

all_known : (names : List (List ℕ)) (ls : List Listing) → AreApart names → AllByRecursion (λ l. l.release ≤ GREATEST_NUMBER) ls → AllByRecursion (λ l. l.resource < length names) ls → AllByRecursion (IsKnown names) ls
all_known names [] apart releases resources = tt
all_known names (l ∷ ls) apart releases resources = (record { place = known_place names l apart resources.0; release = releases.0 }, all_known names ls apart releases.1 resources.1)

readable : (names : List (List ℕ)) (count : ℕ) (o : Operation) → AreApart names → count ≤ MOST_OPERATIONS → IsGoodOperation count (length names) o → IsReadable names o
readable names count o apart few good = record {
  lower = good.numbers.lower;
  upper = good.numbers.upper;
  min = good.numbers.min;
  listings =
      all_known names o.listings apart (recursion_from_All (λ (l : Listing). l.release ≤ GREATEST_NUMBER) o.listings good.numbers.releases)
      (recursion_from_All (λ (l : Listing). l.resource < length names) o.listings good.refers.listings);
  next = all_weaker (λ n. n < count) (λ n. n ≤ GREATEST_NUMBER) (λ n lt. omega (arith, lt, few)) o.next (recursion_from_All (λ n. n < count) o.next good.refers.next);
  once = once_same o.next good.refers.once;
}

listings_read : (names : List (List ℕ)) (ls : List Listing) → All IsUtf8 names → AllByRecursion (λ l. l.release ≤ GREATEST_NUMBER) ls → AllByRecursion (λ l. l.resource < length names) ls
    → AllByRecursion (λ l. IsRead (listing_data names l) 1) ls
listings_read names [] texts releases resources = tt
listings_read names (l ∷ ls) texts releases resources = (listing_read names l (omega (arith, releases.0)) (texts l.resource [] resources.0), listings_read names ls texts releases.1 resources.1)

reads : (names : List (List ℕ)) (count : ℕ) (o : Operation) → All IsUtf8 names → count ≤ MOST_OPERATIONS → IsGoodOperation count (length names) o → IsRead (operation_data names o) 3
reads names count o texts few good =
    operation_read names o.lower o.upper o.min o.listings o.next (omega (arith, good.numbers.lower)) (λ u at. omega (arith, good.numbers.upper u at)) (omega (arith, good.numbers.min))
    (listings_read names o.listings texts (recursion_from_All (λ (l : Listing). l.release ≤ GREATEST_NUMBER) o.listings good.numbers.releases)
    (recursion_from_All (λ (l : Listing). l.resource < length names) o.listings good.refers.listings))
    (all_weaker (λ n. n < count) (λ n. n < 2 ^ 64) (λ n lt. omega (arith, lt, few)) o.next (recursion_from_All (λ n. n < count) o.next good.refers.next))

-- ---- trains

all_short : (trains : List (List Operation)) → operation_count trains ≤ MOST_OPERATIONS → AllByRecursion (λ t. length t ≤ MOST_OPERATIONS) trains
all_short [] le = tt
all_short (t ∷ ts) le =
    let sum : operation_count (t ∷ ts) ≡ length t + operation_count ts = sum_by-cons (λ (u : List Operation). length u) t ts in
    (omega (arith, le, sum), all_short ts (omega (arith, le, sum)))

record IsWhole (resources : ℕ) (train : List Operation) : Type 0 where
  pub good : IsGoodTrain resources train
  pub short : length train ≤ MOST_OPERATIONS
  pub acyclic : IsAcyclic train

good_operations : (count resources : ℕ) (os : List Operation) → AllByRecursion HasFitNumbers os → AllByRecursion (RefersInside count resources) os → AllByRecursion (IsGoodOperation count resources) os
good_operations count resources [] numbers refers = tt
good_operations count resources (o ∷ os) numbers refers = (record { numbers = numbers.0; refers = refers.0 }, good_operations count resources os numbers.1 refers.1)

wholes : (resources : ℕ) (trains : List (List Operation)) → AllByRecursion (λ t. All HasFitNumbers t) trains → AllByRecursion (λ t. All (RefersInside (length t) resources) t) trains → AllByRecursion (λ t. length t ≤ MOST_OPERATIONS) trains
    → AllByRecursion IsAcyclic trains → AllByRecursion (IsWhole resources) trains
wholes resources [] numbers refers short acyclic = tt
wholes resources (t ∷ ts) numbers refers short acyclic = (
  record {
    good = good_operations (length t) resources t (recursion_from_All HasFitNumbers t numbers.0) (recursion_from_All (RefersInside (length t) resources) t refers.0);
    short = short.0;
    acyclic = acyclic.0;
  },
  wholes resources ts numbers.1 refers.1 short.1 acyclic.1,
)

sound : (resources : ℕ) (train : List Operation) → IsWhole resources train → IsSound resources train
sound resources train whole = record { acyclic = whole.acyclic; refers = all_weaker (IsGoodOperation (length train) resources) (RefersInside (length train) resources) (λ o good. good.refers) train whole.good }

train_places : (resources : ℕ) (train : List Operation) → IsWhole resources train → AllByRecursion (HasPlaces (length train)) train
train_places resources train whole = all_weaker (IsGoodOperation (length train) resources) (HasPlaces (length train)) (λ o good. places (length train) resources o whole.short good) train whole.good

train_readable : (names : List (List ℕ)) (train : List Operation) → AreApart names → IsWhole (length names) train → AllByRecursion (IsReadable names) train
train_readable names train apart whole = all_weaker (IsGoodOperation (length train) (length names)) (IsReadable names) (λ o good. readable names (length train) o apart whole.short good) train whole.good

train_reads : (names : List (List ℕ)) (train : List Operation) → All IsUtf8 names → IsWhole (length names) train → IsRead (train_data names train) 4
train_reads names train texts whole =
    list_read (operation_data names) 3 train (all_weaker (IsGoodOperation (length train) (length names)) (λ o. IsRead (operation_data names o) 3) (λ o good. reads names (length train) o texts whole.short good) train whole.good)

-- ---- components

data_at : {X : Type 0} (form : X → Data) (xs : List X) (k : ℕ) (x : X) → slice_get xs k ≡ Some x → slice_get (values_of (items_data form xs)) k ≡ Some (form x)
data_at form [] k x at = absurd (none-some x at)
data_at form (y ∷ ys) zero x at = ap (λ z. Some (form z)) (same_Some y x at)
data_at form (y ∷ ys) (suc k) x at = data_at form ys k x at

train_count : (names : List (List ℕ)) (trains : List (List Operation)) (k : ℕ) (train : List Operation) → slice_get trains k ≡ Some train → count_at (values_of (items_data (train_data names) trains)) (Some k) ≡ length train
train_count names trains k train at = ap (λ found. length (members_in found)) (data_at (train_data names) trains k train at) ∙ as_many (operation_data names) train

component_place : (names : List (List ℕ)) (trains : List (List Operation)) (c : Component) → length trains ≤ MOST_TRAINS → AllByRecursion (λ t. length t ≤ MOST_OPERATIONS) trains → IsComponent trains c
    → HasPlace (values_of (items_data (train_data names) trains)) c × IsSmall c × IsShort c
component_place names trains c few short is =
    let train = get_or trains c.train [] in
    let at : slice_get trains c.train ≡ Some train = slice_get-get_or trains c.train [] is.train in
    let within : c.operation < length train = is.operation train at in
    let brief : length train ≤ MOST_OPERATIONS = at_all (λ (t : List Operation). length t ≤ MOST_OPERATIONS) trains c.train train short at in
    let small : c.train ≤ GREATEST_NUMBER = omega (arith, is.train, few) in
    let little : c.operation ≤ GREATEST_NUMBER = omega (arith, within, brief) in (
      record {
        train = record { below = omega (arith, is.train, as_many (train_data names) trains); small = small };
        operation = record { below = omega (arith, within, train_count names trains c.train train at); small = little };
        threshold = is.threshold;
        increment = is.increment;
        coeff = is.coeff;
      },
      record { train = small; operation = little; threshold = is.threshold; increment = is.increment; coeff = is.coeff },
      record { coeff = omega (arith, is.coeff); increment = omega (arith, is.increment); operation = omega (arith, little); threshold = omega (arith, is.threshold); train = omega (arith, small) },
    )

all_known_types : (k : ℕ) (components : List Component) → first_unknown k (values_of (items_data component_data components)) ≡ None
all_known_types k [] = refl
all_known_types k (c ∷ components) = all_known_types (k + 1) components

-- ---- counts

count_same : (names : List (List ℕ)) (trains : List (List Operation)) → sum_by (λ t. length (members_in (Some t))) (values_of (items_data (train_data names) trains)) ≡ operation_count trains
count_same names [] = refl
count_same names (t ∷ ts) =
    let rest = values_of (items_data (train_data names) ts) in
    sum_by-cons (λ d. length (members_in (Some d))) (train_data names t) rest
    ∙ ap (λ n. n + sum_by (λ d. length (members_in (Some d))) rest) (as_many (operation_data names) t)
    ∙ ap (λ n. length t + n) (count_same names ts)
    ∙ sym (sum_by-cons (λ (u : List Operation). length u) t ts)

none_above : {A : Type 0} (a b c : Bool) (x y z : A) → a ≡ false → b ≡ false → c ≡ false → cond a (Some x) (cond b (Some y) (cond c (Some z) None)) ≡ None
none_above a b c x y z e f g = rw (e, f, g) refl

few_parts : (names : List (List ℕ)) (trains : List (List Operation)) (components : List Component) → length trains ≤ MOST_TRAINS → operation_count trains ≤ MOST_OPERATIONS → length components ≤ MOST_COMPONENTS
    → too_many (problem_data names trains components) ≡ None
few_parts names trains components trains-fit operations-fit components-fit =
    let d = problem_data names trains components in
    none_above (nat_lt MOST_TRAINS (trains_given d)) (nat_lt MOST_OPERATIONS (operations_given d)) (nat_lt MOST_COMPONENTS (components_given d)) _ _ _
    (le-ltb MOST_TRAINS (trains_given d) (omega (arith, trains-fit, as_many (train_data names) trains)))
    (le-ltb MOST_OPERATIONS (operations_given d) (omega (arith, operations-fit, count_same names trains)))
    (le-ltb MOST_COMPONENTS (components_given d) (omega (arith, components-fit, as_many component_data components)))

-- ---- problems

abbrev data_of : Problem → Data
data_of problem = problem_data problem.names problem.trains problem.components

abbrev IsPlaced : Problem → Component → Type 0
IsPlaced problem c = HasPlace (values_of (items_data (train_data problem.names) problem.trains)) c × IsSmall c × IsShort c

short_trains : (problem : Problem) → AllByRecursion (λ t. length t ≤ MOST_OPERATIONS) problem.trains
short_trains problem = all_short problem.trains problem.well_formed.operations_fit

whole_trains : (problem : Problem) → AllByRecursion (IsWhole (length problem.names)) problem.trains
whole_trains problem =
    let resources = length problem.names in
    let formed = problem.well_formed in
    wholes resources problem.trains (recursion_from_All (λ (t : List Operation). All HasFitNumbers t) problem.trains formed.numbers)
    (recursion_from_All (λ (t : List Operation). All (RefersInside (length t) resources) t) problem.trains formed.references)
    (short_trains problem) (recursion_from_All IsAcyclic problem.trains formed.acyclic)

placed_components : (problem : Problem) → AllByRecursion (IsPlaced problem) problem.components
placed_components problem =
    all_weaker (IsComponent problem.trains) (IsPlaced problem) (λ c is. component_place problem.names problem.trains c problem.well_formed.trains_fit (short_trains problem) is)
    problem.components (recursion_from_All (IsComponent problem.trains) problem.components problem.well_formed.named)

rules_kept : (problem : Problem) → AreUnbroken (problem_claims (data_of problem))
rules_kept problem =
    problem_unbroken problem.names problem.trains problem.components
    (all_weaker (IsWhole (length problem.names)) (λ t. AllByRecursion (HasPlaces (length t)) t) (train_places (length problem.names)) problem.trains (whole_trains problem))
    (all_weaker (IsPlaced problem) (HasPlace (values_of (items_data (train_data problem.names) problem.trains))) (λ c is. is.0) problem.components (placed_components problem))

linked : (problem : Problem) → IsLinked (data_of problem)
linked problem =
    let kept = rules_kept problem in
    let formed = problem.well_formed in
    record {
      plain = record { shape = kept.each rule.Shape; whole = kept.each rule.Whole; limit = kept.each rule.Limit };
      few = few_parts problem.names problem.trains problem.components formed.trains_fit formed.operations_fit formed.components_fit;
      index = kept.each rule.Index;
    }

data_read : (problem : Problem) → HasNamesInOrder problem → IsRead (data_of problem) 6
data_read problem ordered =
    problem_read problem.names problem.trains problem.components
    (all_weaker (IsWhole (length problem.names)) (λ t. IsRead (train_data problem.names t) 4) (λ t whole. train_reads problem.names t ordered.texts whole) problem.trains (whole_trains problem))
    (all_weaker (IsPlaced problem) (λ c. IsRead (component_data c) 1) (λ c is. component_read c is.2) problem.components (placed_components problem))

problem_is : (problem : Problem) → HasNamesInOrder problem → IsProblemOf (data_of problem) problem
problem_is problem ordered =
    let named = names_are problem.names problem.trains problem.components ∙ ordered.order in
    let read =
    trains_back problem.names problem.trains problem.components
    (all_weaker (IsWhole (length problem.names)) (AllByRecursion (IsReadable problem.names)) (λ t whole. train_readable problem.names t problem.well_formed.distinct whole) problem.trains (whole_trains problem))
    in
    record {
      trains = subst (λ names. trains_with names (data_of problem) ≡ Some problem.trains) (sym named) read;
      components = components_back problem.names problem.trains problem.components (all_weaker (IsPlaced problem) IsSmall (λ c is. is.1) problem.components (placed_components problem));
      names = named;
    }

-- the problem is read of whatever text has its value
read_of : (problem : Problem) → HasNamesInOrder problem → (bytes : List ℕ) → IsJson bytes (data_of problem) → IsReadAs bytes problem
read_of problem ordered bytes is-json =
    let is = problem_is problem ordered in
    let resources = length problem.names in
    record {
      value = data_of problem;
      json = is-json;
      keeps = record {
        has_trains = record { linked = linked problem; trains_are = is.trains };
        graphs = have_graphs resources problem.trains (all_weaker (IsWhole resources) (IsSound resources) (sound resources) problem.trains (whole_trains problem));
        has_components = record { types = all_known_types 0 problem.components; components_are = is.components };
        cheap = problem.well_formed.costs_fit;
      };
      problem_is = is;
    }

pub read_again : (problem : Problem) → HasNamesInOrder problem → IsReadAs (problem_text problem) problem
read_again problem ordered =
    read_of problem ordered (problem_text problem) (subst (λ text. IsJson text (data_of problem)) (problem_written problem) (text_is_json (data_of problem) 6 (data_read problem ordered) (omega arith)))

pub line_again : (problem : Problem) → HasNamesInOrder problem → IsReadAs (problem_text problem ++ codes "\n") problem
line_again problem ordered =
    read_of problem ordered (problem_text problem ++ codes "\n")
    (subst (λ text. IsJson (text ++ codes "\n") (data_of problem)) (problem_written problem) (line_is_json (data_of problem) 6 (data_read problem ordered) (omega arith)))
