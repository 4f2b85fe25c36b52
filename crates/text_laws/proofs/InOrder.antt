-- The names of a problem that is read stand in the order of their first listing.
use Rattle.std.proofs.Common.{◌≡◌, ℕ, suc, ◌+◌, ◌<◌, List, [], ◌∷◌, ◌++◌, length, get_or, map, Bool, true, false, Option, Some, None, option_map, refl, sym, ap, ◌∙◌, subst, arith}
use Rattle.std.specs.Prelude.{codes}
use Rattle.std.specs.Option.{option_map_or}
use Rattle.std.specs.List.{AllByRecursion, flat_map, filter_map, position_or_len, cons_option}
use Rattle.std.specs.Str.{bytes_eq}
use Rattle.std.proofs.lemmas.Option.{same_Some}
use Rattle.std.proofs.lemmas.List.Elements.{recursion_from_All}
use Rattle.std.proofs.lemmas.Slice.Eq.{bytes_eq-Decides}
use Rattle.serde_json.specs.Data.{Data, Items}
use Rattle.serde_json.specs.Find.{as_array, as_object}
use Rattle.json_claims.specs.Field.{field, values_of, members_in, members_at, text_at, number_or, optional_number, array_or_empty, whole_of, each}
use Rattle.json_claims.proofs.Steps.{bind_some, each_some}
use Rattle.disp_model.specs.declared.limits.TheConstants.{GREATEST_NUMBER}
use Rattle.disp_model.specs.declared.problem.Problem.{Problem}
use Rattle.disp_model.specs.declared.train.Listing.{Listing}
use Rattle.disp_model.specs.declared.train.Operation.{Operation}
use Rattle.displib_reader.specs.Outcome.{IsReadAs}
use Rattle.displib_reader.specs.ProblemOf.{once, listing_of, operation_read, train_read_as, names_in}
use Rattle.displib_reader.specs.ProblemOf as read
use Rattle.displib_reader.proofs.Parts.{IsGoodOperation}
use Rattle.displib_reader.proofs.Trains.{IsGoodTrain, trains_each, good_trains}
use Rattle.problem_text.specs.Texts.{problem_text}
use Rattle.text_laws.specs.Listed.{name_of, listed_names_of_operation, listed_names_of_train, names_listed, HasNamesInOrder}
use Rattle.text_laws.proofs.TextNames.{read_texts}
use Rattle.text_laws.proofs.Whole.{read_again}

-- ---- lists

-- where a list is read member by member, and each gives the names that stand in its text, all do
flat_each : {B : Type 0} (f : Data → Option B) (g : B → List (List ℕ)) (h : Data → List (List ℕ)) (P : B → Type 0) → ((d : Data) (b : B) → P b → f d ≡ Some b → g b ≡ h d)
    → (ds : List Data) (bs : List B) → AllByRecursion P bs → each f ds ≡ Some bs → flat_map g bs ≡ flat_map h ds
flat_each f g h P same [] bs all e = let none : [] ≡ bs = same_Some _ _ e in ap (flat_map g) (sym none)
flat_each f g h P same (d ∷ ds) bs all e =
    let p = each_some f d ds bs e in
    let parts = subst (AllByRecursion P) p.4 all in
    ap (flat_map g) p.4 ∙ ap (λ l. l ++ flat_map g p.1) (same d p.0 parts.0 p.2) ∙ ap (λ l. h d ++ l) (flat_each f g h P same ds p.1 parts.1 p.3)

-- the members of an array
members_of : (found : Option Items) (ds : List Data) → option_map values_of found ≡ Some ds → option_map_or values_of found [] ≡ ds
members_of None ds e = absurd cc
members_of (Some items) ds e = same_Some (values_of items) ds e

-- the members of an array that may be absent
members_or_none : (found : Option Data) (ds : List Data) → option_map_or (λ v. option_map values_of (as_array v)) found (Some []) ≡ Some ds → members_in found ≡ ds
members_or_none None ds e = same_Some [] ds e
members_or_none (Some v) ds e = members_of (as_array v) ds e

-- ---- listings and operations

found_at : (test : List ℕ → Bool) (names : List (List ℕ)) → position_or_len test names < length names → test (get_or names (position_or_len test names) []) ≡ true
found_at test [] lt = absurd (omega (arith, lt))
found_at test (n ∷ names) lt = by (test n) refl (found_at test names)
  where
    by : (b : Bool) → test n ≡ b → (position_or_len test names < length names → test (get_or names (position_or_len test names) []) ≡ true) → test (get_or (n ∷ names) (position_or_len test (n ∷ names)) []) ≡ true
    by true is rest = rw is is
    by false is rest =
        let less : 1 + position_or_len test names < length (n ∷ names) = rw is at lt in
        let one_more : 1 + position_or_len test names ≡ suc (position_or_len test names) = omega arith in
        rw is (rw one_more (rest (omega (arith, less))))

-- the listing's resource has the name that stands in the text
listing_name : (names : List (List ℕ)) (d : Data) (l : Listing) → l.resource < length names → listing_of names d ≡ Some l → text_at (codes "resource") d ≡ Some (name_of names l)
listing_name names d l within e =
    let name = bind_some (text_at (codes "resource") d) _ l e in
    let release = bind_some (number_or (codes "release_time") GREATEST_NUMBER 0 d) _ l name.2 in
    let place : position_or_len (bytes_eq name.0) names ≡ l.resource = ap (λ (m : Listing). m.resource) (same_Some _ l release.2) in
    let here : bytes_eq name.0 (get_or names (position_or_len (bytes_eq name.0) names) []) ≡ true = found_at (bytes_eq name.0) names (omega (arith, place, within)) in
    let same : name.0 ≡ get_or names (position_or_len (bytes_eq name.0) names) [] = (bytes_eq-Decides name.0 (get_or names (position_or_len (bytes_eq name.0) names) [])).0 here in
    name.1 ∙ ap Some (same ∙ ap (λ k. get_or names k []) place)

listings_named : (names : List (List ℕ)) (ds : List Data) (ls : List Listing) → AllByRecursion (λ l. l.resource < length names) ls → each (listing_of names) ds ≡ Some ls → map (name_of names) ls ≡ filter_map (text_at (codes "resource")) ds
listings_named names [] ls all e = let none : [] ≡ ls = same_Some _ _ e in ap (map (name_of names)) (sym none)
listings_named names (d ∷ ds) ls all e =
    let p = each_some (listing_of names) d ds ls e in
    let parts = subst (AllByRecursion (λ (l : Listing). l.resource < length names)) p.4 all in
    ap (map (name_of names)) p.4
    ∙ ap (λ l. name_of names p.0 ∷ l) (listings_named names ds p.1 parts.1 p.3)
    ∙ ap (λ found. cons_option found (filter_map (text_at (codes "resource")) ds)) (sym (listing_name names d p.0 parts.0 p.2))

operation_named : (names : List (List ℕ)) (d : Data) (o : Operation) → AllByRecursion (λ l. l.resource < length names) o.listings → operation_read names d ≡ Some o → listed_names_of_operation names o ≡ read.names_of_operation d
unfolding operation_read
operation_named names d o all e =
    let members = bind_some (as_object d) _ o e in
    let lower = bind_some (number_or (codes "start_lb") GREATEST_NUMBER 0 d) _ o members.2 in
    let upper = bind_some (optional_number (codes "start_ub") GREATEST_NUMBER d) _ o lower.2 in
    let min = bind_some (number_or (codes "min_duration") GREATEST_NUMBER 0 d) _ o upper.2 in
    let resources = bind_some (array_or_empty (codes "resources") d) _ o min.2 in
    let listings = bind_some (each (listing_of names) resources.0) _ o resources.2 in
    let successors = bind_some (array_or_empty (codes "successors") d) _ o listings.2 in
    let next = bind_some (each (whole_of GREATEST_NUMBER) successors.0) _ o successors.2 in
    let same : listings.0 ≡ o.listings = ap (λ (p : Operation). p.listings) (same_Some _ o next.2) in
    let given : members_at (codes "resources") d ≡ resources.0 = members_or_none (field (codes "resources") d) resources.0 resources.1 in
    listings_named names resources.0 o.listings all (listings.1 ∙ ap Some same) ∙ ap (filter_map (text_at (codes "resource"))) (sym given)

-- ---- trains and problems

-- each listing of the operation has a resource that has a name
abbrev IsListed : List (List ℕ) → Operation → Type 0
IsListed names o = AllByRecursion (λ l. l.resource < length names) o.listings

all_listed : (names : List (List ℕ)) (count : ℕ) (os : List Operation) → AllByRecursion (IsGoodOperation count (length names)) os → AllByRecursion (IsListed names) os
all_listed names count [] all = tt
all_listed names count (o ∷ os) all = (recursion_from_All (λ (l : Listing). l.resource < length names) o.listings all.0.refers.listings, all_listed names count os all.1)

train_named : (names : List (List ℕ)) (d : Data) (train : List Operation) → IsGoodTrain (length names) train → train_read_as names d ≡ Some train → listed_names_of_train names train ≡ read.names_of_train d
train_named names d train good e =
    let p = bind_some (option_map values_of (as_array d)) (each (operation_read names)) train e in
    flat_each (operation_read names) (listed_names_of_operation names) read.names_of_operation (IsListed names) (operation_named names) p.0 train (all_listed names (length train) train good) p.2
    ∙ ap (flat_map read.names_of_operation) (sym (members_of (as_array d) p.0 p.1))

listed_in_order : (bytes : List ℕ) (problem : Problem) → IsReadAs bytes problem → once bytes_eq (names_listed problem.names problem.trains) ≡ problem.names
listed_in_order bytes problem r =
    let d = r.value in
    let linked = r.keeps.has_trains.linked in
    let good = good_trains d linked problem.trains r.problem_is.trains in
    let listed : names_listed (names_in d) problem.trains ≡ flat_map read.names_of_train (members_at (codes "trains") d) =
    flat_each (train_read_as (names_in d)) (listed_names_of_train (names_in d)) read.names_of_train (IsGoodTrain (length (names_in d))) (train_named (names_in d)) (members_at (codes "trains") d) problem.trains good
    (trains_each d linked problem.trains r.problem_is.trains)
    in
    subst (λ names. once bytes_eq (names_listed names problem.trains) ≡ names) r.problem_is.names (ap (once bytes_eq) listed)

pub read_in_order : (bytes : List ℕ) (problem : Problem) → IsReadAs bytes problem → HasNamesInOrder problem
read_in_order bytes problem r = record { texts = read_texts bytes problem r; order = listed_in_order bytes problem r }

pub read_twice : (bytes : List ℕ) (problem : Problem) → IsReadAs bytes problem → IsReadAs (problem_text problem) problem
read_twice bytes problem r = read_again problem (read_in_order bytes problem r)
