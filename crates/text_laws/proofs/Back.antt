-- What is read of the value that a problem is written as is the problem.
use Rattle.std.proofs.Common.{◌≡◌, ℕ, ◌≤◌, List, [], ◌∷◌, map, Option, Some, None, refl, ap}
use Rattle.std.specs.Prelude.{codes, nat_eq}
use Rattle.std.specs.Option.{ForSome}
use Rattle.std.specs.List.{AllByRecursion, flat_map, filter_map, position_or_len}
use Rattle.std.specs.Str.{bytes_eq}
use Rattle.serde_json.specs.Data.{Data}
use Rattle.json_claims.specs.Field.{values_of, text_at, whole_of, each}
use Rattle.json_claims.proofs.Kept.{fits}
use Rattle.json_claims.proofs.Steps.{each_cons}
use Rattle.disp_model.specs.declared.limits.TheConstants.{GREATEST_NUMBER}
use Rattle.disp_model.specs.declared.train.Listing.{Listing}
use Rattle.disp_model.specs.declared.train.Operation.{Operation}
use Rattle.disp_model.specs.declared.train.Component.{Component}
use Rattle.displib_reader.specs.ProblemOf.{once, listing_of, operation_read, train_read_as, trains_with, component_of, components_of, names_in}
use Rattle.displib_reader.specs.ProblemOf as read
use Rattle.text_laws.specs.Listed.{name_of, listed_names_of_operation, listed_names_of_train, names_listed}
use Rattle.text_laws.proofs.Data.{number_data, items_data, listing_data, operation_parts, operation_data, train_data, component_data, problem_data}

-- ---- lists

each_back : {X : Type 0} (f : Data → Option X) (form : X → Data) (xs : List X) → AllByRecursion (λ x. f (form x) ≡ Some x) xs → each f (values_of (items_data form xs)) ≡ Some xs
each_back f form [] all = refl
each_back f form (x ∷ xs) all = each_cons f (form x) (values_of (items_data form xs)) x xs all.0 (each_back f form xs all.1)

numbers_back : (ns : List ℕ) → AllByRecursion (λ n. n ≤ GREATEST_NUMBER) ns → each (whole_of GREATEST_NUMBER) (values_of (items_data number_data ns)) ≡ Some ns
numbers_back ns all = each_back (whole_of GREATEST_NUMBER) number_data ns (each_fits ns all)
  where
    each_fits : (ms : List ℕ) → AllByRecursion (λ n. n ≤ GREATEST_NUMBER) ms → AllByRecursion (λ n. whole_of GREATEST_NUMBER (number_data n) ≡ Some n) ms
    each_fits [] small = tt
    each_fits (m ∷ ms) small = (fits GREATEST_NUMBER m small.0, each_fits ms small.1)

-- ---- listings and operations

-- the resource of a listing has its name at its own number first
pub record IsKnown (names : List (List ℕ)) (l : Listing) : Type 0 where
  pub place : position_or_len (bytes_eq (name_of names l)) names ≡ l.resource
  pub release : l.release ≤ GREATEST_NUMBER

listing_back : (names : List (List ℕ)) (l : Listing) → IsKnown names l → listing_of names (listing_data names l) ≡ Some l
listing_back names l known = rw (fits GREATEST_NUMBER l.release known.release, known.place) refl

listings_back : (names : List (List ℕ)) (ls : List Listing) → AllByRecursion (IsKnown names) ls → each (listing_of names) (values_of (items_data (listing_data names) ls)) ≡ Some ls
listings_back names ls all = each_back (listing_of names) (listing_data names) ls (each_known ls all)
  where
    each_known : (ms : List Listing) → AllByRecursion (IsKnown names) ms → AllByRecursion (λ m. listing_of names (listing_data names m) ≡ Some m) ms
    each_known [] known = tt
    each_known (m ∷ ms) known = (listing_back names m known.0, each_known ms known.1)

-- an operation whose numbers are within the limit, whose listings are known, and whose successors are named once
pub record IsReadable (names : List (List ℕ)) (o : Operation) : Type 0 where
  pub lower : o.lower ≤ GREATEST_NUMBER
  pub upper : ForSome o.upper (λ u. u ≤ GREATEST_NUMBER)
  pub min : o.min ≤ GREATEST_NUMBER
  pub listings : AllByRecursion (IsKnown names) o.listings
  pub next : AllByRecursion (λ n. n ≤ GREATEST_NUMBER) o.next
  pub once : once nat_eq o.next ≡ o.next

parts_back : (names : List (List ℕ)) (lower : ℕ) (upper : Option ℕ) (min : ℕ) (listings : List Listing) (next : List ℕ) → lower ≤ GREATEST_NUMBER → ForSome upper (λ u. u ≤ GREATEST_NUMBER) → min ≤ GREATEST_NUMBER
    → AllByRecursion (IsKnown names) listings → AllByRecursion (λ n. n ≤ GREATEST_NUMBER) next → once nat_eq next ≡ next
    → operation_read names (operation_parts names lower upper min listings next) ≡ Some (record { lower = lower; upper = upper; min = min; listings = listings; next = next })
unfolding operation_read
parts_back names lower None min listings next lower-fits upper-fits min-fits known small named =
    rw (fits GREATEST_NUMBER lower lower-fits, fits GREATEST_NUMBER min min-fits, listings_back names listings known, numbers_back next small, named) refl
parts_back names lower (Some u) min listings next lower-fits upper-fits min-fits known small named =
    rw (fits GREATEST_NUMBER lower lower-fits, fits GREATEST_NUMBER u (upper-fits u refl), fits GREATEST_NUMBER min min-fits, listings_back names listings known, numbers_back next small, named) refl

operation_back : (names : List (List ℕ)) (o : Operation) → IsReadable names o → operation_read names (operation_data names o) ≡ Some o
operation_back names o is = parts_back names o.lower o.upper o.min o.listings o.next is.lower is.upper is.min is.listings is.next is.once

train_back : (names : List (List ℕ)) (train : List Operation) → AllByRecursion (IsReadable names) train → train_read_as names (train_data names train) ≡ Some train
train_back names train all = each_back (operation_read names) (operation_data names) train (each_readable train all)
  where
    each_readable : (os : List Operation) → AllByRecursion (IsReadable names) os → AllByRecursion (λ o. operation_read names (operation_data names o) ≡ Some o) os
    each_readable [] readable = tt
    each_readable (o ∷ os) readable = (operation_back names o readable.0, each_readable os readable.1)

pub trains_back : (names : List (List ℕ)) (trains : List (List Operation)) (components : List Component) → AllByRecursion (AllByRecursion (IsReadable names)) trains → trains_with names (problem_data names trains components) ≡ Some trains
trains_back names trains components all = each_back (train_read_as names) (train_data names) trains (each_train trains all)
  where
    each_train : (ts : List (List Operation)) → AllByRecursion (AllByRecursion (IsReadable names)) ts → AllByRecursion (λ t. train_read_as names (train_data names t) ≡ Some t) ts
    each_train [] readable = tt
    each_train (t ∷ ts) readable = (train_back names t readable.0, each_train ts readable.1)

-- ---- components

pub record IsSmall (c : Component) : Type 0 where
  pub train : c.train ≤ GREATEST_NUMBER
  pub operation : c.operation ≤ GREATEST_NUMBER
  pub threshold : c.threshold ≤ GREATEST_NUMBER
  pub increment : c.increment ≤ GREATEST_NUMBER
  pub coeff : c.coeff ≤ GREATEST_NUMBER

component_back : (c : Component) → IsSmall c → component_of (component_data c) ≡ Some c
unfolding component_of
component_back c small =
    rw (fits GREATEST_NUMBER c.train small.train, fits GREATEST_NUMBER c.operation small.operation, fits GREATEST_NUMBER c.threshold small.threshold, fits GREATEST_NUMBER c.increment small.increment, fits GREATEST_NUMBER c.coeff small.coeff) refl

pub components_back : (names : List (List ℕ)) (trains : List (List Operation)) (components : List Component) → AllByRecursion IsSmall components → components_of (problem_data names trains components) ≡ Some components
components_back names trains components all = each_back component_of component_data components (each_small components all)
  where
    each_small : (cs : List Component) → AllByRecursion IsSmall cs → AllByRecursion (λ c. component_of (component_data c) ≡ Some c) cs
    each_small [] small = tt
    each_small (c ∷ cs) small = (component_back c small.0, each_small cs small.1)

-- ---- names

flat_back : {X : Type 0} (f : Data → List (List ℕ)) (form : X → Data) (g : X → List (List ℕ)) → ((x : X) → f (form x) ≡ g x) → (xs : List X) → flat_map f (values_of (items_data form xs)) ≡ flat_map g xs
flat_back f form g same [] = refl
flat_back f form g same (x ∷ xs) = rw (same x, flat_back f form g same xs) refl

names_back : (names : List (List ℕ)) (ls : List Listing) → filter_map (text_at (codes "resource")) (values_of (items_data (listing_data names) ls)) ≡ map (name_of names) ls
names_back names [] = refl
names_back names (l ∷ ls) = ap (λ (rest : List (List ℕ)). name_of names l ∷ rest) (names_back names ls)

operation_names : (names : List (List ℕ)) (o : Operation) → read.names_of_operation (operation_data names o) ≡ listed_names_of_operation names o
operation_names names o = names_back names o.listings

train_names : (names : List (List ℕ)) (train : List Operation) → read.names_of_train (train_data names train) ≡ listed_names_of_train names train
train_names names train = flat_back read.names_of_operation (operation_data names) (listed_names_of_operation names) (operation_names names) train

pub names_are : (names : List (List ℕ)) (trains : List (List Operation)) (components : List Component) → names_in (problem_data names trains components) ≡ once bytes_eq (names_listed names trains)
names_are names trains components = ap (once bytes_eq) (flat_back read.names_of_train (train_data names) (listed_names_of_train names) (train_names names) trains)
