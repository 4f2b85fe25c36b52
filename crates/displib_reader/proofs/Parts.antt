-- The parts of a value that keeps the rules on single places are read, and what is read is well formed.
use Rattle.std.proofs.Common.{◌≡◌, ℕ, ◌<◌, ◌≤◌, List, [], ◌∷◌, length, Option, Some, true, refl}
use Rattle.std.specs.Prelude.{codes, nat_eq}
use Rattle.std.specs.List.{AllByRecursion, list_any, position_or_len}
use Rattle.std.specs.Str.{bytes_eq}
use Rattle.std.specs.Cmp.{nat_eq_equiv}
use Rattle.std.proofs.lemmas.List.Elements.{All-from_recursion}
use Rattle.serde_json.specs.Data.{Data}
use Rattle.serde_json.specs.Find.{as_object}
use Rattle.disp_model.specs.declared.train.Listing.{Listing}
use Rattle.disp_model.specs.declared.train.Operation.{Operation}
use Rattle.disp_model.specs.declared.limits.TheConstants.{GREATEST_NUMBER}
use Rattle.disp_model.specs.WellFormed.{HasFitNumbers, RefersInside}
use Rattle.displib_reader.specs.declared.place.Place.TheVariants as place
use Rattle.displib_reader.specs.declared.place.OperationKey.TheVariants.{StartLb, StartUb, MinDuration, Resources, Successors}
use Rattle.displib_reader.specs.declared.place.ListingKey.TheVariants.{Resource, ReleaseTime}
use Rattle.json_claims.specs.Field.{field, whole_of, members_at, text_at, number_or, optional_number, array_or_empty, each}
use Rattle.displib_reader.specs.ProblemOf.{once, listing_of, operation_read}
use Rattle.json_claims.specs.Claims.{claims_from}
use Rattle.displib_reader.specs.Claims.{listing_claims, successor_claims, operation_claims}
use Rattle.json_claims.proofs.Kept.{AreKept, kept_head, kept_both, default_there, optional_there, index_there, text_there, object_there, list_there, each_kept}
use Rattle.json_claims.proofs.Numbers.{default_fits, optional_fits}
use Rattle.displib_reader.proofs.Distinct.{once_distinct, once_all, distinct_places, any_position}

-- ---- listings

-- the name of the listing, if there is one, is among the names
abbrev pub IsNamed : List (List ℕ) → Data → Type 0
IsNamed names d = (name : List ℕ) → text_at (codes "resource") d ≡ Some name → list_any (bytes_eq name) names ≡ true

-- the listing has a resource that has a name, and a release time within the limit
pub record IsGoodListing (resources : ℕ) (l : Listing) : Type 0 where
  pub resource : l.resource < resources
  pub release : l.release ≤ GREATEST_NUMBER

listing_made : (names : List (List ℕ)) (d : Data) (name : List ℕ) (release : ℕ) → text_at (codes "resource") d ≡ Some name → number_or (codes "release_time") GREATEST_NUMBER 0 d ≡ Some release
    → listing_of names d ≡ Some (record { resource = position_or_len (bytes_eq name) names; release = release })
listing_made names d name release name-is release-is = rw (name-is, release-is) refl

read_listing : (names : List (List ℕ)) (t o k : ℕ) (d : Data) → IsNamed names d → AreKept (listing_claims t o k d) → (l : Listing) × (listing_of names d ≡ Some l) × IsGoodListing (length names) l
read_listing names t o k d named kept =
    let one = kept_head _ _ kept in
    let two = kept_head _ _ one.1 in
    let three = kept_head _ _ two.1 in
    let name = text_there (place.ListingKey t o k Resource) (field (codes "resource") d) two.0.plain in
    let release = default_there (place.ListingKey t o k ReleaseTime) GREATEST_NUMBER (field (codes "release_time") d) three.0.plain in (
      record { resource = position_or_len (bytes_eq name.0) names; release = release.0 },
      listing_made names d name.0 release.0 name.1 release.1,
      record { resource = any_position (bytes_eq name.0) names (named name.0 name.1); release = default_fits GREATEST_NUMBER (field (codes "release_time") d) release.0 release.1 },
    )

read_successor : (count t o k : ℕ) (d : Data) → Unit {0} → AreKept (successor_claims count t o k d) → (n : ℕ) × (whole_of GREATEST_NUMBER d ≡ Some n) × (n < count)
read_successor count t o k d u kept =
    let one = kept_head _ _ kept in
    let n = index_there (place.Successor t o k) count GREATEST_NUMBER (Some d) one.0 in
    (n.0, n.1, n.3)

-- ---- operations

pub record IsGoodOperation (operations resources : ℕ) (o : Operation) : Type 0 where
  pub numbers : HasFitNumbers o
  pub refers : RefersInside operations resources o

all_units : (ds : List Data) → AllByRecursion (λ _. Unit {0}) ds
all_units [] = tt
all_units (d ∷ ds) = (tt, all_units ds)

operation_made : (names : List (List ℕ)) (d : Data) (m : _) (lower min : ℕ) (upper : Option ℕ) (resources successors : List Data) (listings : List Listing) (next : List ℕ)
    → as_object d ≡ Some m → number_or (codes "start_lb") GREATEST_NUMBER 0 d ≡ Some lower → optional_number (codes "start_ub") GREATEST_NUMBER d ≡ Some upper
    → number_or (codes "min_duration") GREATEST_NUMBER 0 d ≡ Some min → array_or_empty (codes "resources") d ≡ Some resources → each (listing_of names) resources ≡ Some listings
    → array_or_empty (codes "successors") d ≡ Some successors → each (whole_of GREATEST_NUMBER) successors ≡ Some next
    → operation_read names d ≡ Some (record { lower = lower; upper = upper; min = min; listings = listings; next = once nat_eq next })
unfolding operation_read
operation_made names d m lower min upper resources successors listings next object lower-is upper-is min-is resources-is listings-is successors-is next-is =
    rw (object, lower-is, upper-is, min-is, resources-is, listings-is, successors-is, next-is) refl

all_resources : (n : ℕ) (ls : List Listing) → AllByRecursion (IsGoodListing n) ls → AllByRecursion (λ l. l.resource < n) ls
all_resources n [] all = tt
all_resources n (l ∷ ls) all = (all.0.resource, all_resources n ls all.1)

all_releases : (n : ℕ) (ls : List Listing) → AllByRecursion (IsGoodListing n) ls → AllByRecursion (λ l. l.release ≤ GREATEST_NUMBER) ls
all_releases n [] all = tt
all_releases n (l ∷ ls) all = (all.0.release, all_releases n ls all.1)

-- the names of what the operation lists are among the names
abbrev pub AreNamed : List (List ℕ) → Data → Type 0
AreNamed names d = AllByRecursion (IsNamed names) (members_at (codes "resources") d)

pub read_operation : (names : List (List ℕ)) (count t o : ℕ) (d : Data) → AreNamed names d → AreKept (operation_claims count t o d)
    → (p : Operation) × (operation_read names d ≡ Some p) × IsGoodOperation count (length names) p
unfolding operation_claims
read_operation names count t o d named kept =
    let k1 = kept_head _ _ kept in
    let k2 = kept_head _ _ k1.1 in
    let k3 = kept_head _ _ k2.1 in
    let k4 = kept_head _ _ k3.1 in
    let k5 = kept_head _ _ k4.1 in
    let k6 = kept_both (claims_from (listing_claims t o) 0 (members_at (codes "resources") d)) _ k5.1 in
    let k7 = kept_head _ _ k6.1 in
    let object = object_there (place.Operation t o) d k1.0.plain in
    let lower = default_there (place.OperationKey t o StartLb) GREATEST_NUMBER (field (codes "start_lb") d) k2.0.plain in
    let upper = optional_there (place.OperationKey t o StartUb) GREATEST_NUMBER (field (codes "start_ub") d) k3.0.plain in
    let min = default_there (place.OperationKey t o MinDuration) GREATEST_NUMBER (field (codes "min_duration") d) k4.0.plain in
    let resources = list_there (place.OperationKey t o Resources) (field (codes "resources") d) k5.0.plain in
    let listings = each_kept (listing_claims t o) (listing_of names) (IsNamed names) (IsGoodListing (length names)) (read_listing names t o) 0 (members_at (codes "resources") d) named k6.0 in
    let successors = list_there (place.OperationKey t o Successors) (field (codes "successors") d) k7.0.plain in
    let next = each_kept (successor_claims count t o) (whole_of GREATEST_NUMBER) (λ _. Unit {0}) (λ n. n < count) (read_successor count t o) 0 (members_at (codes "successors") d) (all_units (members_at (codes "successors") d)) k7.1 in (
      record { lower = lower.0; upper = upper.0; min = min.0; listings = listings.0; next = once nat_eq next.0 },
      operation_made names d object.0 lower.0 min.0 upper.0 (members_at (codes "resources") d) (members_at (codes "successors") d) listings.0 next.0
          object.1 lower.1 upper.1 min.1 resources listings.1 successors next.1,
      record {
        numbers = record {
          lower = default_fits GREATEST_NUMBER (field (codes "start_lb") d) lower.0 lower.1;
          upper = optional_fits GREATEST_NUMBER (field (codes "start_ub") d) upper.0 upper.1;
          min = default_fits GREATEST_NUMBER (field (codes "min_duration") d) min.0 min.1;
          releases = All-from_recursion (λ (l : Listing). l.release ≤ GREATEST_NUMBER) listings.0 (all_releases (length names) listings.0 listings.2);
        };
        refers = record {
          next = All-from_recursion (λ n. n < count) (once nat_eq next.0) (once_all (λ n. n < count) nat_eq next.0 next.2);
          once = distinct_places nat_eq nat_eq_equiv.refl (once nat_eq next.0) (once_distinct nat_eq next.0);
          listings = All-from_recursion (λ (l : Listing). l.resource < length names) listings.0 (all_resources (length names) listings.0 listings.2);
        };
      },
    )
