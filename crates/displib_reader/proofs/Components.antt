-- The components of a value that keeps the rules on single places and names known types alone.
use Rattle.std.proofs.Common.{◌≡◌, ℕ, ◌+◌, ◌<◌, ◌≤◌, List, [], ◌∷◌, length, Option, Some, None, Bool, true, false, cond, refl, sym, ap, subst, ◌∙◌, arith}
use Rattle.std.specs.Prelude.{codes, slice_get, All}
use Rattle.std.specs.List.{AllByRecursion}
use Rattle.std.specs.Option.{option_map_or}
use Rattle.std.proofs.lemmas.List.Elements.{All-from_recursion}
use Rattle.std.proofs.lemmas.Option.{same_Some}
use Rattle.serde_json.specs.Data.{Data}
use Rattle.disp_model.specs.declared.train.Operation.{Operation}
use Rattle.disp_model.specs.declared.train.Component.{Component}
use Rattle.disp_model.specs.declared.limits.TheConstants.{GREATEST_NUMBER, MOST_COMPONENTS}
use Rattle.disp_model.specs.WellFormed.{IsComponent}
use Rattle.displib_reader.specs.declared.place.Place.TheVariants as place
use Rattle.displib_reader.specs.declared.place.ComponentKey.TheVariants as key
use Rattle.json_claims.specs.Field.{field, text_at, number_at, number_or, members_in, members_at, array_at, each}
use Rattle.displib_reader.specs.ProblemOf.{is_delay, component_of, components_of, train_read_as, trains_of, names_in}
use Rattle.json_claims.specs.Claims.{claims_from, whole_in}
use Rattle.displib_reader.specs.Claims.{component_claims, train_claims, count_at}
use Rattle.displib_reader.specs.Types.{is_known, first_unknown}
use Rattle.displib_reader.specs.Outcome.{IsLinked, HasComponents}
use Rattle.json_claims.proofs.Kept.{AreKept, kept_head, kept_both, default_there, index_there, text_there, needed_list_there, each_kept}
use Rattle.json_claims.proofs.Numbers.{default_fits}
use Rattle.displib_reader.proofs.Trains.{all_weaker, each_at, each_length, train_length, trains_each, kept_problem, has_few}

-- a component's costs are within the limit, and it names an operation of a train of the value
pub record IsGoodComponent (trains : List Data) (c : Component) : Type 0 where
  pub threshold : c.threshold ≤ GREATEST_NUMBER
  pub increment : c.increment ≤ GREATEST_NUMBER
  pub coeff : c.coeff ≤ GREATEST_NUMBER
  pub train : c.train < length trains
  pub operation : c.operation < count_at trains (Some c.train)

component_made : (d : Data) (kind : List ℕ) (train operation threshold increment coeff : ℕ) → text_at (codes "type") d ≡ Some kind → number_at (codes "train") GREATEST_NUMBER d ≡ Some train → number_at (codes "operation") GREATEST_NUMBER d ≡ Some operation
    → number_or (codes "threshold") GREATEST_NUMBER 0 d ≡ Some threshold → number_or (codes "increment") GREATEST_NUMBER 0 d ≡ Some increment → number_or (codes "coeff") GREATEST_NUMBER 0 d ≡ Some coeff → is_delay kind ≡ true
    → component_of d ≡ Some (record { train = train; operation = operation; threshold = threshold; increment = increment; coeff = coeff })
unfolding component_of
component_made d kind train operation threshold increment coeff kind-is train-is operation-is threshold-is increment-is coeff-is known =
    rw (kind-is, train-is, operation-is, threshold-is, increment-is, coeff-is, known) refl

known_kind : (found : Option (List ℕ)) (kind : List ℕ) → found ≡ Some kind → option_map_or is_delay found false ≡ true → is_delay kind ≡ true
known_kind found kind is known = rw is at known

read_component : (trains : List Data) (c : ℕ) (d : Data) → is_known d ≡ true → AreKept (component_claims trains c d) → (p : Component) × (component_of d ≡ Some p) × IsGoodComponent trains p
unfolding component_claims
read_component trains c d known kept =
    let k1 = kept_head _ _ kept in
    let k2 = kept_head _ _ k1.1 in
    let k3 = kept_head _ _ k2.1 in
    let k4 = kept_head _ _ k3.1 in
    let k5 = kept_head _ _ k4.1 in
    let k6 = kept_head _ _ k5.1 in
    let k7 = kept_head _ _ k6.1 in
    let kind = text_there (place.ComponentKey c key.Kind) (field (codes "type") d) k2.0.plain in
    let train = index_there (place.ComponentKey c key.Train) (length trains) GREATEST_NUMBER (field (codes "train") d) k3.0 in
    let operation = index_there (place.ComponentKey c key.Operation) (count_at trains (whole_in (field (codes "train") d))) GREATEST_NUMBER (field (codes "operation") d) k4.0 in
    let threshold = default_there (place.ComponentKey c key.Threshold) GREATEST_NUMBER (field (codes "threshold") d) k5.0.plain in
    let increment = default_there (place.ComponentKey c key.Increment) GREATEST_NUMBER (field (codes "increment") d) k6.0.plain in
    let coeff = default_there (place.ComponentKey c key.Coeff) GREATEST_NUMBER (field (codes "coeff") d) k7.0.plain in (
      record { train = train.0; operation = operation.0; threshold = threshold.0; increment = increment.0; coeff = coeff.0 },
      component_made d kind.0 train.0 operation.0 threshold.0 increment.0 coeff.0 kind.1 train.1 operation.1 threshold.1 increment.1 coeff.1 (known_kind (text_at (codes "type") d) kind.0 kind.1 known),
      record {
        threshold = default_fits GREATEST_NUMBER (field (codes "threshold") d) threshold.0 threshold.1;
        increment = default_fits GREATEST_NUMBER (field (codes "increment") d) increment.0 increment.1;
        coeff = default_fits GREATEST_NUMBER (field (codes "coeff") d) coeff.0 coeff.1;
        train = train.3;
        operation = subst (λ t. operation.0 < count_at trains t) train.2 operation.3;
      },
    )

known_by : (b : Bool) (c : ℕ) (rest : Option ℕ) → cond b rest (Some c) ≡ None → (b ≡ true) × (rest ≡ None)
known_by true c rest e = (refl, e)
known_by false c rest e = absurd cc

all_known : (c : ℕ) (ds : List Data) → first_unknown c ds ≡ None → AllByRecursion (λ d. is_known d ≡ true) ds
all_known c [] e = tt
all_known c (d ∷ ds) e = let p = known_by (is_known d) c (first_unknown (c + 1) ds) e in (p.0, all_known (c + 1) ds p.1)

components_made : (d : Data) (ds : List Data) (components : List Component) → array_at (codes "objective") d ≡ Some ds → each component_of ds ≡ Some components → components_of d ≡ Some components
components_made d ds components list read = rw list read

-- the components are read, and each names an operation
pub read_components : (d : Data) → IsLinked d → first_unknown 0 (members_at (codes "objective") d) ≡ None
    → (components : List Component) × (components_of d ≡ Some components) × AllByRecursion (IsGoodComponent (members_at (codes "trains") d)) components × (length components ≤ MOST_COMPONENTS)
read_components d linked types =
    let ds = members_at (codes "objective") d in
    let ts = members_at (codes "trains") d in
    let one = kept_head _ _ (kept_problem d linked) in
    let two = kept_head _ _ one.1 in
    let three = kept_both (claims_from train_claims 0 ts) _ two.1 in
    let four = kept_head _ _ three.1 in
    let list = needed_list_there place.Objective (field (codes "objective") d) four.0.plain in
    let read = each_kept (component_claims ts) component_of (λ c. is_known c ≡ true) (IsGoodComponent ts) (read_component ts) 0 ds (all_known 0 ds types) four.1 in (
      read.0,
      components_made d ds read.0 list read.1,
      read.2,
      omega (arith, each_length component_of ds read.0 read.1, (has_few d linked.few).components),
    )

pub record AreGoodComponents (d : Data) (components : List Component) : Type 0 where
  pub good : AllByRecursion (IsGoodComponent (members_at (codes "trains") d)) components
  pub few : length components ≤ MOST_COMPONENTS

pub good_components : (d : Data) → IsLinked d → (components : List Component) → HasComponents d components → AreGoodComponents d components
good_components d linked components has =
    let read = read_components d linked has.types in
    let same : read.0 ≡ components = same_Some read.0 components (sym read.1 ∙ has.components_are) in
    record {
      good = subst (λ l. AllByRecursion (IsGoodComponent (members_at (codes "trains") d)) l) same read.2;
      few = subst (λ (l : List Component). length l ≤ MOST_COMPONENTS) same read.3;
    }

count_is : (names : List (List ℕ)) (ds : List Data) (trains : List (List Operation)) → each (train_read_as names) ds ≡ Some trains → (t : ℕ) (train : List Operation) → slice_get trains t ≡ Some train → length train ≡ count_at ds (Some t)
count_is names ds trains read t train at =
    let p = each_at (train_read_as names) ds trains read t train at in
    train_length names p.0 train p.2 ∙ ap (λ found. length (members_in found)) (sym p.1)

component_is : (d : Data) → IsLinked d → (trains : List (List Operation)) → trains_of d ≡ Some trains → (c : Component) → IsGoodComponent (members_at (codes "trains") d) c → IsComponent trains c
component_is d linked trains is c good =
    let ds = members_at (codes "trains") d in
    let read = trains_each d linked trains is in
    record {
      threshold = good.threshold;
      increment = good.increment;
      coeff = good.coeff;
      train = omega (arith, good.train, each_length (train_read_as (names_in d)) ds trains read);
      operation = λ train at. omega (arith, good.operation, count_is (names_in d) ds trains read c.train train at);
    }

pub components_named : (d : Data) → IsLinked d → (trains : List (List Operation)) → trains_of d ≡ Some trains → (components : List Component) → AreGoodComponents d components → All (IsComponent trains) components
components_named d linked trains is components good =
    All-from_recursion (IsComponent trains) components (all_weaker (IsGoodComponent (members_at (codes "trains") d)) (IsComponent trains) (component_is d linked trains is) components good.good)
