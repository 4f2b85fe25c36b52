-- The value that a problem is written as breaks no rule on single places.
use Rattle.std.proofs.Common.{◌≡◌, ℕ, suc, ◌+◌, ◌<◌, ◌≤◌, List, [], ◌∷◌, ◌++◌, length, Bool, true, false, cond, Option, Some, None, option_map, refl, sym, ap, subst, le-ltb}
use Rattle.std.specs.Prelude.{find}
use Rattle.std.specs.Option.{ForSome}
use Rattle.std.specs.List.{AllByRecursion}
use Rattle.std.proofs.lemmas.Bool.{lt-leb}
use Rattle.serde_json.specs.Data.{Data, string, array, object, Items, Members}
use Rattle.json_claims.specs.declared.rule.Rule.{Rule}
use Rattle.json_claims.specs.declared.rule.Rule.TheVariants as rule
use Rattle.json_claims.specs.declared.rule.Want.{Want}
use Rattle.json_claims.specs.declared.rule.Want.TheVariants as want
use Rattle.json_claims.specs.Field.{values_of}
use Rattle.json_claims.specs.Claims.{Claim, needed, optional, breaks, first_broken, claims_from}
use Rattle.disp_model.specs.declared.limits.TheConstants.{GREATEST_NUMBER}
use Rattle.disp_model.specs.declared.train.Listing.{Listing}
use Rattle.disp_model.specs.declared.train.Operation.{Operation}
use Rattle.disp_model.specs.declared.train.Component.{Component}
use Rattle.displib_reader.specs.declared.place.Place.{Place}
use Rattle.displib_reader.specs.declared.place.Place.TheVariants as place
use Rattle.displib_reader.specs.declared.place.OperationKey.TheVariants.{StartLb, StartUb, MinDuration, Resources, Successors}
use Rattle.displib_reader.specs.declared.place.ListingKey.TheVariants.{Resource, ReleaseTime}
use Rattle.displib_reader.specs.declared.place.ComponentKey.TheVariants as key
use Rattle.displib_reader.specs.Claims.{listing_claims, successor_claims, operation_claims, train_claims, count_at, component_claims, problem_claims}
use Rattle.text_laws.proofs.Data.{number_data, items_data, listing_data, operation_parts, operation_data, train_data, component_data, problem_data}

-- the claim breaks no rule
record IsUnbroken (c : Claim Place) : Type 0 where
  pub each : (rule : Rule) → breaks rule c ≡ false

-- no claim breaks a rule
pub record AreUnbroken (claims : List (Claim Place)) : Type 0 where
  pub each : (rule : Rule) → first_broken rule claims ≡ None

none_here : (b : Bool) (c : Claim Place) (rest : Option (Claim Place)) → b ≡ false → option_map (λ (x : Claim Place). x.place) rest ≡ None → option_map (λ (x : Claim Place). x.place) (cond b (Some c) rest) ≡ None
none_here b c rest e f = rw e f

none_then : (b : Bool) (c : Claim Place) (rest more : Option (Claim Place)) → (option_map (λ (x : Claim Place). x.place) rest ≡ None → option_map (λ (x : Claim Place). x.place) more ≡ None)
    → option_map (λ (x : Claim Place). x.place) (cond b (Some c) rest) ≡ None → option_map (λ (x : Claim Place). x.place) (cond b (Some c) more) ≡ None
none_then true c rest more on e = absurd cc
none_then false c rest more on e = on e

none_both : (rule : Rule) (a b : List (Claim Place)) → first_broken rule a ≡ None → first_broken rule b ≡ None → first_broken rule (a ++ b) ≡ None
none_both rule [] b e f = f
none_both rule (c ∷ a) b e f = none_then (breaks rule c) c (find (breaks rule) a) (find (breaks rule) (a ++ b)) (λ g. none_both rule a b g f) e

unbroken_none : AreUnbroken []
unbroken_none = record { each = λ rule. refl }

unbroken_cons : (c : Claim Place) (cs : List (Claim Place)) → IsUnbroken c → AreUnbroken cs → AreUnbroken (c ∷ cs)
unbroken_cons c cs one rest = record { each = λ rule. none_here (breaks rule c) c (find (breaks rule) cs) (one.each rule) (rest.each rule) }

unbroken_both : (a b : List (Claim Place)) → AreUnbroken a → AreUnbroken b → AreUnbroken (a ++ b)
unbroken_both a b one two = record { each = λ rule. none_both rule a b (one.each rule) (two.each rule) }

-- where the claims on each member break no rule, those on the list do not
unbroken_each : {X : Type 0} (claims : ℕ → Data → List (Claim Place)) (form : X → Data) (P : X → Type 0) → ((k : ℕ) (x : X) → P x → AreUnbroken (claims k (form x)))
    → (k : ℕ) (xs : List X) → AllByRecursion P xs → AreUnbroken (claims_from claims k (values_of (items_data form xs)))
unbroken_each claims form P one k [] all = unbroken_none
unbroken_each claims form P one k (x ∷ xs) all = unbroken_both (claims k (form x)) (claims_from claims (k + 1) (values_of (items_data form xs))) (one k x all.0) (unbroken_each claims form P one (k + 1) xs all.1)

-- ---- single places

number_rule : (p : Place) (limit n : ℕ) → n ≤ limit → (rule : Rule) → breaks rule (optional p (want.Number limit) (Some (number_data n))) ≡ false
unfolding breaks
number_rule p limit n le rule.Shape = refl
number_rule p limit n le rule.Whole = refl
number_rule p limit n le rule.Limit = le-ltb limit n le
number_rule p limit n le rule.Index = refl

number_unbroken : (p : Place) (limit n : ℕ) → n ≤ limit → IsUnbroken (optional p (want.Number limit) (Some (number_data n)))
number_unbroken p limit n le = record { each = number_rule p limit n le }

index_rule : (p : Place) (count limit n : ℕ) → n ≤ limit → n < count → (rule : Rule) → breaks rule (needed p (want.Index count limit) (Some (number_data n))) ≡ false
unfolding breaks
index_rule p count limit n le lt rule.Shape = refl
index_rule p count limit n le lt rule.Whole = refl
index_rule p count limit n le lt rule.Limit = le-ltb limit n le
index_rule p count limit n le lt rule.Index = lt-leb count n lt

index_unbroken : (p : Place) (count limit n : ℕ) → n ≤ limit → n < count → IsUnbroken (needed p (want.Index count limit) (Some (number_data n)))
index_unbroken p count limit n le lt = record { each = index_rule p count limit n le lt }

absent_rule : (p : Place) (w : Want) (rule : Rule) → breaks rule (optional p w None) ≡ false
unfolding breaks
absent_rule p w rule.Shape = refl
absent_rule p w rule.Whole = refl
absent_rule p w rule.Limit = refl
absent_rule p w rule.Index = refl

absent_unbroken : (p : Place) (w : Want) → IsUnbroken (optional p w None)
absent_unbroken p w = record { each = absent_rule p w }

object_rule : (p : Place) (ms : Members) (rule : Rule) → breaks rule (needed p want.Object (Some (object ms))) ≡ false
unfolding breaks
object_rule p ms rule.Shape = refl
object_rule p ms rule.Whole = refl
object_rule p ms rule.Limit = refl
object_rule p ms rule.Index = refl

object_unbroken : (p : Place) (ms : Members) → IsUnbroken (needed p want.Object (Some (object ms)))
object_unbroken p ms = record { each = object_rule p ms }

text_rule : (p : Place) (s : List ℕ) (rule : Rule) → breaks rule (needed p want.Text (Some (string s))) ≡ false
unfolding breaks
text_rule p s rule.Shape = refl
text_rule p s rule.Whole = refl
text_rule p s rule.Limit = refl
text_rule p s rule.Index = refl

text_unbroken : (p : Place) (s : List ℕ) → IsUnbroken (needed p want.Text (Some (string s)))
text_unbroken p s = record { each = text_rule p s }

-- a list, needed or not
list_rule : (p : Place) (is-needed : Bool) (ds : Items) (rule : Rule) → breaks rule (record { place = p; want = want.List; needed = is-needed; found = Some (array ds) }) ≡ false
unfolding breaks
list_rule p is-needed ds rule.Shape = refl
list_rule p is-needed ds rule.Whole = refl
list_rule p is-needed ds rule.Limit = refl
list_rule p is-needed ds rule.Index = refl

needed_list : (p : Place) (ds : Items) → IsUnbroken (needed p want.List (Some (array ds)))
needed_list p ds = record { each = list_rule p true ds }

optional_list : (p : Place) (ds : Items) → IsUnbroken (optional p want.List (Some (array ds)))
optional_list p ds = record { each = list_rule p false ds }

-- ---- operations

listing_unbroken : (names : List (List ℕ)) (t o k : ℕ) (l : Listing) → l.release ≤ GREATEST_NUMBER → AreUnbroken (listing_claims t o k (listing_data names l))
listing_unbroken names t o k l le =
    unbroken_cons _ _ (object_unbroken (place.Listing t o k) _)
    (unbroken_cons _ _ (text_unbroken (place.ListingKey t o k Resource) _)
    (unbroken_cons _ _ (number_unbroken (place.ListingKey t o k ReleaseTime) GREATEST_NUMBER l.release le) unbroken_none))

-- an index among so many, and a number within the limit
pub record IsPlace (count n : ℕ) : Type 0 where
  pub below : n < count
  pub small : n ≤ GREATEST_NUMBER

successor_unbroken : (count t o k n : ℕ) → IsPlace count n → AreUnbroken (successor_claims count t o k (number_data n))
successor_unbroken count t o k n is = unbroken_cons _ _ (index_unbroken (place.Successor t o k) count GREATEST_NUMBER n is.small is.below) unbroken_none

upper_unbroken : (p : Place) (upper : Option ℕ) → ForSome upper (λ u. u ≤ GREATEST_NUMBER) → IsUnbroken (optional p (want.Number GREATEST_NUMBER) (option_map number_data upper))
upper_unbroken p None fits = absent_unbroken p (want.Number GREATEST_NUMBER)
upper_unbroken p (Some u) fits = number_unbroken p GREATEST_NUMBER u (fits u refl)

-- the numbers of an operation are within the limit, and its successors are places
pub record HasPlaces (count : ℕ) (o : Operation) : Type 0 where
  pub lower : o.lower ≤ GREATEST_NUMBER
  pub upper : ForSome o.upper (λ u. u ≤ GREATEST_NUMBER)
  pub min : o.min ≤ GREATEST_NUMBER
  pub releases : AllByRecursion (λ l. l.release ≤ GREATEST_NUMBER) o.listings
  pub next : AllByRecursion (IsPlace count) o.next

parts_unbroken : (names : List (List ℕ)) (count t o lower : ℕ) (upper : Option ℕ) (min : ℕ) (listings : List Listing) (next : List ℕ)
    → lower ≤ GREATEST_NUMBER → ForSome upper (λ u. u ≤ GREATEST_NUMBER) → min ≤ GREATEST_NUMBER → AllByRecursion (λ l. l.release ≤ GREATEST_NUMBER) listings → AllByRecursion (IsPlace count) next
    → AreUnbroken (operation_claims count t o (operation_parts names lower upper min listings next))
unfolding operation_claims
parts_unbroken names count t o lower None min listings next lower-fits upper-fits min-fits releases places =
    unbroken_cons _ _ (object_unbroken (place.Operation t o) _)
    (unbroken_cons _ _ (number_unbroken (place.OperationKey t o StartLb) GREATEST_NUMBER lower lower-fits)
    (unbroken_cons _ _ (absent_unbroken (place.OperationKey t o StartUb) (want.Number GREATEST_NUMBER))
    (unbroken_cons _ _ (number_unbroken (place.OperationKey t o MinDuration) GREATEST_NUMBER min min-fits)
    (unbroken_cons _ _ (optional_list (place.OperationKey t o Resources) _)
    (unbroken_both (claims_from (listing_claims t o) 0 (values_of (items_data (listing_data names) listings))) _
    (unbroken_each (listing_claims t o) (listing_data names) (λ l. l.release ≤ GREATEST_NUMBER) (listing_unbroken names t o) 0 listings releases)
    (unbroken_cons _ _ (optional_list (place.OperationKey t o Successors) _)
    (unbroken_each (successor_claims count t o) number_data (IsPlace count) (successor_unbroken count t o) 0 next places)))))))
parts_unbroken names count t o lower (Some u) min listings next lower-fits upper-fits min-fits releases places =
    unbroken_cons _ _ (object_unbroken (place.Operation t o) _)
    (unbroken_cons _ _ (number_unbroken (place.OperationKey t o StartLb) GREATEST_NUMBER lower lower-fits)
    (unbroken_cons _ _ (number_unbroken (place.OperationKey t o StartUb) GREATEST_NUMBER u (upper-fits u refl))
    (unbroken_cons _ _ (number_unbroken (place.OperationKey t o MinDuration) GREATEST_NUMBER min min-fits)
    (unbroken_cons _ _ (optional_list (place.OperationKey t o Resources) _)
    (unbroken_both (claims_from (listing_claims t o) 0 (values_of (items_data (listing_data names) listings))) _
    (unbroken_each (listing_claims t o) (listing_data names) (λ l. l.release ≤ GREATEST_NUMBER) (listing_unbroken names t o) 0 listings releases)
    (unbroken_cons _ _ (optional_list (place.OperationKey t o Successors) _)
    (unbroken_each (successor_claims count t o) number_data (IsPlace count) (successor_unbroken count t o) 0 next places)))))))

operation_unbroken : (names : List (List ℕ)) (count t o : ℕ) (p : Operation) → HasPlaces count p → AreUnbroken (operation_claims count t o (operation_data names p))
operation_unbroken names count t o p is = parts_unbroken names count t o p.lower p.upper p.min p.listings p.next is.lower is.upper is.min is.releases is.next

-- ---- trains, components and problems

pub as_many : {X : Type 0} (form : X → Data) (xs : List X) → length (values_of (items_data form xs)) ≡ length xs
as_many form [] = refl
as_many form (x ∷ xs) = ap suc (as_many form xs)

train_unbroken : (names : List (List ℕ)) (t : ℕ) (train : List Operation) → AllByRecursion (HasPlaces (length train)) train → AreUnbroken (train_claims t (train_data names train))
unfolding train_claims
train_unbroken names t train all =
    unbroken_cons _ _ (needed_list (place.Train t) _)
    (subst (λ count. AreUnbroken (claims_from (operation_claims count t) 0 (values_of (items_data (operation_data names) train)))) (sym (as_many (operation_data names) train))
    (unbroken_each (operation_claims (length train) t) (operation_data names) (HasPlaces (length train)) (operation_unbroken names (length train) t) 0 train all))

-- the numbers of a component are within the limit, and it names an operation of these trains
pub record HasPlace (trains : List Data) (c : Component) : Type 0 where
  pub train : IsPlace (length trains) c.train
  pub operation : IsPlace (count_at trains (Some c.train)) c.operation
  pub threshold : c.threshold ≤ GREATEST_NUMBER
  pub increment : c.increment ≤ GREATEST_NUMBER
  pub coeff : c.coeff ≤ GREATEST_NUMBER

component_unbroken : (trains : List Data) (k : ℕ) (c : Component) → HasPlace trains c → AreUnbroken (component_claims trains k (component_data c))
unfolding component_claims
component_unbroken trains k c is =
    unbroken_cons _ _ (object_unbroken (place.Component k) _)
    (unbroken_cons _ _ (text_unbroken (place.ComponentKey k key.Kind) _)
    (unbroken_cons _ _ (index_unbroken (place.ComponentKey k key.Train) (length trains) GREATEST_NUMBER c.train is.train.small is.train.below)
    (unbroken_cons _ _ (index_unbroken (place.ComponentKey k key.Operation) (count_at trains (Some c.train)) GREATEST_NUMBER c.operation is.operation.small is.operation.below)
    (unbroken_cons _ _ (number_unbroken (place.ComponentKey k key.Threshold) GREATEST_NUMBER c.threshold is.threshold)
    (unbroken_cons _ _ (number_unbroken (place.ComponentKey k key.Increment) GREATEST_NUMBER c.increment is.increment)
    (unbroken_cons _ _ (number_unbroken (place.ComponentKey k key.Coeff) GREATEST_NUMBER c.coeff is.coeff) unbroken_none))))))

pub problem_unbroken : (names : List (List ℕ)) (trains : List (List Operation)) (components : List Component) → AllByRecursion (λ train. AllByRecursion (HasPlaces (length train)) train) trains
    → AllByRecursion (HasPlace (values_of (items_data (train_data names) trains))) components → AreUnbroken (problem_claims (problem_data names trains components))
problem_unbroken names trains components trains-are components-are =
    let ds = values_of (items_data (train_data names) trains) in
    unbroken_cons _ _ (object_unbroken place.Root _)
    (unbroken_cons _ _ (needed_list place.Trains _)
    (unbroken_both (claims_from train_claims 0 ds) _
    (unbroken_each train_claims (train_data names) (λ train. AllByRecursion (HasPlaces (length train)) train) (train_unbroken names) 0 trains trains-are)
    (unbroken_cons _ _ (needed_list place.Objective _)
    (unbroken_each (component_claims ds) component_data (HasPlace ds) (component_unbroken ds) 0 components components-are))))
