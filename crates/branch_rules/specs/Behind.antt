-- What is known of the events of a plan from a place on, and the first pair of them that clashes
-- (private clauses).
use Rattle.std.specs.Prelude.{◌≡◌, ◌≢◌, ◌⊎◌, ℕ, ◌<◌, ◌≤◌, List, AllPairs, Contains, Option, Some, None, length, drop, slice_get, slice_index_or, IfSome}
use Rattle.std.specs.Global.{Vec}
use Rattle.disp_model.specs.declared.train.Op.{Op}
use Rattle.disp_model.specs.declared.train.Listing.{Listing}
use Rattle.disp_model.specs.declared.plan.Event.{Event}
use Rattle.disp_model.specs.declared.problem.Problem.{Problem}
use Rattle.disp_model.specs.Plan.{Ending, end_of, first_of}
use Rattle.disp_model.specs.Valid.{IsReleased}
use Rattle.disp_model.specs.Arcs.{listings_of}
use Rattle.disp_model.specs.Earliest.{op_of, Clash}
use Rattle.branch_rules.specs.declared.behind.Behind.{Behind}
use Rattle.branch_rules.specs.declared.pair.Pair.{Pair}
use Rattle.branch_rules.specs.Pairs.{AreClashing, IsPairOf, IsUpTo}

-- one of the listings is of the resource
abbrev pub AreOf : List Listing → ℕ → Type 0
AreOf listings r = (k : Listing) × Contains listings k × (k.resource ≡ r)

-- the event's operation lists the resource
abbrev pub Lists : Problem → Event → ℕ → Type 0
Lists problem f r = AreOf (listings_of problem (op_of f)) r

-- each event is of a train of the problem
abbrev pub AreOfTrains : Problem → List Event → Type 0
AreOfTrains problem plan = (j : ℕ) (f : Event) → slice_get plan j ≡ Some f
    → f.train < length problem.trains

-- each place is no later than those before it
abbrev pub AreFalling : List ℕ → Type 0
AreFalling places = AllPairs (λ j k. k ≤ j) places

-- the places, from one on, of the events that list a resource, the last one first
pub record ArePlacesOf (problem : Problem) (plan : List Event) (i r : ℕ) (places : List ℕ)
    : Type 0 where
  pub each : (j : ℕ) (f : Event) → i ≤ j → slice_get plan j ≡ Some f → Lists problem f r
      → Contains places j
  pub there : (j : ℕ) → Contains places j → (i ≤ j) × (j < length plan)
  pub lists : (j : ℕ) (f : Event) → Contains places j → slice_get plan j ≡ Some f
      → Lists problem f r
  pub falling : AreFalling places

-- of the events from a place on the first one of each train, and the places of those that list each
-- resource
pub record IsKnownBehind (problem : Problem) (plan : List Event) (i : ℕ) (behind : Behind)
    : Type 0 where
  pub trains : length behind.next.items ≡ length problem.trains
  pub next : (t : ℕ) → t < length problem.trains
      → slice_index_or behind.next.items t None ≡ first_of t i (drop i plan)
  pub resources : length behind.listed.items ≡ length problem.names
  pub listed : (r : ℕ) (places : Vec ℕ) → slice_get behind.listed.items r ≡ Some places
      → ArePlacesOf problem plan i r places.items

-- ---- a place more

-- the place is put behind these where it is listed, and nothing else
pub record IsPutBehind (place : ℕ) (IsListed : Type 0) (before after : List ℕ) : Type 0 where
  pub kept : (j : ℕ) → Contains before j → Contains after j
  pub there : IsListed → Contains after place
  pub only : (j : ℕ) → Contains after j → Contains before j ⊎ ((j ≡ place) × IsListed)
  pub falling : ((j : ℕ) → Contains before j → place ≤ j) → AreFalling before → AreFalling after

-- the place is put behind those of each resource of these listings
pub record ArePutBehind (place : ℕ) (listings : List Listing) (before after : List (Vec ℕ))
    : Type 0 where
  pub count : length after ≡ length before
  pub each : (r : ℕ) (places : Vec ℕ) → slice_get after r ≡ Some places → (old : Vec ℕ)
      × (slice_get before r ≡ Some old)
      × IsPutBehind place (AreOf listings r) old.items places.items

-- ---- the first pair that clashes

-- the first one of a pair that may be known and those of a holder, until its end, with the events
-- at these places for which a listing of its is not released
pub record IsTriedOn (plan : List Event) (places : List ℕ) (e : Event) (l : Listing) (end : Ending)
    (known first : Option Pair) : Type 0 where
  pub kept : (c d : Op) → IsUpTo known c d → IsUpTo first c d
  pub one : (first ≡ known) ⊎ ((j : ℕ) × (f : Event) × (pair : Pair) × Contains places j
      × (slice_get plan j ≡ Some f) × (e.train ≢ f.train) × (IsReleased end l j f → ⊥)
      × IsPairOf e f pair × (first ≡ Some pair))
  pub each : (j : ℕ) (f : Event) (pair : Pair) → Contains places j → slice_get plan j ≡ Some f
      → (IsReleased end l j f → ⊥) → IsPairOf e f pair → IsUpTo first pair.a pair.b

-- the first pair that clashes of those whose first event stands from a place on
pub record IsFirstFrom (problem : Problem) (plan : List Event) (i : ℕ) (first : Option Pair)
    : Type 0 where
  pub clash : IfSome first (AreClashing problem plan)
  pub each : (a b : Op) → a.train < b.train → (c : Clash problem plan a b) → i ≤ c.i
      → IsUpTo first a b

-- the first of those whose first event stands behind a place, or there and one of these listings of
-- its is not released for the second
pub record IsFirstWith (problem : Problem) (plan : List Event) (i : ℕ) (e : Event)
    (listings : List Listing) (first : Option Pair) : Type 0 where
  pub clash : IfSome first (AreClashing problem plan)
  pub behind : (a b : Op) → a.train < b.train → (c : Clash problem plan a b) → i < c.i
      → IsUpTo first a b
  pub each : (l : Listing) (j : ℕ) (f : Event) (pair : Pair) → Contains listings l → i < j
      → slice_get plan j ≡ Some f → Lists problem f l.resource
      → (IsReleased (end_of problem.trains plan i e) l j f → ⊥) → IsPairOf e f pair
      → IsUpTo first pair.a pair.b
