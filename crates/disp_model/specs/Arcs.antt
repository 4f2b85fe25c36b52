-- The arcs of the alternative graph between forced operations, and the walks along them.
use Rattle.std.specs.Prelude.{◌≡◌, ◌≢◌, ◌⊎◌, ℕ, ◌+◌, ◌≤◌, ◌==◌, List, [], ◌∷◌, ◌++◌, Contains, Some, slice_get, sum_by, filter}
use Rattle.std.specs.List.{list_any}
use Rattle.std.specs.Option.{option_map_or}
use Rattle.disp_model.specs.declared.train.Op.{Op}
use Rattle.disp_model.specs.declared.train.Listing.{Listing}
use Rattle.disp_model.specs.declared.train.Operation.{Operation}
use Rattle.disp_model.specs.declared.decision.Decision.{Decision}
use Rattle.disp_model.specs.declared.decision.Decision.TheVariants.{First}
use Rattle.disp_model.specs.declared.problem.Problem.{Problem}
use Rattle.disp_model.specs.Train.{duration_of}
use Rattle.disp_model.specs.WellFormed.{greatest_release}
use Rattle.disp_model.specs.Valid.{train_at}
use Rattle.disp_model.specs.Fixing.{after}
use Rattle.disp_model.specs.Node.{Node}
use Rattle.disp_model.specs.Routes.{IsAllowed, IsForced}

-- what an operation lists
abbrev pub listings_of : Problem → Op → List Listing
listings_of problem o = option_map_or (λ p. p.listings) (slice_get (train_at problem o.train) o.op)
    []

-- the listings of a of resources that b lists too
abbrev pub shared_listings : List Listing → List Listing → List Listing
shared_listings a b = filter (λ l. list_any (λ k. k.resource == l.resource) b) a

-- two operations of different trains that share a resource
pub record Conflicts (problem : Problem) (a b : Op) : Type 0 where
  pub trains : a.train ≢ b.train
  pub shared : shared_listings (listings_of problem a) (listings_of problem b) ≢ []

-- the greatest release time of a's listings of resources that b lists too
abbrev pub release_of : Problem → Op → Op → ℕ
release_of problem a b = greatest_release
    (shared_listings (listings_of problem a) (listings_of problem b))

abbrev pub min_of : Problem → Op → ℕ
min_of problem o = duration_of (train_at problem o.train) o.op

-- a route passes u, and v behind it; the durations from u up to but not including v add up to the
-- total
pub record Passes (train : List Operation) (route : List ℕ) (u v total : ℕ) : Type 0 where
  pub before : List ℕ
  pub between : List ℕ
  pub behind : List ℕ
  pub route_is : route ≡ before ++ u ∷ (between ++ v ∷ behind)
  pub total_is : total ≡ sum_by (duration_of train) (u ∷ between)

-- in one train, u before v: the least sum of durations over the allowed routes (2002 paper: fixed
-- arcs)
pub record IsTrainArc (node : Node) (u v : Op) (arc_length : ℕ) : Type 0 where
  pub same_train : u.train ≡ v.train
  pub reached : (route : List ℕ) × IsAllowed node u.train route
      × Passes (train_at node.problem u.train) route u.op v.op arc_length
  pub least : (route : List ℕ) (total : ℕ) → IsAllowed node u.train route
      → Passes (train_at node.problem u.train) route u.op v.op total → arc_length ≤ total

-- a is decided before b: its duration and its release time (2002 paper: selected arcs; release
-- times are this project's)
pub record IsOrderArc (problem : Problem) (decisions : List Decision) (a b : Op) (arc_length : ℕ)
    : Type 0 where
  pub decided : Contains decisions (First a b)
  pub conflicts : Conflicts problem a b
  pub length_is : arc_length ≡ min_of problem a + release_of problem a b

-- each allowed route goes on from a to n
abbrev pub GoesTo : Node → Op → Op → Type 0
GoesTo node a n =
    (n.train ≡ a.train) × ((route : List ℕ) → IsAllowed node a.train route
    → after a.op route ≡ Some n.op)

-- a is decided before b, and n follows a on each allowed route: from n the release time
pub record IsReleaseArc (node : Node) (n b : Op) (arc_length : ℕ) : Type 0 where
  pub holder : Op
  pub decided : Contains node.decisions (First holder b)
  pub forced : IsForced node holder
  pub conflicts : Conflicts node.problem holder b
  pub goes_to : GoesTo node holder n
  pub length_is : arc_length ≡ release_of node.problem holder b

-- an arc between forced operations, of a length: the later one stands behind the earlier and starts
-- so much later
pub record IsArc (node : Node) (u v : Op) (arc_length : ℕ) : Type 0 where
  pub from_forced : IsForced node u
  pub to_forced : IsForced node v
  pub kind : IsTrainArc node u v arc_length
      ⊎ (IsOrderArc node.problem node.decisions u v arc_length ⊎ IsReleaseArc node u v arc_length)

-- there is an arc
abbrev pub HasArc : Node → Op → Op → Type 0
HasArc node u v = (arc_length : ℕ) × IsArc node u v arc_length

-- between two nodes the longest arc counts
pub record IsLongestArc (node : Node) (u v : Op) (arc_length : ℕ) : Type 0 where
  pub there : IsArc node u v arc_length
  pub longest : (other : ℕ) → IsArc node u v other → other ≤ arc_length
