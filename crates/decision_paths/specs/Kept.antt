-- What is kept beside decisions: where each order stands first, and those that speak of routes, by
-- their trains.
use Rattle.std.specs.Prelude.{◌≡◌, ℕ, Bool, false, ◌==◌, ◌<◌, ◌≤◌, ◌-◌, min, List, length, Option, Some, None, slice_get}
use Rattle.std.specs.Global.{Vec}
use Rattle.std.specs.BTreeMap.{is_at}
use Rattle.std.specs.List.{filter}
use Rattle.std.specs.Map.{lookup}
use Rattle.std.specs.Option.{option_map_or}
use Rattle.std.specs.declared.cmp.Ordering.{Ordering}
use Rattle.std.specs.Ordering.{nat_cmp, ordering_then}
use Rattle.disp_model.specs.declared.train.Op.{Op}
use Rattle.disp_model.specs.declared.decision.Decision.{Decision}
use Rattle.disp_model.specs.declared.decision.Decision.TheVariants.{Go, First, Run, Skip}

-- ---- orders

-- by train, and then by number
abbrev pub op_cmp : Op → Op → Ordering
op_cmp a b = ordering_then (nat_cmp a.train b.train) (nat_cmp a.op b.op)

-- by the first operation, and then by the second
abbrev pub pair_cmp : Op × Op → Op × Op → Ordering
pair_cmp p q = ordering_then (op_cmp p.0 q.0) (op_cmp p.1 q.1)

-- the place that is kept of an order
abbrev pub place_in : List ((Op × Op) × ℕ) → Op → Op → Option ℕ
place_in orders a b = lookup (is_at (pair_cmp (a, b))) orders

-- of each order that is decided the first place in which it stands is kept, and of no other
pub record AreFirsts (decisions : List Decision) (orders : List ((Op × Op) × ℕ)) : Type 0 where
  pub there : (a b : Op) (k : ℕ) → place_in orders a b ≡ Some k
      → slice_get decisions k ≡ Some (First a b)
  pub first : (a b : Op) (k : ℕ) → slice_get decisions k ≡ Some (First a b) → (i : ℕ)
      × (place_in orders a b ≡ Some i) × (i ≤ k)

-- ---- routes

-- the train of whose routes a decision speaks
abbrev pub train_about : Decision → Option ℕ
train_about (Go o next) = Some o.train
train_about (First a b) = None
train_about (Run o) = Some o.train
train_about (Skip o) = Some o.train

-- whether a decision speaks of the routes of a train that passes a test
abbrev pub about_one : (ℕ → Bool) → Decision → Bool
about_one test decision = option_map_or test (train_about decision) false

-- whether a decision speaks of the routes of a train
abbrev pub speaks_of : ℕ → Decision → Bool
speaks_of t = about_one (λ u. u == t)

-- which list is a train's: the last is of all trains that have none of their own
abbrev pub list_of : ℕ → ℕ → ℕ
list_of last t = min t last

-- whether a decision is one of a list
abbrev pub is_listed : ℕ → ℕ → Decision → Bool
is_listed last i = about_one (λ u. list_of last u == i)

-- each list has the decisions that are its own, in order
pub record AreRoutesByTrain (decisions : List Decision) (routes : List (Vec Decision))
    : Type 0 where
  pub some : 0 < length routes
  pub each : (i : ℕ) (own : Vec Decision) → slice_get routes i ≡ Some own
      → own.items ≡ filter (is_listed (length routes - 1) i) decisions

-- ---- both

pub record AreDecisionsKept (decisions : List Decision) (orders : List ((Op × Op) × ℕ))
    (routes : List (Vec Decision)) : Type 0 where
  pub firsts : AreFirsts decisions orders
  pub by_train : AreRoutesByTrain decisions routes
