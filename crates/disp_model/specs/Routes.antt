-- Which routes of a train agree with fixings and decisions, and which operations every such route
-- has.
use Rattle.std.specs.Prelude.{◌≡◌, ℕ, ◌<◌, List, All, Contains, Some, length}
use Rattle.disp_model.specs.declared.train.Op.{Op}
use Rattle.disp_model.specs.declared.fixing.Fixing.{Fixing}
use Rattle.disp_model.specs.declared.fixing.Fixing.TheVariants.{Started, Chosen, NotBefore}
use Rattle.disp_model.specs.declared.decision.Decision.{Decision}
use Rattle.disp_model.specs.declared.decision.Decision.TheVariants.{Go, First, Run, Skip}
use Rattle.disp_model.specs.declared.plan.Event.{Event}
use Rattle.disp_model.specs.Train.{IsRoute}
use Rattle.disp_model.specs.Valid.{train_at}
use Rattle.disp_model.specs.Fixing.{after}
use Rattle.disp_model.specs.Node.{Node}

-- the route has the operation that a started or chosen fixing of its train names, followed as a
-- chosen one says (this project)
abbrev pub AgreesWithFixing : ℕ → List ℕ → Fixing → Type 0
AgreesWithFixing t route (Started u o time) = u ≡ t → Contains route o
AgreesWithFixing t route (Chosen u o next) = u ≡ t → after o route ≡ Some next
AgreesWithFixing t route (NotBefore u o time) = Unit {0}

-- where the operation is on the route, the decided one follows it; an operation to run is on it,
-- one to skip is not
abbrev pub AgreesWithDecision : ℕ → List ℕ → Decision → Type 0
AgreesWithDecision t route (Go o next) = o.train ≡ t → Contains route o.op
    → after o.op route ≡ Some next
AgreesWithDecision t route (First a b) = Unit {0}
AgreesWithDecision t route (Run o) = o.train ≡ t → Contains route o.op
AgreesWithDecision t route (Skip o) = o.train ≡ t → Contains route o.op → ⊥

-- an allowed route of train t: a route that agrees with the fixings and the decisions (this
-- project)
pub record IsAllowed (node : Node) (t : ℕ) (route : List ℕ) : Type 0 where
  pub is_route : IsRoute (train_at node.problem t) route
  pub fixings_agree : All (AgreesWithFixing t route) node.fixings
  pub decisions_agree : All (AgreesWithDecision t route) node.decisions

-- a train has an allowed route
abbrev pub HasRoute : Node → ℕ → Type 0
HasRoute node t = (route : List ℕ) × IsAllowed node t route

-- a train has one allowed route
pub record HasOneRoute (node : Node) (t : ℕ) (route : List ℕ) : Type 0 where
  pub allowed : IsAllowed node t route
  pub alone : (other : List ℕ) → IsAllowed node t other → other ≡ route

-- some train has no allowed route
abbrev pub HasNoRoute : Node → Type 0
HasNoRoute node = (t : ℕ) × (t < length node.problem.trains) × (HasRoute node t → ⊥)

-- an operation is forced: its train has an allowed route, and each allowed route has the operation
pub record IsForced (node : Node) (o : Op) : Type 0 where
  pub train : o.train < length node.problem.trains
  pub allowed : HasRoute node o.train
  pub each_has : (route : List ℕ) → IsAllowed node o.train route → Contains route o.op

-- the event starts the operation
pub record Starts (o : Op) (e : Event) : Type 0 where
  pub train : e.train ≡ o.train
  pub operation : e.operation ≡ o.op
