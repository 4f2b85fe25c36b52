-- What fixings and decisions ask of the routes of a train, and which steps a route may take by it.
use Rattle.std.specs.Prelude.{◌≡◌, ◌≢◌, ◌⊎◌, ◌↔◌, ℕ, ◌<◌, ◌≤◌, ◌==◌, List, [], ◌∷◌, length, All, Contains, Option, Some, None, IfSome, slice_index, if◌then◌else◌}
use Rattle.disp_model.specs.declared.fixing.Fixing.{Fixing}
use Rattle.disp_model.specs.declared.fixing.Fixing.TheVariants.{Started, Chosen, NotBefore}
use Rattle.disp_model.specs.declared.decision.Decision.{Decision}
use Rattle.disp_model.specs.declared.decision.Decision.TheVariants.{Go, First, Run, Skip as SkipIt}
use Rattle.disp_model.specs.Fixing.{after}
use Rattle.disp_model.specs.Routes.{AgreesWithFixing, AgreesWithDecision}
use Rattle.node_facts.specs.declared.demands.Demand.{Demand}
use Rattle.node_facts.specs.declared.demands.Demand.TheVariants.{Has, Lacks, Goes, Follows}

-- the route is as it is asked
abbrev pub Meets : List ℕ → Demand → Type 0
Meets route (Has o) = Contains route o
Meets route (Lacks o) = Contains route o → ⊥
Meets route (Goes o n) = after o route ≡ Some n
Meets route (Follows o n) = Contains route o → after o route ≡ Some n

-- what a fixing and a decision ask of the routes of a train
abbrev pub fixing_demand : ℕ → Fixing → Option Demand
fixing_demand t (Started u o time) = if u == t then Some (Has o) else None
fixing_demand t (Chosen u o next) = if u == t then Some (Goes o next) else None
fixing_demand t (NotBefore u o time) = None

abbrev pub decision_demand : ℕ → Decision → Option Demand
decision_demand t (Go o next) = if o.train == t then Some (Follows o.op next) else None
decision_demand t (First a b) = None
decision_demand t (Run o) = if o.train == t then Some (Has o.op) else None
decision_demand t (SkipIt o) = if o.train == t then Some (Lacks o.op) else None

abbrev pub as_demands : Option Demand → List Demand
as_demands None = []
as_demands (Some demand) = demand ∷ []

-- a route meets the demands exactly where something holds of it
abbrev pub AreDemandsFor : (List ℕ → Type 0) → List Demand → Type 0
AreDemandsFor P demands = (route : List ℕ) → All (Meets route) demands ↔ P route

-- the routes of a train that agree with fixings and decisions meet the demands, and no others
abbrev pub AreDemands : ℕ → List Fixing → List Decision → List Demand → Type 0
AreDemands t fixings decisions = AreDemandsFor
    (λ route. All (AgreesWithFixing t route) fixings × All (AgreesWithDecision t route) decisions)

-- ---- steps

-- a step, or an end at an operation, does not lead past an operation that there is, by the
-- operations' places
pub record IsNotPast (places : List ℕ) (wanted o : ℕ) (next : Option ℕ) : Type 0 where
  pub there : wanted < length places
  pub beside : IfSome next (λ s. (slice_index places o ≤ slice_index places wanted)
      ⊎ (slice_index places wanted ≤ slice_index places s))

abbrev pub IsFollowed : ℕ → ℕ → ℕ → Option ℕ → Type 0
IsFollowed wanted n o next = o ≡ wanted → next ≡ Some n

-- by what is asked a route may go on from an operation to one, or end there
abbrev pub Allows : List ℕ → ℕ → Option ℕ → Demand → Type 0
Allows places o next (Has wanted) = IsNotPast places wanted o next
Allows places o next (Lacks unwanted) = o ≢ unwanted
Allows places o next (Goes from to) = IsNotPast places from o next × IsFollowed from to o next
Allows places o next (Follows from to) = IsFollowed from to o next
