-- What is asked of the routes of a train, operation by operation.
use Rattle.std.specs.Prelude.{◌≡◌, ◌↔◌, ℕ, ◌<◌, ◌==◌, ◌||◌, not, Bool, true, false, List, length, All, Contains, Option, Some, None, slice_index_or, if◌then◌else◌}
use Rattle.disp_model.specs.declared.fixing.Fixing.{Fixing}
use Rattle.disp_model.specs.declared.fixing.Fixing.TheVariants.{Started, Chosen, NotBefore}
use Rattle.disp_model.specs.declared.decision.Decision.{Decision}
use Rattle.disp_model.specs.declared.decision.Decision.TheVariants.{Go, First, Run, Skip}
use Rattle.disp_model.specs.Fixing.{after}
use Rattle.disp_model.specs.Routes.{AgreesWithFixing, AgreesWithDecision}
use Rattle.route_sets.specs.declared.asks.Ask.{Ask}
use Rattle.route_sets.specs.declared.asks.Demand.{Demand}

-- the route is as it is asked of the operation
pub record MeetsAsk (route : List ℕ) (o : ℕ) (ask : Ask) : Type 0 where
  pub wanted : ask.wanted ≡ true → Contains route o
  pub skipped : ask.skipped ≡ true → Contains route o → ⊥
  pub next : (n : ℕ) → ask.next ≡ Some n → Contains route o → after o route ≡ Some n

-- nothing is asked
abbrev pub free : Ask
free = record { wanted = false; skipped = false; next = None }

abbrev pub nothing : Demand
nothing = record { op = 0; ask = free }

-- what is asked of an operation
abbrev pub ask_at : List Ask → ℕ → Ask
ask_at asks o = slice_index_or asks o free

-- the route is as it is asked of each operation
abbrev pub AreMet : List Ask → List ℕ → Type 0
AreMet asks route = (o : ℕ) → MeetsAsk route o (ask_at asks o)

abbrev pub AreWithinTrain : ℕ → List ℕ → Type 0
AreWithinTrain count route = (o : ℕ) → Contains route o → o < count

-- two operations to go on to are not the same
abbrev pub differ : Option ℕ → Option ℕ → Bool
differ None other = false
differ (Some n) None = false
differ (Some n) (Some m) = not (n == m)

abbrev pub first_some : Option ℕ → Option ℕ → Option ℕ
first_some None other = other
first_some (Some n) other = Some n

-- what two asks of one operation ask together
abbrev pub joined : Ask → Ask → Ask
joined a b = record {
  wanted = a.wanted || b.wanted;
  skipped = a.skipped || b.skipped
      || differ a.next b.next;
  next = first_some a.next b.next;
}

-- the route has the operation that is started or chosen, and goes on from a chosen one as it says
abbrev pub demand_of_fixing : ℕ → Fixing → Demand
demand_of_fixing t (Started u o time) = if u == t
    then record { op = o; ask = record { wanted = true; skipped = false; next = None } }
    else nothing
demand_of_fixing t (Chosen u o next) = if u == t
    then record { op = o; ask = record { wanted = true; skipped = false; next = Some next } }
    else nothing
demand_of_fixing t (NotBefore u o time) = nothing

-- the route goes on from an operation as decided, has one that is run, and not one that is skipped
abbrev pub demand_of_decision : ℕ → Decision → Demand
demand_of_decision t (Go o next) = if o.train == t
    then record { op = o.op; ask = record { wanted = false; skipped = false; next = Some next } }
    else nothing
demand_of_decision t (First a b) = nothing
demand_of_decision t (Run o) = if o.train == t
    then record { op = o.op; ask = record { wanted = true; skipped = false; next = None } }
    else nothing
demand_of_decision t (Skip o) = if o.train == t
    then record { op = o.op; ask = record { wanted = false; skipped = true; next = None } }
    else nothing

-- the new asks are met exactly where the old ones are, and more holds of the route
pub record TakesAsks (More : List ℕ → Type 0) (old new : List Ask) : Type 0 where
  pub long : length new ≡ length old
  pub both : (route : List ℕ) → AreWithinTrain (length old) route → (AreMet old route × More route)
      ↔ AreMet new route

-- the asks are met by the routes that agree with the fixings and decisions of the train
pub record AreAsks (count t : ℕ) (fixings : List Fixing) (decisions : List Decision)
    (asks : List Ask) : Type 0 where
  pub long : length asks ≡ count
  pub met : (route : List ℕ) → AreWithinTrain count route
      → (All (AgreesWithFixing t route) fixings × All (AgreesWithDecision t route) decisions)
      ↔ AreMet asks route
