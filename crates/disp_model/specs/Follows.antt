-- When a plan follows decisions.
use Rattle.std.specs.Prelude.{◌≡◌, ℕ, ◌<◌, List, All, Contains, Some, slice_get}
use Rattle.disp_model.specs.declared.decision.Decision.{Decision}
use Rattle.disp_model.specs.declared.decision.Decision.TheVariants.{Go, First, Run, Skip}
use Rattle.disp_model.specs.declared.plan.Event.{Event}
use Rattle.disp_model.specs.Fixing.{after}
use Rattle.disp_model.specs.Plan.{operations_of}
use Rattle.disp_model.specs.Routes.{Starts}

-- `Go`: where the operation is run, the decided one is the next of its train; `First`: where both
-- are run, a stands before b; `Run`: the operation is run; `Skip`: it is not
abbrev pub FollowsDecision : List Event → Decision → Type 0
FollowsDecision plan (Go o next) = Contains (operations_of o.train plan) o.op
    → after o.op (operations_of o.train plan) ≡ Some next
FollowsDecision plan (First a b) =
    (i j : ℕ) (e f : Event) → slice_get plan i ≡ Some e → slice_get plan j ≡ Some f → Starts a e
    → Starts b f → i < j
FollowsDecision plan (Run o) = Contains (operations_of o.train plan) o.op
FollowsDecision plan (Skip o) = Contains (operations_of o.train plan) o.op → ⊥

abbrev pub Follows : List Event → List Decision → Type 0
Follows plan decisions = All (FollowsDecision plan) decisions
