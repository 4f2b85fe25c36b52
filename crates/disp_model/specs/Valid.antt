-- When a plan is valid for a problem and a list of fixings.
use Rattle.std.specs.Prelude.{◌≡◌, ◌≢◌, ℕ, ◌+◌, ◌<◌, ◌≤◌, List, [], length, All, Option, Some, slice_get, slice_index_or, IsSome, IfSome}
use Rattle.std.specs.List.{Any}
use Rattle.std.specs.List.Sorted.{IsNonDecreasingBy}
use Rattle.disp_model.specs.declared.plan.Event.{Event}
use Rattle.disp_model.specs.declared.train.Operation.{Operation}
use Rattle.disp_model.specs.declared.train.Listing.{Listing}
use Rattle.disp_model.specs.declared.fixing.Fixing.{Fixing}
use Rattle.disp_model.specs.declared.problem.Problem.{Problem}
use Rattle.disp_model.specs.Train.{IsRoute}
use Rattle.disp_model.specs.Plan.{operations_of, end_of, Ending}
use Rattle.disp_model.specs.Fixing.{IsMet}

-- the train t of a problem
abbrev pub train_at : Problem → ℕ → List Operation
train_at problem t = slice_index_or problem.trains t []

-- the operation that an event starts
abbrev pub operation_of : Problem → Event → Option Operation
operation_of problem e = slice_get (train_at problem e.train) e.operation

-- an operation may start at a time: from its lower on, and not after its upper (format: `start_lb`,
-- `start_ub`)
pub record MayStart (o : Operation) (time : ℕ) : Type 0 where
  pub lower : o.lower ≤ time
  pub upper : IfSome o.upper (λ u. time ≤ u)

-- the event f, at position j, stands and starts late enough for a resource that an event which ends
-- there lists
pub record IsReleased (end : Ending) (l : Listing) (j : ℕ) (f : Event) : Type 0 where
  pub position : end.position < j
  pub time : end.time + l.release ≤ f.time

-- two events of different trains, the earlier at i and the later at j, keep apart on each resource
-- that both list (format; positions, and release times at equal times, are this project's reading)
abbrev pub KeepApart : Problem → List Event → ℕ → Event → ℕ → Event → Type 0
KeepApart problem plan i e j f =
    (o p : Operation) → operation_of problem e ≡ Some o → operation_of problem f ≡ Some p
    → All (λ l. Any (λ k. k.resource ≡ l.resource) p.listings
    → IsReleased (end_of problem.trains plan i e) l j f) o.listings

pub record IsValid (problem : Problem) (fixings : List Fixing) (plan : List Event) : Type 0 where
  -- each event names an operation of a train
  pub named : All (λ e. IsSome (operation_of problem e)) plan
  -- times do not fall along the list
  pub in_order : IsNonDecreasingBy (λ e. e.time) plan
  -- the run of each train is a route
  pub routes : (t : ℕ) → t < length problem.trains
      → IsRoute (train_at problem t) (operations_of t plan)
  -- each operation starts when it may
  pub windows : All (λ e. IfSome (operation_of problem e) (λ o. MayStart o e.time)) plan
  -- each event lasts its operation's duration at least
  pub durations : (i : ℕ) (e : Event) → slice_get plan i ≡ Some e
      → IfSome (operation_of problem e) (λ o. e.time + o.min ≤
      (end_of problem.trains plan i e).time)
  -- trains keep apart on resources
  pub apart : (i j : ℕ) (e f : Event) → i < j → slice_get plan i ≡ Some e
      → slice_get plan j ≡ Some f → e.train ≢ f.train → KeepApart problem plan i e j f
  -- each fixing is met
  pub met : All (IsMet plan) fixings
