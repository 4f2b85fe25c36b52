-- When an event lets another train's event have the resources that it holds.
use Rattle.std.specs.Prelude.{◌≡◌, ◌≢◌, ℕ, ◌+◌, ◌<◌, ◌≤◌, List, [], ◌∷◌, All, Option, Some, None, slice_get, drop, take}
use Rattle.std.specs.List.{Any}
use Rattle.std.specs.Option.{option_map_or}
use Rattle.disp_model.specs.declared.plan.Event.{Event}
use Rattle.disp_model.specs.declared.train.Listing.{Listing}
use Rattle.disp_model.specs.declared.problem.Problem.{Problem}
use Rattle.disp_model.specs.Train.{duration_of, next_of}
use Rattle.disp_model.specs.Plan.{run_of}
use Rattle.disp_model.specs.Valid.{train_at, operation_of}
use Rattle.solution_verifier.specs.Rules.{Rule, KeepsRule}

-- what the operation of an event lists
abbrev pub listings_at : Problem → Event → List Listing
listings_at problem e = option_map_or (λ o. o.listings) (operation_of problem e) []

-- when an event has event_end: one whose operation has no successor of itself, any other where its
-- train's run goes on
abbrev pub event_end : List ℕ → ℕ → List Event → Option ℕ
event_end [] by_itself run = Some by_itself
event_end (s ∷ next) by_itself [] = None
event_end (s ∷ next) by_itself (f ∷ run) = Some f.time

-- when the event d, at position i, has event_end, as far as these events tell: an exit ends after
-- its duration, any other event where its train's next event stands; where none stands it has not
-- event_end
abbrev pub ended_in : Problem → List Event → ℕ → Event → Option ℕ
ended_in problem stood i d =
    event_end (next_of (train_at problem d.train) d.operation)
    (d.time + duration_of (train_at problem d.train) d.operation)
    (run_of d.train (drop (i + 1) stood))

-- from the end on the release time has passed
abbrev pub HasPassed : Option ℕ → ℕ → ℕ → Type 0
HasPassed None release time = ⊥
HasPassed (Some t) release time = t + release ≤ time

-- the event e, before which these events stand, may have what the event d at position i lists: e
-- does not list it too, or d has event_end and the release time has passed
abbrev pub LetsBy : Problem → List Event → ℕ → Event → Event → Listing → Type 0
LetsBy problem stood i d e l =
    Any (λ k. k.resource ≡ l.resource) (listings_at problem e)
    → HasPassed (ended_in problem stood i d) l.release e.time

-- the event d at position i, where it is of another train, lets e by on each listing
abbrev pub LetsPass : Problem → List Event → ℕ → Event → Event → Type 0
LetsPass problem stood i d e = d.train ≢ e.train
    → All (LetsBy problem stood i d e) (listings_at problem d)

-- d, an event of another train at position i, does not let e by, and the first of its listings that
-- does not is of a resource
pub record IsHeldBy (problem : Problem) (stood : List Event) (i : ℕ) (d e : Event) (resource : ℕ)
    : Type 0 where
  pub trains : d.train ≢ e.train
  pub place : ℕ
  pub listing : Listing
  pub listed : slice_get (listings_at problem d) place ≡ Some listing
  pub held : LetsBy problem stood i d e listing → ⊥
  pub earlier : (m : ℕ) (l : Listing) → m < place → slice_get (listings_at problem d) m ≡ Some l
      → LetsBy problem stood i d e l
  pub names : listing.resource ≡ resource

-- the event at position j keeps the rules, and each event before it lets it pass
pub record IsSoundAt (problem : Problem) (plan : List Event) (j : ℕ) (e : Event) : Type 0 where
  pub rules : (rule : Rule) → KeepsRule problem (take j plan) e rule
  pub free : (i : ℕ) (d : Event) → i < j → slice_get plan i ≡ Some d
      → LetsPass problem (take j plan) i d e

-- what stands at position j, if anything, is sound
abbrev pub IsEventSound : Problem → List Event → ℕ → Type 0
IsEventSound problem plan j = (e : Event) → slice_get plan j ≡ Some e → IsSoundAt problem plan j e
