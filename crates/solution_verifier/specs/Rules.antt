-- The rules that an event of a plan keeps by itself and with its own train, by the events that
-- stand before it.
use Rattle.std.specs.Prelude.{◌≡◌, ℕ, ◌+◌, ◌<◌, ◌≤◌, List, [], ◌∷◌, ◌++◌, length, Some, IfSome}
use Rattle.disp_model.specs.declared.plan.Event.{Event}
use Rattle.disp_model.specs.declared.train.Operation.{Operation}
use Rattle.disp_model.specs.declared.problem.Problem.{Problem}
use Rattle.disp_model.specs.Train.{duration_of, IsEntry, IsSuccessor}
use Rattle.disp_model.specs.Plan.{run_of}
use Rattle.disp_model.specs.Valid.{train_at, operation_of}

-- d is the last of a list of events
abbrev pub EndsWith : List Event → Event → Type 0
EndsWith events d = (front : List Event) × (events ≡ front ++ d ∷ [])

-- the rules, in the order in which an event is judged by them
pub data Rule : Type 0 where
  train_there : Rule
  operation_there : Rule
  time_rises : Rule
  first_is_entry : Rule
  next_is_successor : Rule
  from_lower : Rule
  until_upper : Rule
  lasts_its_duration : Rule

-- the place of a rule in that order
abbrev pub rank : Rule → ℕ
rank train_there = 0
rank operation_there = 1
rank time_rises = 2
rank first_is_entry = 3
rank next_is_successor = 4
rank from_lower = 5
rank until_upper = 6
rank lasts_its_duration = 7

-- the event e, before which these events stand, keeps a rule
abbrev pub KeepsRule : Problem → List Event → Event → Rule → Type 0
-- its train is there
KeepsRule problem stood e train_there = e.train < length problem.trains
-- its train has the operation
KeepsRule problem stood e operation_there = e.operation < length (train_at problem e.train)
-- it is no earlier than the event before it
KeepsRule problem stood e time_rises = (d : Event) → EndsWith stood d → d.time ≤ e.time
-- the first event of a train is an entry
KeepsRule problem stood e first_is_entry = run_of e.train stood ≡ []
    → IsEntry (train_at problem e.train) e.operation
-- any other is a successor of its train's event before it
KeepsRule problem stood e next_is_successor =
    (d : Event) → EndsWith (run_of e.train stood) d
    → IsSuccessor (train_at problem e.train) d.operation e.operation
-- it starts at its operation's lower or later
KeepsRule problem stood e from_lower = (o : Operation) → operation_of problem e ≡ Some o
    → o.lower ≤ e.time
-- and not after its upper
KeepsRule problem stood e until_upper = (o : Operation) → operation_of problem e ≡ Some o
    → IfSome o.upper (λ u. e.time ≤ u)
-- its train's event before it lasts its operation's duration at least
KeepsRule problem stood e lasts_its_duration =
    (d : Event) → EndsWith (run_of e.train stood) d
    → d.time + duration_of (train_at problem e.train) d.operation ≤ e.time

-- of the rules, this is the first that the event does not keep
pub record IsFirstBroken (problem : Problem) (stood : List Event) (e : Event) (rule : Rule)
    : Type 0 where
  pub broken : KeepsRule problem stood e rule → ⊥
  pub earlier : (other : Rule) → rank other < rank rule → KeepsRule problem stood e other
