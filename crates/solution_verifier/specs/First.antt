-- The first fault of a plan: of the first event that breaks a rule, then of the trains, the fixings
-- and the cost.
use Rattle.std.specs.Prelude.{◌≡◌, ◌≢◌, ℕ, ◌+◌, ◌<◌, List, [], length, Option, Some, slice_get, take, IfSome}
use Rattle.disp_model.specs.declared.plan.Event.{Event}
use Rattle.disp_model.specs.declared.fixing.Fixing.{Fixing}
use Rattle.disp_model.specs.declared.problem.Problem.{Problem}
use Rattle.disp_model.specs.Train.{IsExit}
use Rattle.disp_model.specs.Plan.{run_of}
use Rattle.disp_model.specs.Fixing.{IsMet}
use Rattle.disp_model.specs.Valid.{train_at, IsValid}
use Rattle.disp_model.specs.Cost.{cost_of}
use Rattle.solution_verifier.specs.declared.fault.Fault.{Fault}
use Rattle.solution_verifier.specs.declared.fault.Fault.TheVariants.{UnknownTrain, UnknownOperation, TimeBackwards, NotEntry, NotSuccessor, TooEarly, TooLate, TooShort, Held, Incomplete, FixingUnmet, WrongCost}
use Rattle.solution_verifier.specs.Rules.{EndsWith, Rule, train_there, operation_there, time_rises, first_is_entry, next_is_successor, from_lower, until_upper, lasts_its_duration, KeepsRule, IsFirstBroken}
use Rattle.solution_verifier.specs.Held.{LetsPass, IsHeldBy, IsEventSound}

-- the first event that is not sound is at j, and the first rule that it breaks is this one
pub record BreaksRuleFirst (problem : Problem) (plan : List Event) (rule : Rule) (j : ℕ)
    : Type 0 where
  pub before : (k : ℕ) → k < j → IsEventSound problem plan k
  pub event : Event
  pub there : slice_get plan j ≡ Some event
  pub first : IsFirstBroken problem (take j plan) event rule

-- the first event that is not sound is at j, it keeps the rules, and the first event that does not
-- let it pass is at i, by a resource
pub record IsFirstHeld (problem : Problem) (plan : List Event) (i j resource : ℕ) : Type 0 where
  pub before : (k : ℕ) → k < j → IsEventSound problem plan k
  pub event : Event
  pub there : slice_get plan j ≡ Some event
  pub rules : (rule : Rule) → KeepsRule problem (take j plan) event rule
  pub earlier : (h : ℕ) (c : Event) → h < i → slice_get plan h ≡ Some c
      → LetsPass problem (take j plan) h c event
  pub order : i < j
  pub holder : Event
  pub holder_there : slice_get plan i ≡ Some holder
  pub held : IsHeldBy problem (take j plan) i holder event resource

-- the run of a train ends at an exit
abbrev pub IsComplete : Problem → List Event → ℕ → Type 0
IsComplete problem plan t = (d : Event) × EndsWith (run_of t plan) d
    × IsExit (train_at problem t) d.operation

-- each event is sound, and t is the first train whose run does not end at an exit
pub record IsFirstOpen (problem : Problem) (plan : List Event) (t : ℕ) : Type 0 where
  pub sound : (k : ℕ) → IsEventSound problem plan k
  pub there : t < length problem.trains
  pub earlier : (u : ℕ) → u < t → IsComplete problem plan u
  pub incomplete : IsComplete problem plan t → ⊥

-- the plan is valid but for its fixings, of which the k-th, counted from 1, is the first that is
-- not met
pub record IsFirstUnmet (problem : Problem) (fixings : List Fixing) (plan : List Event) (k : ℕ)
    : Type 0 where
  pub valid : IsValid problem [] plan
  pub place : ℕ
  pub counted : k ≡ place + 1
  pub fixing : Fixing
  pub there : slice_get fixings place ≡ Some fixing
  pub unmet : IsMet plan fixing → ⊥
  pub earlier : (m : ℕ) (f : Fixing) → m < place → slice_get fixings m ≡ Some f → IsMet plan f

-- the plan is valid, and its cost is another than the one stated
pub record IsWrongCost (problem : Problem) (fixings : List Fixing) (plan : List Event)
    (stated : Option ℕ) (claimed actual : ℕ) : Type 0 where
  pub valid : IsValid problem fixings plan
  pub stated_is : stated ≡ Some claimed
  pub cost : actual ≡ cost_of problem.components plan
  pub wrong : claimed ≢ actual

-- this is the first fault of a plan, with the cost that was stated
abbrev pub IsFirstFault : Problem → List Fixing → List Event → Option ℕ → Fault → Type 0
IsFirstFault problem fixings plan stated (UnknownTrain j) =
    BreaksRuleFirst problem plan train_there j
IsFirstFault problem fixings plan stated (UnknownOperation j) =
    BreaksRuleFirst problem plan operation_there j
IsFirstFault problem fixings plan stated (TimeBackwards j) =
    BreaksRuleFirst problem plan time_rises j
IsFirstFault problem fixings plan stated (NotEntry j) =
    BreaksRuleFirst problem plan first_is_entry j
IsFirstFault problem fixings plan stated (NotSuccessor j) =
    BreaksRuleFirst problem plan next_is_successor j
IsFirstFault problem fixings plan stated (TooEarly j) = BreaksRuleFirst problem plan from_lower j
IsFirstFault problem fixings plan stated (TooLate j) = BreaksRuleFirst problem plan until_upper j
IsFirstFault problem fixings plan stated (TooShort j) =
    BreaksRuleFirst problem plan lasts_its_duration j
IsFirstFault problem fixings plan stated (Held i j resource) = IsFirstHeld problem plan i j resource
IsFirstFault problem fixings plan stated (Incomplete t) = IsFirstOpen problem plan t
IsFirstFault problem fixings plan stated (FixingUnmet k) = IsFirstUnmet problem fixings plan k
IsFirstFault problem fixings plan stated (WrongCost claimed actual) =
    IsWrongCost problem fixings plan stated claimed actual

-- the plan is valid and costs c, and where a cost is stated it is that
pub record IsRight (problem : Problem) (fixings : List Fixing) (plan : List Event)
    (stated : Option ℕ) (c : ℕ) : Type 0 where
  pub valid : IsValid problem fixings plan
  pub cost : c ≡ cost_of problem.components plan
  pub stated_is : IfSome stated (λ s. s ≡ c)
