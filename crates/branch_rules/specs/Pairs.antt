-- Pairs of operations that clash in a plan, and the first of them (private clauses).
use Rattle.std.specs.Prelude.{◌≡◌, ◌⊎◌, ℕ, ◌<◌, ◌≤◌, List, Option, Some, None, slice_get}
use Rattle.disp_model.specs.declared.train.Op.{Op}
use Rattle.disp_model.specs.declared.plan.Event.{Event}
use Rattle.disp_model.specs.declared.problem.Problem.{Problem}
use Rattle.disp_model.specs.Plan.{Ending}
use Rattle.disp_model.specs.Routes.{Starts}
use Rattle.disp_model.specs.Earliest.{Clash, IsPairUpTo}
use Rattle.branch_rules.specs.declared.end.End.{End}
use Rattle.branch_rules.specs.declared.pair.Pair.{Pair}

-- times do not fall along the plan
abbrev pub RiseAlong : List Event → Type 0
RiseAlong plan =
    (j k : ℕ) (e f : Event) → j ≤ k → slice_get plan j ≡ Some e → slice_get plan k ≡ Some f
    → e.time ≤ f.time

-- where an event ends, in the words of plans
abbrev pub ending_of : End → Ending
ending_of end = record { position = end.position; time = end.time }

-- the operations of two events, in the order of their trains
pub record IsPairOf (e f : Event) (pair : Pair) : Type 0 where
  pub trains : pair.a.train < pair.b.train
  pub names : (Starts pair.a e × Starts pair.b f) ⊎ (Starts pair.b e × Starts pair.a f)

-- a pair that may be known comes no later than these operations
abbrev pub IsUpTo : Option Pair → Op → Op → Type 0
IsUpTo None a b = ⊥
IsUpTo (Some pair) a b = IsPairUpTo pair.a pair.b a b

-- a pair or the one that is known, which comes no later
pub record IsEarlier (known : Option Pair) (pair : Pair) (first : Option Pair) : Type 0 where
  pub one : (first ≡ known) ⊎ (first ≡ Some pair)
  pub up_to : IsUpTo first pair.a pair.b
  pub kept : (c d : Op) → IsUpTo known c d → IsUpTo first c d

-- operations that clash, in the order of their trains
abbrev pub AreClashing : Problem → List Event → Pair → Type 0
AreClashing problem plan pair = (pair.a.train < pair.b.train) × Clash problem plan pair.a pair.b

-- the first pair that clashes
pub record IsFirstPair (problem : Problem) (plan : List Event) (pair : Pair) : Type 0 where
  pub clash : AreClashing problem plan pair
  pub each : (a b : Op) → a.train < b.train → Clash problem plan a b → IsPairUpTo pair.a pair.b a b

-- no pair clashes
abbrev pub NoneClash : Problem → List Event → Type 0
NoneClash problem plan = (a b : Op) → a.train < b.train → Clash problem plan a b → ⊥
