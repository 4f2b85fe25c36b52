-- The plan of earliest starts at a node, and the choice that is picked there.
use Rattle.std.specs.Prelude.{◌≡◌, ◌≢◌, ◌⊎◌, ℕ, ◌<◌, List, ◌∷◌, ◌++◌, length, take, drop, Contains, Option, Some, None, slice_get}
use Rattle.disp_model.specs.declared.train.Op.{Op}
use Rattle.disp_model.specs.declared.decision.Decision.TheVariants.{First}
use Rattle.disp_model.specs.declared.decision.Choice.{Choice}
use Rattle.disp_model.specs.declared.decision.Choice.TheVariants.{Route, Order, Run}
use Rattle.disp_model.specs.declared.plan.Event.{Event}
use Rattle.disp_model.specs.declared.settings.Rule.{Rule}
use Rattle.disp_model.specs.declared.settings.Rule.TheVariants.{Fixed, Free}
use Rattle.disp_model.specs.declared.problem.Problem.{Problem}
use Rattle.disp_model.specs.Fixing.{after}
use Rattle.disp_model.specs.Valid.{IsValid, KeepApart}
use Rattle.disp_model.specs.Node.{Node}
use Rattle.disp_model.specs.Routes.{IsAllowed, HasOneRoute, IsForced, Starts}
use Rattle.disp_model.specs.Arcs.{HasArc}
use Rattle.disp_model.specs.Walks.{IsLongest, HasCycle}
use Rattle.disp_model.specs.Choices.{IsOpen}

abbrev pub op_of : Event → Op
op_of e = record { train = e.train; op = e.operation }

-- by time, then train, then operation
abbrev pub ComesBefore : Event → Event → Type 0
ComesBefore e f =
    (e.time < f.time) ⊎ ((e.time ≡ f.time) ×
    ((e.train < f.train) ⊎ ((e.train ≡ f.train) × (e.operation < f.operation))))

-- the events before those that are left have all from which an arc leads to this one
abbrev pub IsReady : Node → List Event → Event → Type 0
IsReady node stood e =
    (o : Op) → HasArc node o (op_of e) → (f : Event) × Contains stood f × Starts o f

-- of the events that are ready it is the first by time, train and operation
pub record IsNext (node : Node) (stood rest : List Event) (e : Event) : Type 0 where
  pub ready : IsReady node stood e
  pub first : (f : Event) → Contains rest f → IsReady node stood f → (f ≡ e) ⊎ ComesBefore e f

-- each train has one allowed route
abbrev pub HaveOneRoute : Node → Type 0
HaveOneRoute node = (t : ℕ) → t < length node.problem.trains → (route : List ℕ)
    × HasOneRoute node t route

-- the plan of earliest starts: each forced operation once, at its longest walk; of the events whose
-- predecessors all stand, the first by time, train and operation comes next (this project)
pub record IsEarliest (node : Node) (plan : List Event) : Type 0 where
  pub one_route : HaveOneRoute node
  pub no_cycle : HasCycle node → ⊥
  pub each_run : (o : Op) → IsForced node o → (e : Event) × Contains plan e × Starts o e
  pub none_else : (e : Event) → Contains plan e → IsForced node (op_of e)
      × IsLongest node (op_of e) e.time
  pub none_twice : (i j : ℕ) (e f : Event) → i < j → slice_get plan i ≡ Some e
      → slice_get plan j ≡ Some f → op_of e ≢ op_of f
  pub ordered : (i : ℕ) (e : Event) → slice_get plan i ≡ Some e
      → IsNext node (take i plan) (drop i plan) e

-- ---- the choice that is picked

-- a train has two allowed routes
abbrev pub HasTwoRoutes : Node → ℕ → Type 0
HasTwoRoutes node t =
    (route : List ℕ) × (other : List ℕ) × IsAllowed node t route × IsAllowed node t other
    × (route ≢ other)

-- all allowed routes of the train reach the operation alike, and two go on differently from there
pub record IsFork (node : Node) (o : Op) : Type 0 where
  pub front : List ℕ
  pub alike : (route : List ℕ) → IsAllowed node o.train route → (rest : List ℕ)
      × (route ≡ front ++ o.op ∷ rest)
  pub one : List ℕ
  pub other : List ℕ
  pub one_allowed : IsAllowed node o.train one
  pub other_allowed : IsAllowed node o.train other
  pub apart : after o.op one ≢ after o.op other

-- the fork of the first train with two allowed routes
pub record IsFirstFork (node : Node) (o : Op) : Type 0 where
  pub fork : IsFork node o
  pub first : (t : ℕ) → t < o.train → HasTwoRoutes node t → ⊥

-- two operations of the plan that do not keep apart
pub record Clash (problem : Problem) (plan : List Event) (a b : Op) : Type 0 where
  pub i : ℕ
  pub j : ℕ
  pub earlier : Event
  pub later : Event
  pub order : i < j
  pub earlier_there : slice_get plan i ≡ Some earlier
  pub later_there : slice_get plan j ≡ Some later
  pub names : (Starts a earlier × Starts b later) ⊎ (Starts b earlier × Starts a later)
  pub not_apart : KeepApart problem plan i earlier j later → ⊥

-- two operations of different trains, the lower train first, that clash and are not decided
pub record IsOpenClash (node : Node) (plan : List Event) (a b : Op) : Type 0 where
  pub trains : a.train < b.train
  pub clash : Clash node.problem plan a b
  pub undecided : Contains node.decisions (First a b) → ⊥
  pub undecided_back : Contains node.decisions (First b a) → ⊥

-- by train, then operation
abbrev pub IsBelow : Op → Op → Type 0
IsBelow a b = (a.train < b.train) ⊎ ((a.train ≡ b.train) × (a.op < b.op))

-- a pair comes no later than another: by its first operation, then its second
abbrev pub IsPairUpTo : Op → Op → Op → Op → Type 0
IsPairUpTo a b c d = IsBelow a c ⊎ ((a ≡ c) × (IsBelow b d ⊎ (b ≡ d)))

-- the first open clash
pub record IsFirstClash (node : Node) (plan : List Event) (a b : Op) : Type 0 where
  pub open_clash : IsOpenClash node plan a b
  pub first : (c d : Op) → IsOpenClash node plan c d → IsPairUpTo a b c d

-- with one route each, the earliest plan has the picked order as its first open clash
pub record PicksOrder (node : Node) (a b : Op) : Type 0 where
  pub plan : List Event
  pub earliest : IsEarliest node plan
  pub not_valid : IsValid node.problem node.fixings plan → ⊥
  pub first_clash : IsFirstClash node plan a b

-- with one route each, the earliest plan is valid
pub record PicksNone (node : Node) : Type 0 where
  pub plan : List Event
  pub earliest : IsEarliest node plan
  pub valid : IsValid node.problem node.fixings plan

-- the choice that the fixed rule picks at a node that is not dead: the fork of the first train with
-- two allowed routes; else the first undecided pair that does not keep apart in the earliest plan;
-- none where that plan is valid (this project)
abbrev pub IsFixedPick : Node → Option Choice → Type 0
IsFixedPick node (Some (Route o)) = IsFirstFork node o
IsFixedPick node (Some (Order a b)) = PicksOrder node a b
IsFixedPick node (Some (Run o)) = ⊥
IsFixedPick node None = PicksNone node

-- the choice that is picked: under the free rule any that is open, where the earliest plan is not
-- valid (this project)
abbrev pub IsPicked : Node → Rule → Option Choice → Type 0
IsPicked node Fixed choice = IsFixedPick node choice
IsPicked node Free None = PicksNone node
IsPicked node Free (Some choice) = IsOpen node choice × (PicksNone node → ⊥)
