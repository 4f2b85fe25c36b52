-- Walks along arcs, their lengths, and cycles.
use Rattle.std.specs.Prelude.{◌≡◌, ◌≢◌, ℕ, ◌+◌, ◌<◌, ◌≤◌, ◌==◌, ◌&&◌, max, List, [], ◌∷◌, ◌++◌, Option, Some, None, slice_get, unwrap_or, if◌then◌else◌}
use Rattle.std.specs.Option.{option_map_or}
use Rattle.disp_model.specs.declared.train.Op.{Op}
use Rattle.disp_model.specs.declared.fixing.Fixing.{Fixing}
use Rattle.disp_model.specs.declared.fixing.Fixing.TheVariants.{Started, Chosen, NotBefore}
use Rattle.disp_model.specs.declared.problem.Problem.{Problem}
use Rattle.disp_model.specs.Valid.{train_at}
use Rattle.disp_model.specs.Node.{Node}
use Rattle.disp_model.specs.Routes.{IsForced}
use Rattle.disp_model.specs.Arcs.{HasArc, IsLongestArc}

-- the time to which an operation is fixed, if it is
abbrev pub fixed_start : List Fixing → Op → Option ℕ
fixed_start [] o = None
fixed_start (Started t p time ∷ fixings) o = if (t == o.train) && (p == o.op) then Some time
    else fixed_start fixings o
fixed_start (Chosen t p next ∷ fixings) o = fixed_start fixings o
fixed_start (NotBefore t p time ∷ fixings) o = fixed_start fixings o

-- the greatest time before which an operation is fixed not to start, or 0
abbrev pub not_before : List Fixing → Op → ℕ
not_before [] o = 0
not_before (Started t p time ∷ fixings) o = not_before fixings o
not_before (Chosen t p next ∷ fixings) o = not_before fixings o
not_before (NotBefore t p time ∷ fixings) o = if (t == o.train) && (p == o.op)
    then max time (not_before fixings o) else not_before fixings o

-- from when an operation may start: the time to which it is fixed; else its lower, or a later time
-- before which it is not to start (format; fixings are this project's)
abbrev pub lower_of : Problem → List Fixing → Op → ℕ
lower_of problem fixings o = unwrap_or (fixed_start fixings o)
    (max (option_map_or (λ p. p.lower) (slice_get (train_at problem o.train) o.op) 0)
    (not_before fixings o))

-- until when it may start, if there is such a time
abbrev pub upper_of : Problem → List Fixing → Op → Option ℕ
upper_of problem fixings o = option_map_or Some (fixed_start fixings o)
    (option_map_or (λ p. p.upper) (slice_get (train_at problem o.train) o.op) None)

-- from u on, where so much has been walked, along the longest arcs to these operations
abbrev pub WalksOn : Node → Op → ℕ → List Op → ℕ → Type 0
WalksOn node u walked [] total = walked ≡ total
WalksOn node u walked (v ∷ rest) total =
    (arc_length : ℕ) × IsLongestArc node u v arc_length
    × WalksOn node v (walked + arc_length) rest total

-- a walk of a length: the lower of the first, and the longest arc of each step (2002 paper)
abbrev pub IsWalk : Node → List Op → ℕ → Type 0
IsWalk node [] total = ⊥
IsWalk node (u ∷ rest) total =
    IsForced node u × WalksOn node u (lower_of node.problem node.fixings u) rest total

-- the walk ends there
abbrev pub EndsIn : List Op → Op → Type 0
EndsIn walk o = (front : List Op) × (walk ≡ front ++ o ∷ [])

-- no operation stands twice
abbrev pub HasNoRepeat : List Op → Type 0
HasNoRepeat walk = (i j : ℕ) (o : Op) → i < j → slice_get walk i ≡ Some o
    → slice_get walk j ≢ Some o

-- the greatest length of a walk that ends there and has no operation twice: there is such a walk,
-- and none is longer
pub record IsLongest (node : Node) (o : Op) (total : ℕ) : Type 0 where
  pub reached : (walk : List Op) × EndsIn walk o × HasNoRepeat walk × IsWalk node walk total
  pub none_longer : (walk : List Op) (other : ℕ) → EndsIn walk o → HasNoRepeat walk
      → IsWalk node walk other → other ≤ total

-- an arc from each to the next, and from the last to the first
abbrev pub ClosesTo : Node → Op → Op → List Op → Type 0
ClosesTo node first u [] = HasArc node u first
ClosesTo node first u (v ∷ rest) = HasArc node u v × ClosesTo node first v rest

-- a cycle of at least two operations (here of any length, zero too; in the 2002 paper of a positive
-- one)
abbrev pub IsCycle : Node → List Op → Type 0
IsCycle node [] = ⊥
IsCycle node (u ∷ []) = ⊥
IsCycle node (u ∷ v ∷ rest) = ClosesTo node u u (v ∷ rest)

abbrev pub HasCycle : Node → Type 0
HasCycle node = (nodes : List Op) × IsCycle node nodes
