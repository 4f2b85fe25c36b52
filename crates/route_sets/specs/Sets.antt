-- What is known of the allowed routes of a train.
use Rattle.std.specs.Prelude.{◌≡◌, ◌↔◌, ℕ, zero, suc, ◌-◌, ◌<◌, ◌≤◌, ◌==◌, List, [], ◌∷◌, length, Contains, Option, Some, None, IsSome, option_map, IsTrue, MatchOption, if◌then◌else◌}
use Rattle.disp_model.specs.declared.train.Op.{Op}
use Rattle.disp_model.specs.Node.{Node}
use Rattle.disp_model.specs.Train.{IsExit}
use Rattle.disp_model.specs.Valid.{train_at}
use Rattle.disp_model.specs.Routes.{IsAllowed, HasRoute, HasOneRoute, IsForced}
use Rattle.disp_model.specs.Arcs.{IsTrainArc, GoesTo}
use Rattle.train_orders.specs.Orders.{IsOrder}
use Rattle.route_marks.specs.declared.marks.Mark.{Mark}
use Rattle.route_sets.specs.declared.routes.Routes.{Routes}
use Rattle.route_marks.specs.Ways.{IsRowWalk, last_of}
use Rattle.route_marks.specs.Marks.{IsLaid, mark_at, sum_at}

-- an operation of a train
abbrev pub op_of_train : ℕ → ℕ → Op
op_of_train t o = record { train = t; op = o }

-- the mark of a forced operation has what each allowed route goes on to from it
pub record IsMarkOf (node : Node) (t o : ℕ) (mark : Mark) : Type 0 where
  pub forced : IsForced node (op_of_train t o)
  pub next : (s : ℕ) → (mark.next ≡ Some s) ↔ GoesTo node (op_of_train t o) (op_of_train t s)

-- the marks of forced operations have least sums, and places that fall along the routes
pub record AreMarksInOrder (node : Node) (t : ℕ) (a b : ℕ) (from to : Mark) : Type 0 where
  pub arc : to.place < from.place → IsTrainArc node (op_of_train t a) (op_of_train t b)
      (to.sum - from.sum)
  pub none : from.place ≤ to.place → (sum : ℕ)
      → IsTrainArc node (op_of_train t a) (op_of_train t b) sum → ⊥

-- the operation that a mark names as the one that comes next, and what follows it
abbrev pub next_followed : ℕ → Option ℕ → (ℕ → Option (List ℕ)) → Option (List ℕ)
next_followed o None onward = None
next_followed o (Some s) onward = option_map (λ rest. o ∷ rest) (onward s)

-- a marked operation, and what follows it up to the exit
abbrev pub mark_followed : ℕ → Option Mark → (ℕ → Option (List ℕ)) → Option (List ℕ)
mark_followed o None onward = None
mark_followed o (Some mark) onward = if mark.place == 0 then Some (o ∷ [])
    else next_followed o mark.next onward

-- from an operation on, each time to the one that comes next, to the exit in so many steps at most
abbrev pub follow : List (Option Mark) → ℕ → ℕ → Option (List ℕ)
follow marks zero o = None
follow marks (suc steps) o = mark_followed o (mark_at marks o) (λ s. follow marks steps s)

-- an operation itself, where its mark names none that comes next and it is not at place 0, that of
-- the exit; else what is found from the next one on
abbrev pub next_parted : ℕ → ℕ → Option ℕ → (ℕ → Option ℕ) → Option ℕ
next_parted o place None onward = if place == 0 then None else Some o
next_parted o place (Some s) onward = onward s

abbrev pub mark_parted : ℕ → Option Mark → (ℕ → Option ℕ) → Option ℕ
mark_parted o None onward = None
mark_parted o (Some mark) onward = next_parted o mark.place mark.next onward

-- from an operation on, each time to the one that comes next, where the marks first name none, in
-- so many steps at most
abbrev pub parting : List (Option Mark) → ℕ → ℕ → Option ℕ
parting marks zero o = None
parting marks (suc steps) o = mark_parted o (mark_at marks o) (λ s. parting marks steps s)

-- each allowed route begins with the operation
abbrev pub BeginsEach : Node → ℕ → ℕ → Type 0
BeginsEach node t e = (route : List ℕ) → IsAllowed node t route → (rest : List ℕ)
    × (route ≡ e ∷ rest)

-- rows of an order of a train's operations: the walks along them from the last operation of the
-- order on are the allowed routes
pub record AreAllowedRows (node : Node) (t : ℕ) (order : List ℕ) (rows : List (List ℕ))
    : Type 0 where
  pub laid : IsLaid (train_at node.problem t) order rows
  pub walk : (route : List ℕ) → IsAllowed node t route → IsRowWalk order rows (last_of order) route
  pub route : (route : List ℕ) → IsRowWalk order rows (last_of order) route → IsAllowed node t route

-- some allowed route has the operation
abbrev pub IsOnSome : Node → ℕ → ℕ → Type 0
IsOnSome node t o = (route : List ℕ) × IsAllowed node t route × Contains route o

-- what is kept of a train's routes says which are allowed at the node
pub record AreRoutesOf (node : Node) (t : ℕ) (routes : Routes) : Type 0 where
  pub left : IsTrue routes.left ↔ HasRoute node t
  pub sums : (o : ℕ) → IsSome (sum_at routes.sums.items o) ↔ IsOnSome node t o
  pub marks : (o : ℕ) → MatchOption (mark_at routes.marks.items o)
      (IsForced node (op_of_train t o) → ⊥) (IsMarkOf node t o)
  pub ordered : (a b : ℕ) (from to : Mark) → mark_at routes.marks.items a ≡ Some from
      → mark_at routes.marks.items b ≡ Some to → AreMarksInOrder node t a b from to
  pub begins : BeginsEach node t routes.entry
  pub ends : (o : ℕ) (mark : Mark) → mark_at routes.marks.items o ≡ Some mark → (mark.place ≡ 0)
      ↔ IsExit (train_at node.problem t) o
  pub short : (o : ℕ) (mark : Mark) → mark_at routes.marks.items o ≡ Some mark
      → mark.place < length routes.marks.items
  pub allowed : IsTrue routes.left → AreAllowedRows node t routes.order.items routes.rows
  pub is_order : IsTrue routes.left → IsOrder (train_at node.problem t) routes.order.items

-- the one route that is allowed, or that there is no such one
abbrev pub IsOnlyRoute : Node → ℕ → Option (List ℕ) → Type 0
IsOnlyRoute node t (Some route) = HasOneRoute node t route
IsOnlyRoute node t None = (route : List ℕ) → HasOneRoute node t route → ⊥

-- where routes are allowed, none of them parts from another only where one alone is allowed
abbrev pub IsAloneUnparted : Node → ℕ → Option ℕ → Type 0
IsAloneUnparted node t fork = fork ≡ None → HasRoute node t → (route : List ℕ)
    × HasOneRoute node t route
