-- What is known of the allowed routes of a train.
use Rattle.std.specs.Prelude.{◌≡◌, ◌↔◌, ℕ, ◌<◌, List, ◌∷◌, length, Contains, false, slice_index, slice_index_or, IsTrue, Bool}
use Rattle.std.specs.Option.{option_map_or}
use Rattle.disp_model.specs.declared.train.Op.{Op}
use Rattle.disp_model.specs.declared.train.Operation.{Operation}
use Rattle.disp_model.specs.Train.{IsEntry}
use Rattle.disp_model.specs.Valid.{train_at}
use Rattle.disp_model.specs.Node.{Node}
use Rattle.disp_model.specs.Routes.{IsForced}
use Rattle.disp_model.specs.Arcs.{GoesTo}
use Rattle.train_orders.specs.Orders.{IsOrder}
use Rattle.node_facts.specs.declared.demands.Demand.{Demand}
use Rattle.node_facts.specs.declared.train.TrainKnowledge.{TrainKnowledge}
use Rattle.node_facts.specs.Demands.{AreDemands}
use Rattle.node_facts.specs.Ways.{IsWay, AreSums}
use Rattle.node_facts.specs.Holders.{AreHolders}
use Rattle.route_marks.specs.Marks.{ArePlaces, sum_at}

-- an operation of a train
abbrev pub op_numbered : ℕ → ℕ → Op
op_numbered t o = record { train = t; op = o }

-- each way from the entry has the operation
abbrev pub IsOnEachRoute : List Operation → List ℕ → List Demand → ℕ → ℕ → Type 0
IsOnEachRoute train places demands e o = (rest : List ℕ) → IsWay train places demands e rest
    → Contains (e ∷ rest) o

-- which operations are on each way from the entry
abbrev pub AreOnEach : List Operation → List ℕ → List Demand → ℕ → List Bool → Type 0
AreOnEach train places demands e marks = (o : ℕ) → IsTrue (slice_index_or marks o false)
    ↔ ((o < length train) × IsOnEachRoute train places demands e o)

-- what is kept of a train is so of its allowed routes at the node
pub record IsKnown (node : Node) (t : ℕ) (known : TrainKnowledge) : Type 0 where
  pub there : t < length node.problem.trains
  pub order_is : IsOrder (train_at node.problem t) known.order.items
  pub places_are : ArePlaces (train_at node.problem t) known.order.items known.places.items
  pub demands_are : AreDemands t node.fixings node.decisions known.demands.items
  pub entry_is : IsEntry (train_at node.problem t) known.entry
  pub sums_long : length known.sums.items ≡ length (train_at node.problem t)
  pub sums_are : AreSums (train_at node.problem t) known.places.items known.demands.items
      known.sums.items
  pub needed_are : AreOnEach (train_at node.problem t) known.places.items known.demands.items
      known.entry known.needed.items
  pub holders_are : AreHolders (train_at node.problem t) known.places.items known.demands.items
      known.sums.items known.needed.items known.holders.items

-- 1 where no route of a train is allowed, else 0
abbrev pub without_route : TrainKnowledge → ℕ
without_route known = option_map_or (λ n. 0) (sum_at known.sums.items known.entry) 1

-- the forced operation from which each allowed route goes on to another
pub record IsHolder (node : Node) (t o h : ℕ) : Type 0 where
  pub forced : IsForced node (op_numbered t h)
  pub goes : GoesTo node (op_numbered t h) (op_numbered t o)

-- the second operation stands nearer to the exit
abbrev pub IsNearer : List ℕ → ℕ → ℕ → Type 0
IsNearer places a b = slice_index places b < slice_index places a
