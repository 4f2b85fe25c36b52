-- What bytes say. Each reader gives what it read and the bytes behind it.
use Rattle.std.specs.Prelude.{ℕ, zero, suc, ◌+◌, ◌-◌, ◌*◌, ◌/◌, ◌%◌, ◌==◌, List, [], ◌∷◌, ◌++◌, length, take, slice_get, Option, Some, None, if◌then◌else◌}
use Rattle.disp_model.specs.declared.train.Op.{Op}
use Rattle.disp_model.specs.declared.tree.ComponentWalk.{ComponentWalk}
use Rattle.disp_model.specs.declared.tree.TrainWalks.{TrainWalks}
use Rattle.disp_model.specs.declared.tree.Leaf.{Leaf}
use Rattle.disp_model.specs.declared.tree.Leaf.TheVariants as leaf
use Rattle.packed_nodes.specs.Reading.{◌>>=◌}

-- a number of two bytes, the lower one first
unfoldable pub long_at : List ℕ → Option (ℕ × List ℕ)
long_at [] = None
long_at (low ∷ []) = None
long_at (low ∷ high ∷ bytes) = Some (low + high * 256, bytes)

-- a number is one byte; behind 255 it has two
unfoldable pub packed_number_at : List ℕ → Option (ℕ × List ℕ)
packed_number_at [] = None
packed_number_at (b ∷ bytes) = if b == 255 then long_at bytes else Some (b, bytes)

unfoldable pub packed_op_at : List ℕ → Option (Op × List ℕ)
packed_op_at bytes = do
  t ← packed_number_at bytes
  o ← packed_number_at t.1
  Some (record { train = t.0; op = o.0 }, o.1)

-- so many of one kind
unfoldable pub packed_items_at : {A : Type 0} → (List ℕ → Option (A × List ℕ)) → ℕ → List ℕ
    → Option (List A × List ℕ)
packed_items_at item zero bytes = Some ([], bytes)
packed_items_at item (suc count) bytes = do
  first ← item bytes
  others ← packed_items_at item count first.1
  Some (first.0 ∷ others.0, others.1)

-- these operations, and so many more
unfoldable pub packed_ops_behind : List Op → ℕ → List ℕ → Option (List Op × List ℕ)
packed_ops_behind shared count bytes = do
  others ← packed_items_at packed_op_at count bytes
  Some (shared ++ others.0, others.1)

-- A walk begins with operations at the front of the walk before it: its number is 16 times how many
-- other operations it lists, and how many it shares, 15 at most.
unfoldable pub packed_walk_at : List Op → List ℕ → Option (List Op × List ℕ)
packed_walk_at front bytes = do
  head ← packed_number_at bytes
  packed_ops_behind (take (head.0 % 16) front) (head.0 / 16) head.1

-- so many of one kind, each with a walk: the first is read behind this walk, and each other behind
-- the walk of the one before it
unfoldable pub packed_items_behind : {A : Type 0} → (A → List Op)
    → (List Op → List ℕ → Option (A × List ℕ)) → List Op → ℕ → List ℕ → Option (List A × List ℕ)
packed_items_behind walk item front zero bytes = Some ([], bytes)
packed_items_behind walk item front (suc count) bytes = do
  first ← item front bytes
  others ← packed_items_behind walk item (walk first.0) count first.1
  Some (first.0 ∷ others.0, others.1)

-- the walk of one of them, if there is one
abbrev pub walk_if_any : {A : Type 0} → (A → List Op) → Option A → List Op
walk_if_any walk None = []
walk_if_any walk (Some x) = walk x

-- the walk behind which the next is read when these were read
abbrev pub last_walk : {A : Type 0} → (A → List Op) → List A → List Op
last_walk walk xs = walk_if_any walk (slice_get xs (length xs - 1))

-- what is listed of a component has this walk
abbrev pub walk_listed : ComponentWalk → List Op
walk_listed listed = listed.walk

-- what is listed of a train are walks
abbrev pub walk_itself : List Op → List Op
walk_itself walk = walk

unfoldable pub component_walk_at : List Op → List ℕ → Option (ComponentWalk × List ℕ)
component_walk_at front bytes = do
  component ← packed_number_at bytes
  walk ← packed_walk_at front component.1
  Some (record { component = component.0; walk = walk.0 }, walk.1)

unfoldable pub component_walks_at : List ℕ → Option (List ComponentWalk × List ℕ)
component_walks_at bytes = do
  count ← packed_number_at bytes
  packed_items_behind walk_listed component_walk_at [] count.0 count.1

unfoldable pub walks_at : List ℕ → Option (List (List Op) × List ℕ)
walks_at bytes = do
  count ← packed_number_at bytes
  packed_items_behind walk_itself packed_walk_at [] count.0 count.1

unfoldable pub packed_train_at : List ℕ → Option (TrainWalks × List ℕ)
packed_train_at bytes = do
  train ← packed_number_at bytes
  walks ← walks_at train.1
  Some (record { train = train.0; walks = walks.0 }, walks.1)

unfoldable pub trains_at : List ℕ → Option (List TrainWalks × List ℕ)
trains_at bytes = do
  count ← packed_number_at bytes
  packed_items_at packed_train_at count.0 count.1

unfoldable pub packed_cycle_at : List ℕ → Option (Leaf × List ℕ)
packed_cycle_at bytes = do
  ops ← packed_walk_at [] bytes
  Some (leaf.Cycle ops.0, ops.1)

unfoldable pub packed_late_at : List ℕ → Option (Leaf × List ℕ)
packed_late_at bytes = do
  walk ← packed_walk_at [] bytes
  Some (leaf.Late walk.0, walk.1)

unfoldable pub packed_costs_at : List ℕ → Option (Leaf × List ℕ)
packed_costs_at bytes = do
  walks ← component_walks_at bytes
  Some (leaf.Costs walks.0, walks.1)

unfoldable pub packed_shares_at : List ℕ → Option (Leaf × List ℕ)
packed_shares_at bytes = do
  walks ← component_walks_at bytes
  trains ← trains_at walks.1
  Some (leaf.Shares walks.0 trains.0, trains.1)

-- a leaf by the number of its kind
unfoldable pub leaf_by : ℕ → List ℕ → Option (Leaf × List ℕ)
leaf_by kind bytes =
    if kind == 1 then packed_cycle_at bytes
    else (if kind == 2 then packed_late_at bytes
    else (if kind == 3 then packed_costs_at bytes else packed_shares_at bytes))

unfoldable pub packed_leaf_at : List ℕ → Option (Leaf × List ℕ)
packed_leaf_at bytes = do
  kind ← packed_number_at bytes
  leaf_by kind.0 kind.1
