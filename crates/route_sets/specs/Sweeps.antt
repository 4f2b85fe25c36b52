-- Ways from an operation to the exit that have what is asked of the operations so far, in an order.
use Rattle.std.specs.Prelude.{◌≡◌, ◌↔◌, ℕ, ◌+◌, ◌<◌, ◌≤◌, true, false, List, [], ◌∷◌, length, take, Contains, Option, Some, None, slice_get, IfSome, IsTrue, if◌then◌else◌}
use Rattle.disp_model.specs.declared.train.Operation.{Operation}
use Rattle.disp_model.specs.Train.{IsSuccessor, GoesOn}
use Rattle.route_sets.specs.declared.asks.Ask.{Ask}
use Rattle.route_sets.specs.declared.sweep.Swept.{Swept}
use Rattle.route_sets.specs.Asks.{ask_at}

-- a route may go on from the operation to the other, by what is asked of the operation
pub record AskMayGo (ask : Ask) (s : ℕ) : Type 0 where
  pub stays : ask.skipped ≡ false
  pub next : IfSome ask.next (λ n. n ≡ s)

-- a route may end there, by what is asked of the operation
pub record MayEnd (ask : Ask) : Type 0 where
  pub stays : ask.skipped ≡ false
  pub next : ask.next ≡ None

abbrev pub IsWantedAsk : List Ask → ℕ → Type 0
IsWantedAsk asks q = (ask_at asks q).wanted ≡ true

-- each operation of the way goes on as it is asked
abbrev pub KeepsAsks : List Ask → ℕ → List ℕ → Type 0
KeepsAsks asks o [] = MayEnd (ask_at asks o)
KeepsAsks asks o (s ∷ rest) = AskMayGo (ask_at asks o) s × KeepsAsks asks s rest

-- the way goes from the operation to the exit, as asked, and has all wanted of the operations so
-- far
pub record IsWayLeft (train : List Operation) (asks : List Ask) (done : List ℕ) (o : ℕ)
    (rest : List ℕ) : Type 0 where
  pub goes : GoesOn train o rest
  pub keeps : KeepsAsks asks o rest
  pub wanted : (q : ℕ) → Contains done q → IsWantedAsk asks q → Contains (o ∷ rest) q

abbrev pub HasWay : List Operation → List Ask → List ℕ → ℕ → Type 0
HasWay train asks done o = (rest : List ℕ) × IsWayLeft train asks done o rest

-- what is held of the operations so far: how many are wanted of them, and which of them have a way
-- with all of those
pub record IsHeld (train : List Operation) (asks : List Ask) (done : List ℕ)
    (held : List (Option ℕ)) (count : ℕ) : Type 0 where
  pub long : length held ≡ length train
  pub fits : count ≤ length done
  pub some : 0 < count → (q : ℕ) × Contains done q × IsWantedAsk asks q
  pub none : count ≡ 0 → (q : ℕ) → Contains done q → (ask_at asks q).wanted ≡ false
  pub at_most : (o k : ℕ) → slice_get held o ≡ Some (Some k) → k ≤ count
  pub sound : (o : ℕ) → slice_get held o ≡ Some (Some count) → Contains done o
      × HasWay train asks done o
  pub complete : (o : ℕ) → Contains done o → HasWay train asks done o
      → slice_get held o ≡ Some (Some count)

-- how many operations are wanted with one more
abbrev pub counted : Ask → ℕ → ℕ
counted ask count = if ask.wanted then count + 1 else count

-- the operation is the exit, a route may end there, and nothing is wanted so far
pub record CanEnd (operation : Operation) (ask : Ask) (count : ℕ) : Type 0 where
  pub last : operation.next ≡ []
  pub may : MayEnd ask
  pub none : count ≡ 0

-- the operation may go on to the other, which has a way of so many wanted operations
pub record IsKept (ask : Ask) (held : List (Option ℕ)) (count s : ℕ) : Type 0 where
  pub may : AskMayGo ask s
  pub holds : slice_get held s ≡ Some (Some count)

-- the successors that an operation goes on to on ways with all that is wanted of the operations
-- before it in the order
abbrev pub IsRow : List Operation → List Ask → List ℕ → ℕ → List ℕ → Type 0
IsRow train asks before o row = (s : ℕ) → Contains row s
    ↔ (IsSuccessor train o s × AskMayGo (ask_at asks o) s × HasWay train asks before s)

-- such a row of each operation, in the order
pub record AreRows (train : List Operation) (asks : List Ask) (order : List ℕ) (count : ℕ)
    (rows : List (List ℕ)) : Type 0 where
  pub long : length rows ≡ count
  pub each : (k o : ℕ) (row : List ℕ) → slice_get order k ≡ Some o → slice_get rows k ≡ Some row
      → IsRow train asks (take k order) o row

-- the rows of all operations, and whether the last of the order has a way with all that is wanted
pub record IsSwept (train : List Operation) (asks : List Ask) (order : List ℕ) (swept : Swept)
    : Type 0 where
  pub rows : AreRows train asks order (length order) swept.rows
  pub last : (k e : ℕ) → length order ≡ k + 1 → slice_get order k ≡ Some e → IsTrue swept.holds
      ↔ HasWay train asks order e
