-- The operations of a problem, listed by their numbers.
use Rattle.std.specs.Prelude.{◌≡◌, ℕ, ◌<◌, List, length, take, sum_by, Some, slice_get}
use Rattle.disp_model.specs.declared.train.Op.{Op}
use Rattle.disp_model.specs.declared.problem.Problem.{Problem}
use Rattle.disp_model.specs.WellFormed.{operation_count}
use Rattle.disp_model.specs.Numbers.{number_of}
use Rattle.disp_model.specs.Valid.{train_at}

-- the problem has the operation
pub record HasOperation (problem : Problem) (o : Op) : Type 0 where
  pub train : o.train < length problem.trains
  pub op : o.op < length (train_at problem o.train)

-- how many operations the trains before one have
abbrev pub operations_before : Problem → ℕ → ℕ
operations_before problem t = sum_by (λ train. length train) (take t problem.trains)

-- each operation of a number below their count stands at its number
abbrev pub ListsFirst : Problem → List Op → Type 0
ListsFirst problem ops = (o : Op) → HasOperation problem o → number_of problem o < length ops
    → slice_get ops (number_of problem o) ≡ Some o

-- that is the operation's number
pub record IsAtNumber (problem : Problem) (o : Op) (n : ℕ) : Type 0 where
  pub there : HasOperation problem o
  pub number : number_of problem o ≡ n

-- each operation stands at its number, and nothing else does
pub record AreOperationsOf (problem : Problem) (ops : List Op) : Type 0 where
  pub long : length ops ≡ operation_count problem.trains
  pub listed : (o : Op) → HasOperation problem o → slice_get ops (number_of problem o) ≡ Some o
  pub numbered : (n : ℕ) (o : Op) → slice_get ops n ≡ Some o → IsAtNumber problem o n

-- the number of each train's first operation
pub record AreFirstNumbers (problem : Problem) (firsts : List ℕ) : Type 0 where
  pub long : length firsts ≡ length problem.trains
  pub first : (t : ℕ) → t < length problem.trains
      → slice_get firsts t ≡ Some (operations_before problem t)
