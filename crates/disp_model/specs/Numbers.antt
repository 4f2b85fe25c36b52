-- Numbers for the operations of a problem.
use Rattle.std.specs.Prelude.{ℕ, ◌+◌, take, length, sum_by}
use Rattle.disp_model.specs.declared.train.Op.{Op}
use Rattle.disp_model.specs.declared.problem.Problem.{Problem}

-- an operation's number, counted from 0 over all trains in order
abbrev pub number_of : Problem → Op → ℕ
number_of problem o = sum_by (λ train. length train) (take o.train problem.trains) + o.op
