use Rattle.std.proofs.Common.{◌+◌, arith}
use Rattle.event_windows.specs.Operations.{IsAtNumber}
use Rattle.event_windows.proofs.Numbering.{first_is, number_is, number_below}
use Rattle.event_windows.proofs.numbers.number.Goals as goal

found : (c : goal.Then-op-len) → IsAtNumber c.args.problem.now (record { train = c.args.train; op = c.args.op }) (c.in_ok-first.field-0.now + c.args.op)
found c =
    let first = c.in_ok-first.ensures.lookup in
    let train = c.in_ok-operations.ensures.lookup in
    number_is c.args.problem.now c.as_slice.result.now c.args.train c.args.op c.in_ok-first.field-0.now c.in_ok-operations.operations.now c.as_slice.ensures train.3.0 train.1 (omega (arith, c.if-op-len.true, c.len.ensures))
    (first_is c.args.problem.now c.args.firsts.now c.args.train c.in_ok-first.field-0.now c.requires first.3.0 first.1)

pub returns-then-op-len : goal.returns-then-op-len
returns-then-op-len c = found c

pub overflow_add-result : goal.overflow_add-result
overflow_add-result c = omega (arith, number_below c.args.problem.now (record { train = c.args.train; op = c.args.op }) (c.in_ok-first.field-0.now + c.args.op) (found c), c.args.problem.now.well_formed.operations_fit)
