use Rattle.std.proofs.Common.{arith}
use Rattle.train_orders.proofs.Searching.{ends}
use Rattle.train_orders.proofs.order.order_of.Goals as goal

pub returns : goal.returns
returns c =
    let search = c.loop-start.search in
    ends c.args.train.now search.opened.items search.passed.items search.path.items search.order.items c.loop-start.invariant.0 c.loop-start.invariant.1 (λ o lt. c.loop-start.invariant.2 o (omega (arith, lt, c.loop-start-test.false)))
