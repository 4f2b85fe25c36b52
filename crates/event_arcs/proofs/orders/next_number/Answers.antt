use Rattle.std.proofs.Common.{arith}
use Rattle.event_arcs.proofs.Deciding.{next_none, next_some, next_fits}
use Rattle.event_arcs.proofs.orders.next_number.Goals as goal

pub overflow_add-result : goal.overflow_add-result
overflow_add-result c =
    let node = c.requires.0 in
    omega (arith, next_fits node c.args.op c.args.placed.now c.only_next.result c.in-Some.next c.requires.1 (c.only_next.ensures node c.args.op.train c.requires.1.are_routes) c.in-Some.is)

pub returns-in-Some : goal.returns-in-Some
returns-in-Some c = λ node is forced. next_some node c.args.op c.args.placed.now c.only_next.result c.in-Some.next is forced (c.only_next.ensures node c.args.op.train is.are_routes) c.in-Some.is

pub returns-in-None : goal.returns-in-None
returns-in-None c = λ node is forced. next_none node c.args.op c.only_next.result forced (c.only_next.ensures node c.args.op.train is.are_routes) c.in-None.is
