use Rattle.std.proofs.Common.{◌≡◌, List, sym, subst}
use Rattle.disp_model.specs.declared.train.Operation.{Operation}
use Rattle.disp_model.specs.Valid.{train_at}
use Rattle.train_orders.specs.Orders.{IsOrder}
use Rattle.route_sets.proofs.Answering.{train_read, is_inside}
use Rattle.route_sets.proofs.routes.Routes.of.Goals as goal

pub order_of-requires-clause-inside : goal.order_of-requires-clause-inside
order_of-requires-clause-inside c =
    let operations = c.as_slice-operations.result.now in
    let e : train_at c.args.problem.now c.args.train ≡ operations = train_read c.args.problem.now.trains c.as_slice.result.now c.args.train c.index-as_slice-train.result operations c.as_slice.ensures c.index-as_slice-train.is c.as_slice-operations.ensures c.requires in
    is_inside c.args.problem.now c.args.train operations e c.requires

pub routes_by-requires-clause-order : goal.routes_by-requires-clause-order
routes_by-requires-clause-order c =
    let operations = c.as_slice-operations.result.now in
    let e : train_at c.args.problem.now c.args.train ≡ operations = train_read c.args.problem.now.trains c.as_slice.result.now c.args.train c.index-as_slice-train.result operations c.as_slice.ensures c.index-as_slice-train.is c.as_slice-operations.ensures c.requires in
    subst (λ (l : List Operation). IsOrder l c.in_ok-order.order.items) (sym e) c.in_ok-order.ensures
