use Rattle.std.proofs.Common.{◌∙◌, List, ℕ, sym, subst}
use Rattle.disp_model.specs.declared.problem.Problem.{Problem}
use Rattle.disp_model.specs.Valid.{train_at}
use Rattle.train_orders.specs.Orders.{IsOrder}
use Rattle.route_sets.proofs.routes.Routes.others.Goals as goal

pub routes_by-requires-clause-order : goal.routes_by-requires-clause-order
routes_by-requires-clause-order c =
    let routes = c.requires.routes in
    let kept = routes.2.is_order (routes.2.left.1 routes.3) in
    let copied = c.in_ok-order.ensures.items ∙ c.deref.ensures.value in
    subst (λ (p : Problem). IsOrder (train_at p c.args.train) c.in_ok-order.order.items) routes.1
    (subst (λ (l : List ℕ). IsOrder (train_at routes.0.problem c.args.train) l) (sym copied) kept)
