use Rattle.std.proofs.Common.{List, ℕ, refl, sym, subst, arith}
use Rattle.disp_model.specs.Node.{node_at}
use Rattle.disp_model.specs.Valid.{train_at}
use Rattle.train_orders.specs.Orders.{IsOrder}
use Rattle.route_sets.proofs.Answering.{train_fits}
use Rattle.event_arcs.proofs.Joining.{order_within, leads_as_before}
use Rattle.event_arcs.proofs.Offsets.{first_small, kept_order}
use Rattle.event_arcs.proofs.chains.add_chain_anew.Goals as goal

pub chain-requires : goal.chain-requires
chain-requires c k d lt =
    let problem = c.args.problem.now in
    let t = c.args.train in
    let is = c.requires.placed.2 in
    let node = node_at problem c.requires.placed.0 c.requires.placed.1 in
    let order = subst (λ (l : List ℕ). IsOrder (train_at problem t) l) (sym c.order-order.ensures) (kept_order node t c.args.placed.now is) in
    omega (arith, order_within (train_at problem t) c.order-order.result.now k d order lt, train_fits problem t c.requires.there, first_small node t c.args.placed.now c.requires.there is)

pub returns : goal.returns
returns c = λ fixings before decisions given was arcs is.
    let problem = c.args.problem.now in
    let t = c.args.train in
    let order = subst (λ (l : List ℕ). IsOrder (train_at problem t) l) (sym c.order-order.ensures) (kept_order (node_at problem fixings decisions) t c.args.placed.now is) in
    c.chain.ensures _ t given (leads_as_before (node_at problem fixings before) (node_at problem fixings decisions) t c.args.old.now.routes given refl was.are_routes arcs)
    (record { there = c.requires.there; are_routes = is.are_routes; is_order = order; first_is = is.first_is })
