use Rattle.std.proofs.Common.{◌≡◌, ◌∙◌, ℕ, List, Option, sym, ap, subst, arith}
use Rattle.disp_model.specs.declared.train.Operation.{Operation}
use Rattle.disp_model.specs.Node.{node_at}
use Rattle.disp_model.specs.Train.{IsEntry}
use Rattle.train_orders.specs.Orders.{IsOrder}
use Rattle.route_marks.specs.Marks.{ArePlaces, sum_at}
use Rattle.node_facts.proofs.Assembling.{is_inside}
use Rattle.problem_facts.specs.Prices.{own_price}
use Rattle.tree_checker.specs.TrainCosts.{base_by, reach_by, IsLeastCost, AreCosts}
use Rattle.tree_checker.proofs.Owned.{own_costs}
use Rattle.tree_checker.proofs.Shown.{least_cost_of, known_fits}
use Rattle.tree_checker.proofs.shares.least_cost.Goals as goal

pub entered_of-requires-clause-inside : goal.entered_of-requires-clause-inside
entered_of-requires-clause-inside c = is_inside c.args.problem.now c.args.train c.train_of-operations.result.now (sym c.train_of-operations.ensures) c.requires.known.2.there

pub entered_of-requires-clause-order : goal.entered_of-requires-clause-order
entered_of-requires-clause-order c = subst (λ (l : List Operation). IsOrder l c.args.known.now.order.items) (sym c.train_of-operations.ensures) c.requires.known.2.order_is

pub entered_of-requires-clause-places : goal.entered_of-requires-clause-places
entered_of-requires-clause-places c = subst (λ (l : List Operation). ArePlaces l c.args.known.now.order.items c.args.known.now.places.items) (sym c.train_of-operations.ensures) c.requires.known.2.places_are

pub entered_of-requires-clause-fits : goal.entered_of-requires-clause-fits
entered_of-requires-clause-fits c = known_fits c.args.problem.now c.requires.known.0 c.requires.known.1 c.args.train c.args.known.now c.train_of-operations.result.now c.requires.known.2 c.train_of-operations.ensures

pub entered_of-requires-clause-entry : goal.entered_of-requires-clause-entry
entered_of-requires-clause-entry c =
    let entry = subst (λ (l : List Operation). IsEntry l c.args.known.now.entry) (sym c.train_of-operations.ensures) c.requires.known.2.entry_is in
    entry.there

pub of_train-components-requires : goal.of_train-components-requires
of_train-components-requires c = omega (arith, c.requires.known.2.there, c.requires.own.long)

pub costs_over-requires : goal.costs_over-requires
costs_over-requires c = subst (λ (l : List Operation). IsOrder l c.args.known.now.order.items) (sym c.train_of-operations.ensures) c.requires.known.2.order_is

pub returns : goal.returns
returns c fixings decisions is =
    let problem = c.args.problem.now in
    let node = node_at problem fixings decisions in
    let t = c.args.train in
    let known = c.args.known.now in
    let bases = c.args.bases.now in
    let operations = c.train_of-operations.result.now in
    let entered = c.in_ok-entered.entered.items in
    let costs = c.in_ok-costs.costs.items in
    let kept : sum_at costs known.entry ≡ c.kept_at.result = sym (c.kept_at.ensures ∙ ap (λ (e : ℕ). sum_at c.as_slice.result.now e) c.entry.ensures ∙ ap (λ (l : List (Option ℕ)). sum_at l known.entry) c.as_slice.ensures.value) in
    let lent = c.of_train-components.ensures ∙ c.requires.own.has t (omega (arith, is.there, c.requires.own.long)) in
    let named = own_costs operations known.places.items known.demands.items problem.components c.of_train-components.result.now t (reach_by c.as_slice-entered.result.now bases) costs lent c.in_ok-costs.ensures in
    let paid = subst (λ (l : List (Option ℕ)). AreCosts operations known.places.items known.demands.items (own_price problem.components t (reach_by l bases)) costs) c.as_slice-entered.ensures.value named in
    subst (IsLeastCost node t (base_by bases)) kept (least_cost_of node t known operations bases entered costs is c.train_of-operations.ensures c.in_ok-entered.ensures paid)
