use Rattle.disp_model.specs.Node.{node_at}
use Rattle.disp_model.specs.Trees.{WalkCosts, WalksCost}
use Rattle.node_facts.proofs.AddedUp.{none_added_up, added_up_more, no_sum}
use Rattle.node_facts.proofs.Pricing.{walks_are_sums, summed_up}
use Rattle.node_facts.proofs.costs.walks_cost.Goals as goal

pub loop-listed-init : goal.loop-listed-init
loop-listed-init c = none_added_up (WalksCost (node_at c.args.problem.now c.args.fixings.now c.args.decisions.now)) c.args.walks.now

pub returns-in-None : goal.returns-in-None
returns-in-None c =
    let node = node_at c.args.problem.now c.args.fixings.now c.args.decisions.now in
    no_sum (WalkCosts node) (WalksCost node) c.args.walks.now c.loop-listed.listed-index c.loop-listed.total c.listed-item.result (walks_are_sums node) c.loop-listed-test.true c.listed-item.is c.loop-listed.invariant c.in-None.ensures

pub loop-listed-preserved : goal.loop-listed-preserved
loop-listed-preserved c =
    let node = node_at c.args.problem.now c.args.fixings.now c.args.decisions.now in
    let is = c.in-Some.ensures in
    added_up_more (WalkCosts node) (WalksCost node) c.args.walks.now c.loop-listed.listed-index c.loop-listed.total c.listed-item.result is.cost c.in-Some.cost c.saturating_add-total.result (walks_are_sums node) c.loop-listed-test.true c.listed-item.is
    c.loop-listed.invariant is.costs is.found_is c.saturating_add-total.ensures

pub returns : goal.returns
returns c = summed_up (node_at c.args.problem.now c.args.fixings.now c.args.decisions.now) c.args.walks.now c.loop-listed.listed-index c.loop-listed.total c.loop-listed-test.false c.loop-listed.invariant
