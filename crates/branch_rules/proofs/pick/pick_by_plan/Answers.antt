use Rattle.std.proofs.Common.{sym, subst}
use Rattle.std.specs.Prelude.{MatchOption}
use Rattle.disp_model.specs.declared.problem.Problem.{Problem}
use Rattle.disp_model.specs.Node.{Node}
use Rattle.disp_model.specs.Earliest.{IsEarliest, IsFixedPick}
use Rattle.branch_rules.specs.Pairs.{IsFirstPair, NoneClash}
use Rattle.branch_rules.specs.Behind.{AreOfTrains}
use Rattle.branch_rules.proofs.Picking.{rises, of_trains, order_is_picked}
use Rattle.branch_rules.proofs.pick.pick_by_plan.Goals as goal
use Rattle.branch_rules.proofs.pick.pick_by_plan.Goals.{After-order_of}

pub first_clash-requires-clause-rise : goal.first_clash-requires-clause-rise
first_clash-requires-clause-rise c = rw c.as_slice.ensures (rises c.args.graph.now c.args.plan c.requires.earliest)

pub first_clash-requires-clause-trains : goal.first_clash-requires-clause-trains
first_clash-requires-clause-trains c = rw c.as_slice.ensures (subst (λ (p : Problem). AreOfTrains p c.args.plan) c.requires.problem (of_trains c.args.graph.now c.args.plan c.requires.earliest))

node_of : (c : After-order_of) → Node
node_of c = c.args.graph.now

picked : (c : After-order_of) → IsFixedPick (node_of c) c.order_of.result
unfolding node_of
picked c =
    let node = c.args.graph.now in
    let plan = c.as_slice.result.now in
    let earliest : IsEarliest node plan = rw c.as_slice.ensures c.requires.earliest in
    let found = c.in_ok-first_clash.field-0 in
    let clash = subst (λ (p : Problem). MatchOption found (NoneClash p plan) (IsFirstPair p plan)) (sym c.requires.problem) c.in_ok-first_clash.ensures in
    let edition = c.paths-paths.ensures.edition in
    order_is_picked node edition.0 plan found c.order_of.result edition.1 edition.2 c.requires.alive earliest clash c.order_of.ensures

pub returns-in-Some : goal.returns-in-Some
unfolding node_of
returns-in-Some c = subst (IsFixedPick c.args.graph.now) c.in-Some.is (picked ((goal.at.returns-in-Some c).After-order_of))

pub returns-in-None : goal.returns-in-None
unfolding node_of
returns-in-None c =
    let d = (goal.at.returns-in-None c).After-order_of in
    (subst (IsFixedPick c.args.graph.now) c.in-None.is (picked d), c.requires.earliest)
