use Rattle.std.proofs.Common.{length, ap, sym, subst}
use Rattle.disp_model.specs.declared.problem.Problem.{Problem}
use Rattle.disp_model.specs.Node.{Node, node_at}
use Rattle.disp_model.specs.Earliest.{IsEarliest}
use Rattle.plan_builder.specs.Shown.{AreOnlyRoutes, ShowsNode}
use Rattle.branch_rules.proofs.Picking.{each_alone, only_routes_are, where_some, where_none}
use Rattle.branch_rules.proofs.Shown.{shows}
use Rattle.branch_rules.proofs.pick.pick_by_routes.Goals as goal

pub unreachable-requires : goal.unreachable-requires
unreachable-requires c =
    let node = c.args.graph.now in
    let count = length c.args.problem.now.trains in
    each_alone node count (ap (λ (p : Problem). length p.trains) (sym c.requires.problem)) c.requires.alive c.requires.alone
    (where_none node count c.in_ok-singles.field-0 (λ s. s.items) c.in_ok-singles.ensures.only c.in_default.not-Some)

pub pick_by_plan-requires-clause-earliest : goal.pick_by_plan-requires-clause-earliest
pick_by_plan-requires-clause-earliest c =
    let node = c.args.graph.now in
    let count = length c.args.problem.now.trains in
    let some = where_some node count c.in_ok-singles.field-0 c.in-Some.singles (λ s. s.items) c.in_ok-singles.ensures.only c.in-Some.is in
    let only : AreOnlyRoutes node c.deref.result.now = rw c.deref.ensures.value (only_routes_are node count c.in-Some.singles.items (ap (λ (p : Problem). length p.trains) (sym c.requires.problem)) some) in
    subst (λ (n : Node). AreOnlyRoutes n c.deref.result.now → ShowsNode n c.paths.result.now → IsEarliest n c.in_ok-plan.plan) (ap (λ (p : Problem). node_at p node.fixings node.decisions) (sym c.requires.problem))
    (c.in_ok-plan.ensures node.fixings node.decisions) only (shows node c.paths.result.now c.paths.ensures.arcs c.paths.ensures.lowers c.paths.ensures.no_cycle)
