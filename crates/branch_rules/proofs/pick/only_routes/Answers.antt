use Rattle.std.proofs.Common.{arith}
use Rattle.branch_rules.proofs.Picking.{one_more_is, only_none, only_some}
use Rattle.branch_rules.proofs.pick.only_routes.Goals as goal

pub returns-in_default-clause-only : goal.returns-in_default-clause-only
returns-in_default-clause-only c =
    (c.loop-train.train, omega arith, only_none c.args.graph.now c.loop-train.train c.in_ok-route.field-0 (c.in_ok-route.ensures c.args.graph.now c.loop-train.train c.routes.ensures.routes) c.in_default.not-Some)

pub loop-train-preserved : goal.loop-train-preserved
loop-train-preserved c = record {
  count = grind (arith, c.in_ok-push.ensures.len, c.loop-train.invariant.count);
  only = rw c.in_ok-push.ensures.items (one_more_is c.args.graph.now c.loop-train.train c.loop-train.singles.items c.in-Some.route c.loop-train.invariant.count c.loop-train.invariant.only
      (only_some c.args.graph.now c.loop-train.train c.in_ok-route.field-0 c.in-Some.route (c.in_ok-route.ensures c.args.graph.now c.loop-train.train c.routes.ensures.routes) c.in-Some.is));
}
