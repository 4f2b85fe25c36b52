use Rattle.std.proofs.Common.{arith}
use Rattle.std.proofs.lemmas.List.Elements.{All-push}
use Rattle.plan_builder.specs.Stops.{IsStop}
use Rattle.plan_builder.proofs.Listing.{ops_more, is_stop}
use Rattle.plan_builder.proofs.stops.push_stops.Goals as goal

pub loop-operation-preserved : goal.loop-operation-preserved
loop-operation-preserved c =
    let loop = c.loop-operation.invariant in
    let i = c.loop-operation.operation-index in
    record {
      ops = rw c.in_ok-push.ensures.items (ops_more _ c.loop-operation.stops.items c.stop_of.result c.args.train c.args.route.now i 0 (omega arith) loop.ops c.stop_of.ensures.op);
      each = λ problem first old. rw c.in_ok-push.ensures.items (All-push (IsStop problem c.args.paths.now) c.loop-operation.stops.items c.stop_of.result (loop.each problem first old)
          (is_stop problem c.args.paths.now c.args.train c.args.first _ c.stop_of.result first c.stop_of.ensures.op c.stop_of.ensures.node (c.requires.nodes i 0 (omega arith)) c.stop_of.ensures.longest));
    }
