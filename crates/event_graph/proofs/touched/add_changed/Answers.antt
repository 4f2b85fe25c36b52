use Rattle.std.proofs.Common.{ap, arith, length, List, refl}
use Rattle.disp_model.specs.declared.train.Operation.{Operation}
use Rattle.disp_model.specs.Valid.{train_at}
use Rattle.disp_model.specs.Node.{node_at}
use Rattle.route_sets.proofs.Answering.{train_read}
use Rattle.event_graph.proofs.Staying.{changed_all}
use Rattle.event_graph.proofs.touched.add_changed.Goals as goal

pub returns : goal.returns
returns c before fixings decisions old placed =
    let problem = c.args.problem.now in
    let t = c.args.train in
    let read = train_read problem.trains c.as_slice.result.now t c.index-as_slice-train.result c.index-as_slice-train.result c.as_slice.ensures c.index-as_slice-train.is refl c.requires.there in
    changed_all before (node_at problem fixings decisions) t c.loop-op.op (length (train_at problem t)) c.args.orders.now.pairs c.args.arcs.now.items c.loop-op.arcs.items
    (omega (arith, c.loop-op-test.false, c.len-operations.ensures, ap (λ (l : List Operation). length l) read)) (c.loop-op.invariant before fixings decisions old placed)
