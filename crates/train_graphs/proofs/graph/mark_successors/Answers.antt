use Rattle.std.proofs.Common.{◌∙◌, ap, sym, take}
use Rattle.std.specs.List.{flat_map}
use Rattle.train_graphs.specs.Graphs.{marked_all}
use Rattle.train_graphs.proofs.Marks.{marked_more}
use Rattle.train_graphs.proofs.graph.mark_successors.Goals as goal

pub loop-operation-preserved : goal.loop-operation-preserved
loop-operation-preserved c =
    let train = c.args.train.now in
    let i = c.loop-operation.operation-index in
    let p = c.operation-item.result in
    c.mark.ensures
    ∙ ap (marked_all c.loop-operation.marks) c.as_slice.ensures
    ∙ ap (λ ms. marked_all ms p.next) c.loop-operation.invariant
    ∙ ap (λ o. marked_all (marked_all c.args.marks.now (flat_map (λ q. q.next) (take i train))) o.next) c.operation-item.is
    ∙ sym (marked_more c.args.marks.now train i p c.loop-operation-test.true)
