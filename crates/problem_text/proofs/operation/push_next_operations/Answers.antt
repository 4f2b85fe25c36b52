use Rattle.problem_text.specs.Texts.{written_operation}
use Rattle.problem_text.proofs.Listing.{more_elements}
use Rattle.problem_text.proofs.operation.push_next_operations.Goals as goal

pub loop-operation-preserved : goal.loop-operation-preserved
loop-operation-preserved c = more_elements (written_operation c.args.names.now) c.args.operations.now
    c.loop-operation.operation-index c.operation-item.result c.loop-operation-test.true
    c.loop-operation.invariant c.in_ok-push_text.ensures.ok
    (rw (← c.operation-item.is) c.in_ok-push_operation.ensures)
