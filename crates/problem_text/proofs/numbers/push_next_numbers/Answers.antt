use Rattle.std.specs.Fmt.{decimal}
use Rattle.problem_text.proofs.Listing.{more_elements}
use Rattle.problem_text.proofs.numbers.push_next_numbers.Goals as goal

pub loop-number-preserved : goal.loop-number-preserved
loop-number-preserved c = more_elements decimal c.args.numbers.now c.loop-number.number-index _
    c.loop-number-test.true c.loop-number.invariant c.in_ok-push_text.ensures.ok
    c.in_ok-push_number.ensures
