use Rattle.plain_values.proofs.Added.{joined}
use Rattle.problem_text.proofs.operation.push_operation.Goals as goal

pub returns : goal.returns
returns c =
    let listings = rw c.as_slice.ensures at c.in_ok-push_listings.ensures in
    let next = rw c.as_slice-2.ensures at c.in_ok-push_numbers.ensures in
    joined (joined (joined (joined (joined (joined (joined (joined (joined
    c.in_ok-push_text.ensures.ok c.in_ok-push_number.ensures)
    c.in_ok-push_text-2.ensures.ok) listings)
    c.in_ok-push_text-3.ensures.ok) c.in_ok-push_number-2.ensures) c.in_ok-push_upper.ensures)
    c.in_ok-push_text-4.ensures.ok) next)
    c.in_ok-push_text-5.ensures.ok
