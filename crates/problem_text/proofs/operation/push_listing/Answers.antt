use Rattle.plain_values.proofs.Added.{joined}
use Rattle.problem_text.proofs.operation.push_listing.Goals as goal

pub returns : goal.returns
returns c = joined (joined (joined (joined c.in_ok-push_text.ensures.ok
    c.in_ok-push_number.ensures) c.in_ok-push_text-2.ensures.ok) c.in_ok-push_name.ensures)
    c.in_ok-push_text-3.ensures.ok
