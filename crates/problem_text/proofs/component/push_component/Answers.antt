use Rattle.plain_values.proofs.Added.{joined}
use Rattle.problem_text.proofs.component.push_component.Goals as goal

pub returns : goal.returns
returns c = joined (joined (joined (joined (joined (joined (joined (joined (joined (joined
    c.in_ok-push_text.ensures.ok c.in_ok-push_number.ensures)
    c.in_ok-push_text-2.ensures.ok) c.in_ok-push_number-2.ensures)
    c.in_ok-push_text-3.ensures.ok) c.in_ok-push_number-3.ensures)
    c.in_ok-push_text-4.ensures.ok) c.in_ok-push_number-4.ensures)
    c.in_ok-push_text-5.ensures.ok) c.in_ok-push_number-5.ensures)
    c.in_ok-push_text-6.ensures.ok
