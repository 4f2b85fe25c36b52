use Rattle.plain_values.proofs.Added.{joined}
use Rattle.solution_text.proofs.write.push_event.Goals as goal

pub returns : goal.returns
returns c = record {
  ok =
      joined (joined (joined (joined (joined (joined c.in_ok-push_text.ensures.ok c.in_ok-push_index.ensures.ok) c.in_ok-push_text-2.ensures.ok) c.in_ok-push_number.ensures.ok) c.in_ok-push_text-3.ensures.ok) c.in_ok-push_index-2.ensures.ok)
      c.in_ok-push_text-4.ensures.ok;
}
