use Rattle.std.proofs.Common.{inl, refl}
use Rattle.std.proofs.lemmas.Result.{IfOk-weaker}
use Rattle.answered_tasks.proofs.judge.judge.Goals as goal

pub returns-in-Ok-clause-ok : goal.returns-in-Ok-clause-ok
returns-in-Ok-clause-ok c = IfOk-weaker c.valid.result _ _ (λ answer h. record {
  journal = h.journal;
  puts = h.puts;
  says = inl (record {
    cost = c.in-Ok.cost;
    right = (c.in-Ok.ensures.right c.in-Ok.cost).0 refl;
    status_is = h.status_is;
    lines_are = h.lines;
  });
}) c.valid.ensures
