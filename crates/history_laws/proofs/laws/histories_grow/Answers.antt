use Rattle.history_laws.proofs.Appended.{changes_more, grown_more, spent_more, mark_more, plan_more}
use Rattle.history_laws.proofs.laws.histories_grow.Goals as goal

pub returns : goal.returns
returns c = record { changes = changes_more; grown = grown_more; spent = spent_more; mark = mark_more; plan = plan_more }
