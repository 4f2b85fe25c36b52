use Rattle.answer_laws.proofs.Tasks.{one_task, not_refused}
use Rattle.answer_laws.proofs.laws.words_ask_for_one_task.Goals as goal

pub returns : goal.returns
returns c = record { one = one_task; none = not_refused }
