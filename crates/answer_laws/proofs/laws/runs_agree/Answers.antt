use Rattle.answer_laws.proofs.Runs.{run_not_refused, runs_judge_alike, runs_solve_alike}
use Rattle.answer_laws.proofs.laws.runs_agree.Goals as goal

pub returns : goal.returns
returns c = record {
  refused = λ words old new other later status code journal entries told held.
      run_not_refused words old new other later status code journal entries told held;
  judged = λ words old new other later status code journal entries task told held.
      runs_judge_alike words old new other later status code journal entries told held task;
  solved = λ words old new other later status code journal entries task told held.
      runs_solve_alike words old new other later status code journal entries told held task;
}
