use Rattle.std.proofs.Common.{subst}
use Rattle.search_crew.proofs.Marks.{IsMarkedBy, marked}
use Rattle.search_crew.proofs.answered.answered.Goals as goal

pub returns-in-Optimal : goal.returns-in-Optimal
returns-in-Optimal c = λ edition history is closed. subst (IsMarkedBy edition history) c.in-Optimal.is (marked edition history c.args.mark is closed)

pub returns-in-Infeasible : goal.returns-in-Infeasible
returns-in-Infeasible c = λ edition history is closed. subst (IsMarkedBy edition history) c.in-Infeasible.is (marked edition history c.args.mark is closed)

pub returns-in-Stopped : goal.returns-in-Stopped
returns-in-Stopped c = λ edition history is closed. subst (IsMarkedBy edition history) c.in-Stopped.is (marked edition history c.args.mark is closed)
