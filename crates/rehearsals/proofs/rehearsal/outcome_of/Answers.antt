use Rattle.rehearsals.proofs.Keeping.{some_is_plan}
use Rattle.rehearsals.proofs.rehearsal.outcome_of.Goals as goal

pub returns : goal.returns
returns c = λ root edition found. some_is_plan root edition c.args.rehearsal.plan found
