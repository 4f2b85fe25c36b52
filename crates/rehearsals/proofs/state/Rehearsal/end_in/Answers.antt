use Rattle.std.proofs.Common.{List, ◌∙◌, sym, subst}
use Rattle.std.specs.Prelude.{Option, IfSome}
use Rattle.disp_model.specs.declared.plan.Event.{Event}
use Rattle.near_plans.specs.Plans.{IsFoundBeside}
use Rattle.near_plans.proofs.Finding.{found_beside}
use Rattle.rehearsals.proofs.state.Rehearsal.end_in.Goals as goal

pub returns-clause-plan : goal.returns-clause-plan
returns-clause-plan c = λ root beside.
    subst (λ (p : Option (List Event)). IfSome p (IsFoundBeside root)) (sym (c.end.ensures.plan ∙ c.keep.ensures))
    (found_beside root c.args.graph.now beside c.args.plan c.requires.plan)
