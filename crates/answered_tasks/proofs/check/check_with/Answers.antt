use Rattle.std.proofs.Common.{option_map}
use Rattle.std.proofs.lemmas.Result.{IfOk-weaker, IfErr-weaker}
use Rattle.answered_tasks.proofs.Checking.{stops_by_plan, reads_well}
use Rattle.answered_tasks.proofs.check.check_with.Goals as goal

pub returns-in-Ok-clause-ok : goal.returns-in-Ok-clause-ok
returns-in-Ok-clause-ok g c = IfOk-weaker c.judge_tree.result _ _ (λ answer h. record { plan = c.in-Ok.plan; plan_file = c.in-Ok.ensures.ok; checked = h }) c.judge_tree.ensures.ok

pub returns-in-Ok-clause-no : goal.returns-in-Ok-clause-no
returns-in-Ok-clause-no g c = IfErr-weaker c.judge_tree.result _ _ (λ cause is before first problem_name fixings_name tree_name edition behind file fixed shown. rw is tt) c.judge_tree.ensures.no

pub returns-in-Ok-clause-reads : goal.returns-in-Ok-clause-reads
returns-in-Ok-clause-reads g c = reads_well _ _ _ _ _ (λ e. e) c.in-Ok.ensures.reads

pub returns-in-Err-clause-no : goal.returns-in-Err-clause-no
returns-in-Err-clause-no g c before first problem_name fixings_name tree_name edition behind file fixed shown =
    let holds = (g.S.Shelf.state c.args.shelf.now).holds in
    let old = (g.S.Shelf.state c.args.shelf.now).reading in
    let new = (g.S.Shelf.state c.given_plan.new.shelf).reading in
    stops_by_plan before holds first old new c.args.problem.now c.args.fixings.now edition c.args.verdict c.args.tree.now problem_name tree_name fixings_name (option_map (λ name. name.now) c.args.plan) c.in-Err.cause behind file fixed shown
    c.in-Err.ensures.no
