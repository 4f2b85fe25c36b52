use Rattle.std.proofs.Common.{option_map, inl}
use Rattle.std.proofs.lemmas.Result.{IfOk-weaker, IfErr-weaker}
use Rattle.answered_tasks.specs.Outside.{IsName, IsGiven, IsTreeOrPlan}
use Rattle.answered_tasks.specs.Files.{IsTreeFile}
use Rattle.answered_tasks.proofs.Stopped.{reads_of_one, reads_then, reads_among}
use Rattle.answered_tasks.proofs.Checking.{with_plan_before, tree_file_before, stops_by_tree, behind_names, behind_both}
use Rattle.answered_tasks.proofs.check.check_tree.Goals as goal

pub returns-in-Ok-clause-ok : goal.returns-in-Ok-clause-ok
returns-in-Ok-clause-ok g c =
    let holds = (g.S.Shelf.state c.args.shelf.now).holds in
    let mid = (g.S.Shelf.state c.tree_file.new.shelf).holds in
    let plan = option_map (λ name. name.now) c.args.plan in
    IfOk-weaker c.check_with.result _ _ (λ answer h. record {
      verdict = c.in-Ok.verdict;
      tree = c.in-Ok.tree;
      tree_file = rw (← c.as_str.ensures) c.in-Ok.ensures.ok;
      rest = with_plan_before holds mid c.args.problem.now c.args.fixings.now c.in-Ok.verdict c.in-Ok.tree plan answer c.in-Ok.ensures.reads.held h;
    }) c.check_with.ensures.ok

pub returns-in-Ok-clause-no : goal.returns-in-Ok-clause-no
returns-in-Ok-clause-no g c =
    let holds = (g.S.Shelf.state c.args.shelf.now).holds in
    let old = (g.S.Shelf.state c.args.shelf.now).reading in
    let mid_holds = (g.S.Shelf.state c.tree_file.new.shelf).holds in
    let mid = (g.S.Shelf.state c.tree_file.new.shelf).reading in
    let file : IsTreeFile holds c.args.tree.now c.args.edition c.in-Ok.verdict c.in-Ok.tree = rw (← c.as_str.ensures) c.in-Ok.ensures.ok in
    let read = behind_names _ _ _ _ (reads_of_one c.as_str.result.now _ _ _ c.in-Ok.ensures.reads) in
    IfErr-weaker c.check_with.result _ _ (λ cause h before first problem_name fixings_name behind problem fixed. h before first problem_name fixings_name c.args.tree.now c.args.edition
    (behind_both before holds mid_holds first old mid behind read) problem fixed (tree_file_before before holds c.args.tree.now c.args.edition c.in-Ok.verdict c.in-Ok.tree (behind.held c.args.tree.now) file)) c.check_with.ensures.no

pub returns-in-Ok-clause-reads : goal.returns-in-Ok-clause-reads
returns-in-Ok-clause-reads g c =
    let plan = option_map (λ name. name.now) c.args.plan in
    let first = reads_of_one c.args.tree.now _ _ _ (rw c.as_str.ensures at c.in-Ok.ensures.reads) in
    reads_then (IsName c.args.tree.now) (IsGiven plan) _ _ _ _ _ (λ e. e) first c.check_with.ensures.reads

pub returns-in-Err-clause-no : goal.returns-in-Err-clause-no
returns-in-Err-clause-no g c before first problem_name fixings_name behind file fixed =
    let holds = (g.S.Shelf.state c.args.shelf.now).holds in
    let old = (g.S.Shelf.state c.args.shelf.now).reading in
    let new = (g.S.Shelf.state c.tree_file.new.shelf).reading in
    stops_by_tree before holds first old new c.args.problem.now c.args.fixings.now c.args.edition problem_name c.args.tree.now fixings_name (option_map (λ name. name.now) c.args.plan) c.in-Err.cause behind file fixed
    (rw (← c.as_str.ensures) c.in-Err.ensures.no)

pub returns-in-Err-clause-reads : goal.returns-in-Err-clause-reads
returns-in-Err-clause-reads g c = reads_among (IsName c.args.tree.now) (IsTreeOrPlan c.args.tree.now (option_map (λ name. name.now) c.args.plan)) _ _ _ (λ n e. inl e)
    (reads_of_one c.args.tree.now _ _ _ (rw c.as_str.ensures at c.in-Err.ensures.reads))
