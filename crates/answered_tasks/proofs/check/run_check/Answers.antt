use Rattle.std.proofs.Common.{option_map, inl, refl}
use Rattle.std.proofs.lemmas.Result.{IfOk-weaker, IfErr-weaker}
use Rattle.answered_tasks.specs.Files.{IsProblemFile}
use Rattle.answered_tasks.specs.Outside.{IsName, IsBehindProblem, IsOneOfFour}
use Rattle.command_words.specs.declared.task.Task.TheVariants.{Check}
use Rattle.answered_tasks.proofs.Stopped.{stops_at_problem, reads_of_one, reads_then, reads_among}
use Rattle.answered_tasks.proofs.Checking.{checked_file_before, edition_before, behind_names}
use Rattle.answered_tasks.proofs.check.run_check.Goals as goal

pub returns-in-Ok-clause-ok : goal.returns-in-Ok-clause-ok
returns-in-Ok-clause-ok g c =
    let holds = (g.S.Shelf.state c.args.shelf.now).holds in
    let mid = (g.S.Shelf.state c.problem_file.new.shelf).holds in
    let fixings = option_map (λ name. name.now) c.args.fixings in
    let plan = option_map (λ name. name.now) c.args.plan in
    IfOk-weaker c.check_files.result _ _ (λ answer h.
    let rest = checked_file_before holds mid c.in-Ok.problem h.fixings h.edition c.args.tree.now plan answer c.in-Ok.ensures.reads.held h.rest in
    record {
      problem = c.in-Ok.problem;
      problem_file = rw (← c.as_str.ensures) c.in-Ok.ensures.ok;
      fixings = h.fixings;
      edition = h.edition;
      fixings_file = edition_before holds mid c.in-Ok.problem fixings h.fixings h.edition c.in-Ok.ensures.reads.held h.fixings_file;
      verdict = rest.verdict;
      tree = rest.tree;
      tree_file = rest.tree_file;
      plan = rest.rest.plan;
      plan_file = rest.rest.plan_file;
      checked = rest.rest.checked;
    }) c.check_files.ensures.ok

pub returns-in-Ok-clause-no : goal.returns-in-Ok-clause-no
returns-in-Ok-clause-no g c =
    let holds = (g.S.Shelf.state c.args.shelf.now).holds in
    let old = (g.S.Shelf.state c.args.shelf.now).reading in
    let mid_holds = (g.S.Shelf.state c.problem_file.new.shelf).holds in
    let mid = (g.S.Shelf.state c.problem_file.new.shelf).reading in
    let file : IsProblemFile holds c.args.problem.now c.in-Ok.problem = rw (← c.as_str.ensures) c.in-Ok.ensures.ok in
    let read = behind_names _ _ _ _ (reads_of_one c.as_str.result.now _ _ _ c.in-Ok.ensures.reads) in
    IfErr-weaker c.check_files.result _ _ (λ cause h. h holds old c.args.problem.now read file) c.check_files.ensures.no

pub returns-in-Ok-clause-reads : goal.returns-in-Ok-clause-reads
returns-in-Ok-clause-reads g c =
    let fixings = option_map (λ name. name.now) c.args.fixings in
    let plan = option_map (λ name. name.now) c.args.plan in
    let first = reads_of_one c.args.problem.now _ _ _ (rw c.as_str.ensures at c.in-Ok.ensures.reads) in
    reads_then (IsName c.args.problem.now) (IsBehindProblem fixings c.args.tree.now plan) _ _ _ _ _ (λ e. e) first c.check_files.ensures.reads

pub returns-in-Err-clause-no : goal.returns-in-Err-clause-no
returns-in-Err-clause-no g c = stops_at_problem (g.S.Shelf.state c.args.shelf.now).holds
    (g.S.Shelf.state c.args.shelf.now).reading (g.S.Shelf.state c.problem_file.new.shelf).reading
    (Check c.args.problem.now c.args.tree.now (option_map (λ name. name.now) c.args.fixings)
    (option_map (λ name. name.now) c.args.plan)) c.args.problem.now c.in-Err.cause refl
    (rw (← c.as_str.ensures) c.in-Err.ensures.no)

pub returns-in-Err-clause-reads : goal.returns-in-Err-clause-reads
returns-in-Err-clause-reads g c =
    let fixings = option_map (λ name. name.now) c.args.fixings in
    let plan = option_map (λ name. name.now) c.args.plan in
    reads_among (IsName c.args.problem.now) (IsOneOfFour c.args.problem.now fixings c.args.tree.now plan) _ _ _ (λ n e. inl e) (reads_of_one c.args.problem.now _ _ _ (rw c.as_str.ensures at c.in-Err.ensures.reads))
