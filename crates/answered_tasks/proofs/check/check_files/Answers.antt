use Rattle.std.proofs.Common.{option_map, inl, length, refl}
use Rattle.std.proofs.lemmas.Result.{IfOk-weaker, IfErr-weaker}
use Rattle.disp_model.specs.Changes.{standing_of}
use Rattle.answered_tasks.specs.Outside.{IsGiven, IsTreeOrPlan, IsBehindProblem}
use Rattle.answered_tasks.specs.Files.{AreOfEdition}
use Rattle.command_words.specs.declared.task.Task.TheVariants.{Check}
use Rattle.answered_tasks.proofs.Stopped.{takes_named, stops_at_fixings, reads_then, reads_among}
use Rattle.answered_tasks.proofs.Checking.{checked_file_before, edition_before, edition_of_changes, behind_names, behind_both}
use Rattle.answered_tasks.proofs.check.check_files.Goals as goal

pub returns-in-Ok-clause-ok : goal.returns-in-Ok-clause-ok
returns-in-Ok-clause-ok g c =
    let holds = (g.S.Shelf.state c.args.shelf.now).holds in
    let mid = (g.S.Shelf.state c.editions_of.new.shelf).holds in
    let plan = option_map (λ name. name.now) c.args.plan in
    let changes = c.in-Ok.editions.changes in
    IfOk-weaker c.check_tree.result _ _ (λ answer h. record {
      fixings = standing_of changes;
      edition = length changes;
      fixings_file = edition_of_changes holds c.args.problem.now (option_map (λ name. name.now) c.args.fixings) c.in-Ok.editions.problem changes c.in-Ok.ensures.ok c.fixings.ensures.edition;
      rest = checked_file_before holds mid c.args.problem.now (standing_of changes) (length changes) c.args.tree.now plan answer c.in-Ok.ensures.reads.held (rw (← c.fixings.ensures.all, ← c.edition_of-edition.ensures) h);
    }) c.check_tree.ensures.ok

pub returns-in-Ok-clause-no : goal.returns-in-Ok-clause-no
returns-in-Ok-clause-no g c =
    let holds = (g.S.Shelf.state c.args.shelf.now).holds in
    let old = (g.S.Shelf.state c.args.shelf.now).reading in
    let mid_holds = (g.S.Shelf.state c.editions_of.new.shelf).holds in
    let mid = (g.S.Shelf.state c.editions_of.new.shelf).reading in
    let fixings = option_map (λ name. name.now) c.args.fixings in
    let changes = c.in-Ok.editions.changes in
    let fixed : AreOfEdition holds c.args.problem.now fixings c.fixings.result.now c.edition_of-edition.result =
    rw (c.fixings.ensures.all, c.edition_of-edition.ensures) (edition_of_changes holds c.args.problem.now fixings c.in-Ok.editions.problem changes c.in-Ok.ensures.ok c.fixings.ensures.edition) in
    let read = behind_names _ _ _ _ c.in-Ok.ensures.reads in
    IfErr-weaker c.check_tree.result _ _ (λ cause h before first problem_name behind problem. h before first problem_name fixings (behind_both before holds mid_holds first old mid behind read) problem
    (edition_before before holds c.args.problem.now fixings c.fixings.result.now c.edition_of-edition.result behind.held fixed)) c.check_tree.ensures.no

pub returns-in-Ok-clause-reads : goal.returns-in-Ok-clause-reads
returns-in-Ok-clause-reads g c =
    let fixings = option_map (λ name. name.now) c.args.fixings in
    let plan = option_map (λ name. name.now) c.args.plan in
    reads_then (IsGiven fixings) (IsTreeOrPlan c.args.tree.now plan) _ _ _ _ _ (λ e. e) c.in-Ok.ensures.reads c.check_tree.ensures.reads

pub returns-in-Err-clause-no : goal.returns-in-Err-clause-no
returns-in-Err-clause-no g c before first problem_name behind file =
    let holds = (g.S.Shelf.state c.args.shelf.now).holds in
    let old = (g.S.Shelf.state c.args.shelf.now).reading in
    let new = (g.S.Shelf.state c.editions_of.new.shelf).reading in
    let fixings = option_map (λ name. name.now) c.args.fixings in
    let task = Check problem_name c.args.tree.now fixings (option_map (λ name. name.now) c.args.plan) in
    stops_at_fixings before holds first old new task c.args.problem.now fixings c.in-Err.cause refl
    behind (takes_named before task problem_name c.args.problem.now refl file) c.in-Err.ensures.no

pub returns-in-Err-clause-reads : goal.returns-in-Err-clause-reads
returns-in-Err-clause-reads g c =
    let fixings = option_map (λ name. name.now) c.args.fixings in
    reads_among (IsGiven fixings) (IsBehindProblem fixings c.args.tree.now (option_map (λ name. name.now) c.args.plan)) _ _ _ (λ n e. inl e) c.in-Err.ensures.reads
