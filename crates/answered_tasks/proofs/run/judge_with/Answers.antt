use Rattle.std.proofs.Common.{◌⊎◌, ℕ, List, Some, ap, refl, sym, inl, inr}
use Rattle.std.proofs.lemmas.Result.{IfOk-weaker, IfErr-weaker}
use Rattle.disp_model.specs.Changes.{standing_of}
use Rattle.disp_model.specs.Replies.{IsEdition}
use Rattle.answered_tasks.specs.Outside.{IsName, IsOneOfTwo}
use Rattle.answered_tasks.specs.Files.{IsFixingsTaken}
use Rattle.text_puts.proofs.Counting.{never_falls}
use Rattle.answered_tasks.proofs.Stopped.{stops_solution, stops_fixings, judged_file_before, reads_of_one, reads_then, reads_among}
use Rattle.answered_tasks.proofs.run.judge_with.Goals as goal

among : (one two name : List ℕ) → IsName one name ⊎ IsName two name → IsOneOfTwo (Some one) two name
among one two name (inl e) = inl (ap Some (sym e))
among one two name (inr e) = inr e

pub returns-in-Ok-clause-ok : goal.returns-in-Ok-clause-ok
returns-in-Ok-clause-ok g c =
    let holds = (g.S.Shelf.state c.args.shelf.now).holds in
    let mid = (g.S.Shelf.state c.fixings_file.new.shelf).holds in
    let taken : IsFixingsTaken holds c.args.problem.now c.args.name.now c.in-Ok.editions.problem c.in-Ok.editions.changes = rw (← c.as_str.ensures) c.in-Ok.ensures.ok in
    let edition : IsEdition c.args.problem.now c.in-Ok.editions.changes = rw (← taken.same) c.fixings.ensures.edition in
    IfOk-weaker c.judge_file.result _ _ (λ answer h. record {
      fixings = standing_of c.in-Ok.editions.changes;
      fixings_file = record { told = taken.told; lines = taken.lines; changes = c.in-Ok.editions.changes; taken = taken.taken; edition = edition; standing = refl };
      judged = judged_file_before holds mid c.args.telling c.args.problem.now (standing_of c.in-Ok.editions.changes) c.args.solution.now answer c.in-Ok.ensures.reads.held (rw (← c.fixings.ensures.all) h);
    }) c.judge_file.ensures.ok

pub returns-in-Ok-clause-no : goal.returns-in-Ok-clause-no
returns-in-Ok-clause-no g c =
    let holds = (g.S.Shelf.state c.args.shelf.now).holds in
    let taken : IsFixingsTaken holds c.args.problem.now c.args.name.now c.in-Ok.editions.problem c.in-Ok.editions.changes = rw (← c.as_str.ensures) c.in-Ok.ensures.ok in
    let edition : IsEdition c.args.problem.now c.in-Ok.editions.changes = rw (← taken.same) c.fixings.ensures.edition in
    let mid_holds = (g.S.Shelf.state c.fixings_file.new.shelf).holds in
    let old = (g.S.Shelf.state c.args.shelf.now).reading in
    let mid = (g.S.Shelf.state c.fixings_file.new.shelf).reading in
    let new = (g.S.Shelf.state c.judge_file.new.shelf).reading in
    IfErr-weaker c.judge_file.result _ _ (λ cause h. stops_solution holds mid_holds old mid new c.args.problem.now (Some c.args.name.now) c.args.solution.now cause
    (standing_of c.in-Ok.editions.changes, record { told = taken.told; lines = taken.lines; changes = c.in-Ok.editions.changes; taken = taken.taken; edition = edition; standing = refl }) c.in-Ok.ensures.reads.held
    (never_falls c.as_str.result.now old mid c.in-Ok.ensures.reads.counted c.in-Ok.ensures.reads.others) h) c.judge_file.ensures.no

pub returns-in-Ok-clause-reads : goal.returns-in-Ok-clause-reads
returns-in-Ok-clause-reads g c =
    let first = reads_of_one c.args.name.now _ _ _ (rw c.as_str.ensures at c.in-Ok.ensures.reads) in
    let second = reads_of_one c.args.solution.now _ _ _ c.judge_file.ensures.reads in
    reads_among (λ n. IsName c.args.name.now n ⊎ IsName c.args.solution.now n) (IsOneOfTwo (Some c.args.name.now) c.args.solution.now) _ _ _ (λ n given. among c.args.name.now c.args.solution.now n given)
    (reads_then (IsName c.args.name.now) (IsName c.args.solution.now) _ _ _ _ _ (λ e. e) first second)

pub returns-in-Err-clause-no : goal.returns-in-Err-clause-no
returns-in-Err-clause-no g c = stops_fixings (g.S.Shelf.state c.args.shelf.now).holds (g.S.Shelf.state c.args.shelf.now).reading (g.S.Shelf.state c.fixings_file.new.shelf).reading c.args.problem.now c.args.name.now c.args.solution.now
    c.in-Err.cause (rw (← c.as_str.ensures) c.in-Err.ensures.no)

pub returns-in-Err-clause-reads : goal.returns-in-Err-clause-reads
returns-in-Err-clause-reads g c = reads_among (IsName c.args.name.now) (IsOneOfTwo (Some c.args.name.now) c.args.solution.now) _ _ _ (λ n e. inl (ap Some (sym e)))
    (reads_of_one c.args.name.now _ _ _ (rw c.as_str.ensures at c.in-Err.ensures.reads))
