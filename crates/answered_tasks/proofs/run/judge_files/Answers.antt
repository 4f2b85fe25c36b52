use Rattle.std.proofs.Common.{[], None, refl, inr, arith}
use Rattle.std.proofs.lemmas.Result.{IfOk-weaker, IfErr-weaker}
use Rattle.answered_tasks.specs.Outside.{IsName, IsOneOfTwo}
use Rattle.answered_tasks.proofs.Stopped.{stops_solution, reads_of_one, reads_among}
use Rattle.answered_tasks.proofs.run.judge_files.Goals as goal

pub returns-in-None-clause-ok : goal.returns-in-None-clause-ok
returns-in-None-clause-ok g c = rw c.in-None.is (IfOk-weaker c.judge_file.result _ _ (λ answer h. record { fixings = []; fixings_file = refl; judged = h }) c.judge_file.ensures.ok)

pub returns-in-None-clause-no : goal.returns-in-None-clause-no
returns-in-None-clause-no g c =
    let holds = (g.S.Shelf.state c.args.shelf.now).holds in
    let old = (g.S.Shelf.state c.args.shelf.now).reading in
    rw c.in-None.is (IfErr-weaker c.judge_file.result _ _ (λ cause h. stops_solution holds holds old old (g.S.Shelf.state c.judge_file.new.shelf).reading c.args.problem.now None c.args.solution.now cause ([], refl) (λ other. refl) (λ other. omega arith) h) c.judge_file.ensures.no)

pub returns-in-None-clause-reads : goal.returns-in-None-clause-reads
returns-in-None-clause-reads g c = rw c.in-None.is (reads_among (IsName c.args.solution.now) (IsOneOfTwo None c.args.solution.now) _ _ _ (λ n e. inr e) (reads_of_one c.args.solution.now _ _ _ c.judge_file.ensures.reads))
