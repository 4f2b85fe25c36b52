use Rattle.std.proofs.Common.{◌∙◌, ◌<◌, length, sym, subst, arith}
use Rattle.std.proofs.lemmas.Bool.{false≢true}
use Rattle.disp_model.specs.declared.problem.Problem.{Problem}
use Rattle.free_choices.proofs.Openness.{run_is_picked}
use Rattle.free_choices.proofs.open_run.is_open_run.Goals as goal

pub returns : goal.returns
returns c has =
    let node = c.args.graph.now in
    let train = c.args.op.train in
    let there : train < length node.problem.trains = subst (λ (p : Problem). train < length p.trains) (sym c.requires) (omega arith) in
    run_is_picked node c.args.op there (λ forced. false≢true (sym c.if-forced.false ∙ (c.forced.ensures node train c.routes-routes.ensures.routes).1 forced)) ((c.may_have.ensures node train c.routes-routes.ensures.routes).0 has)
