use Rattle.std.proofs.Common.{◌∙◌, sym, subst}
use Rattle.std.proofs.lemmas.Option.{none-some}
use Rattle.disp_model.specs.declared.problem.Problem.{Problem}
use Rattle.disp_model.specs.Train.{IsExit}
use Rattle.disp_model.specs.Valid.{train_at}
use Rattle.free_choices.proofs.Openness.{route_is_picked}
use Rattle.free_choices.proofs.open_route.is_open_route.Goals as goal

pub returns-in-None : goal.returns-in-None
returns-in-None c is =
    let node = c.args.graph.now in
    let op = c.args.op in
    let forced = c.is_forced.ensures.0 c.if-not-is_forced.false in
    route_is_picked node op forced
    (λ s goes. none-some s (sym c.in-None.is ∙ (c.only_next.ensures node op.train c.routes.ensures.routes s).1 (forced, goes)))
    (subst (λ (p : Problem). IsExit (train_at p op.train) op.op → ⊥) (sym c.requires) (c.goes_on.ensures c.if-not-goes_on.false))
