use Rattle.std.proofs.Common.{sym, subst}
use Rattle.std.proofs.lemmas.Result.{IfOk-weaker}
use Rattle.disp_model.specs.declared.problem.Problem.{Problem}
use Rattle.disp_model.specs.History.{fixings_after}
use Rattle.disp_model.specs.Node.{node_at}
use Rattle.search_workers.specs.Grown.{IsGrownOf}
use Rattle.shared_board.specs.Board.{known}
use Rattle.std.specs.Prelude.{IfOk}
use Rattle.search_crew.specs.Grounds.{IsGround}
use Rattle.search_crew.proofs.round.work_on.Goals as goal

pub grow-growth-requires-clause-ground : goal.grow-growth-requires-clause-ground
grow-growth-requires-clause-ground g c =
    let fixings = fixings_after c.args.work.edition (known c.args.pass.now).seen in
    (fixings, subst (λ (p : Problem). IsGround p fixings c.args.ground.now) (sym c.problem.ensures) c.requires.ground)

pub hand_in-requires-clause-grown : goal.hand_in-requires-clause-grown
hand_in-requires-clause-grown g c =
    let work = c.args.work in let rule = c.args.reckoning.now.rule in
    let fixings = fixings_after work.edition (known c.args.pass.now).seen in
    let on = subst (λ (p : Problem). IsGround p fixings c.args.ground.now) (sym c.problem.ensures) c.requires.ground in
    let grown = subst (λ (p : Problem). IfOk c.grow-growth.result (IsGrownOf rule (node_at p fixings work.decisions) c.in-Ok.best work.allowance work.bound)) c.problem.ensures (c.grow-growth.ensures.grown fixings on) in
    IfOk-weaker c.grow-growth.result _ _
    (λ one is. (rule, c.requires.at, record { best = c.in-Ok.best; no_more = c.in-Ok.ensures.no_more; grown = is })) grown

pub returns-in-Ok-clause-ground : goal.returns-in-Ok-clause-ground
returns-in-Ok-clause-ground g c = λ fixings is.
    subst (λ (p : Problem). IsGround p fixings c.grow-growth.new.self) c.problem.ensures
    (c.grow-growth.ensures.ground fixings (subst (λ (p : Problem). IsGround p fixings c.args.ground.now) (sym c.problem.ensures) is))
