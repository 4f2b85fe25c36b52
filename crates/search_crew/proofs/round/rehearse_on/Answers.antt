use Rattle.std.proofs.Common.{List, [], Option, refl, sym, subst}
use Rattle.std.specs.Prelude.{IfSome}
use Rattle.disp_model.specs.declared.plan.Event.{Event}
use Rattle.disp_model.specs.declared.problem.Problem.{Problem}
use Rattle.disp_model.specs.History.{fixings_after}
use Rattle.disp_model.specs.Node.{node_at}
use Rattle.near_plans.specs.Plans.{IsPlanAt}
use Rattle.node_leaves.specs.Reckoned.{ReckonsFor}
use Rattle.shared_board.specs.Board.{problem_of, known}
use Rattle.search_crew.specs.Grounds.{IsGround}
use Rattle.search_crew.proofs.Handing.{plan_at}
use Rattle.search_crew.proofs.round.rehearse_on.Goals as goal

pub rehearse_on-requires : goal.rehearse_on-requires
rehearse_on-requires g c =
    let fixings = fixings_after c.args.edition (known c.args.pass.now).seen in
    record {
      reckons = subst (λ (p : Problem). ReckonsFor p c.args.reckoning.now) (sym c.problem.ensures) c.requires.reckons;
      ground = (fixings, subst (λ (p : Problem). IsGround p fixings c.args.ground.now) (sym c.problem.ensures) c.requires.ground);
    }

pub publish-requires-clause-plan : goal.publish-requires-clause-plan
publish-requires-clause-plan g c =
    let board = c.args.board.now in let edition = c.args.edition in
    let fixings = fixings_after edition (known c.args.pass.now).seen in
    let root = node_at (problem_of board) fixings [] in
    let on = subst (λ (p : Problem). IsGround p fixings c.args.ground.now) (sym c.problem.ensures) c.requires.ground in
    let is = subst (λ (p : Problem). IfSome c.in_ok-plan.plan (IsPlanAt (node_at p fixings []))) c.problem.ensures (c.in_ok-plan.ensures.plan fixings on) in
    λ found same. plan_at board c.requires.at.0 edition c.args.pass.now c.requires.at.1 root refl found
    (subst (λ (p : Option (List Event)). IfSome p (IsPlanAt root)) same is)

pub returns-in_err-plan-clause-ground : goal.returns-in_err-plan-clause-ground
returns-in_err-plan-clause-ground g c = λ fixings is.
    subst (λ (p : Problem). IsGround p fixings c.rehearse_on.new.self) c.problem.ensures
    (c.rehearse_on.ensures.ground fixings (subst (λ (p : Problem). IsGround p fixings c.args.ground.now) (sym c.problem.ensures) is))

pub returns-clause-ground : goal.returns-clause-ground
returns-clause-ground g c = λ fixings is.
    subst (λ (p : Problem). IsGround p fixings c.rehearse_on.new.self) c.problem.ensures
    (c.rehearse_on.ensures.ground fixings (subst (λ (p : Problem). IsGround p fixings c.args.ground.now) (sym c.problem.ensures) is))
