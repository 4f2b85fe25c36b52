use Rattle.std.proofs.Common.{refl, sym, subst}
use Rattle.disp_model.specs.declared.problem.Problem.{Problem}
use Rattle.disp_model.specs.Cost.{cost_of}
use Rattle.disp_model.specs.Valid.{IsValid}
use Rattle.dispatch_core.specs.States.{Core}
use Rattle.dispatch_core.proofs.Answering.{valid_cost, invalid_cost}
use Rattle.dispatch_core.proofs.machine.Core.standing_cost.Goals as goal

pub returns-in-Ok : goal.returns-in-Ok
returns-in-Ok c =
    let s = c.self.inside in
    let core : Core =
    record { problem = s.editions.problem; settings = s.settings; history = s.history.items; nodes = s.nodes; ended = s.ended.items; left = s.left.items } in
    let valid : IsValid s.editions.problem c.args.fixings.now c.in-Published.plan =
    subst (λ (p : Problem). IsValid p c.args.fixings.now c.in-Published.plan) c.problem.ensures ((c.in-Ok.ensures.right c.in-Ok.field-0).0 refl).valid in
    valid_cost core c.args.self.now c.args.fixings.now s.last c.in_ok-self.field-0 c.index.result.now c.in-Published.edition c.in-Published.plan c.in-Published.cost
    c.self.view_is c.self.invariant.0.last_is c.in_ok-self.was c.index.ensures c.in-Published.is valid

pub returns-in-Err : goal.returns-in-Err
returns-in-Err c =
    let s = c.self.inside in
    let core : Core =
    record { problem = s.editions.problem; settings = s.settings; history = s.history.items; nodes = s.nodes; ended = s.ended.items; left = s.left.items } in
    invalid_cost core c.args.self.now c.args.fixings.now s.last c.in_ok-self.field-0 c.index.result.now c.in-Published.edition c.in-Published.plan c.in-Published.cost
    c.self.view_is c.self.invariant.0.last_is c.in_ok-self.was c.index.ensures c.in-Published.is (λ valid.
    let problem = c.problem.result.now in
    let here : IsValid problem c.args.fixings.now c.in-Published.plan = subst (λ (p : Problem). IsValid p c.args.fixings.now c.in-Published.plan) (sym c.problem.ensures) valid in
    let answer = (c.in-Err.ensures.right (cost_of problem.components c.in-Published.plan)).1 (record { valid = here; cost = refl; stated_is = tt }) in
    absurd cc)
