use Rattle.std.proofs.Common.{rules, ◌≡◌, ℕ, List, Result, Err, subst, sym}
use Rattle.disp_model.specs.declared.plan.Event.{Event}
use Rattle.solution_verifier.specs.declared.fault.Fault.{Fault}
use Rattle.solution_verifier.proofs.Firsts.{IsRightAnswer, IsFirstAnswer, event_first, open_first, unmet_first, fault_right, fault_first, last_right, last_first}
use Rattle.solution_verifier.proofs.verdict.verify.Goals as goal

pub returns-in_err-judge_events-clause-right : goal.returns-in_err-judge_events-clause-right
returns-in_err-judge_events-clause-right c =
    let problem = c.args.problem.now in
    let fixings = c.args.fixings.now in
    let events = c.as_slice-events.result.now in
    let stated = c.args.stated in
    let f = c.in_err-judge_events.field-0.0 in
    let is : c.from_residual.result ≡ Err f = search rules in
    let there = fault_right problem fixings events stated f (event_first problem fixings events stated f c.in_err-judge_events.ensures) in
    subst (λ (answer : Result ℕ Fault). IsRightAnswer problem fixings c.args.plan.now stated answer) (sym is)
    (subst (λ (l : List Event). IsRightAnswer problem fixings l stated (Err f)) c.as_slice-events.ensures there)

pub returns-in_err-judge_events-clause-first : goal.returns-in_err-judge_events-clause-first
returns-in_err-judge_events-clause-first c =
    let problem = c.args.problem.now in
    let fixings = c.args.fixings.now in
    let events = c.as_slice-events.result.now in
    let stated = c.args.stated in
    let f = c.in_err-judge_events.field-0.0 in
    let is : c.from_residual.result ≡ Err f = search rules in
    let there = fault_first problem fixings events stated f (event_first problem fixings events stated f c.in_err-judge_events.ensures) in
    subst (λ (answer : Result ℕ Fault). IsFirstAnswer problem fixings c.args.plan.now stated answer) (sym is)
    (subst (λ (l : List Event). IsFirstAnswer problem fixings l stated (Err f)) c.as_slice-events.ensures there)

pub returns-in_err-judge_ends-clause-right : goal.returns-in_err-judge_ends-clause-right
returns-in_err-judge_ends-clause-right c =
    let problem = c.args.problem.now in
    let fixings = c.args.fixings.now in
    let events = c.as_slice-events.result.now in
    let stated = c.args.stated in
    let f = c.in_err-judge_ends.field-0.0 in
    let is : c.from_residual-in_err-judge_ends.result ≡ Err f = search rules in
    let there = fault_right problem fixings events stated f (open_first problem fixings events stated f c.in_ok-judge_events.ensures c.in_err-judge_ends.ensures) in
    subst (λ (answer : Result ℕ Fault). IsRightAnswer problem fixings c.args.plan.now stated answer) (sym is)
    (subst (λ (l : List Event). IsRightAnswer problem fixings l stated (Err f)) c.as_slice-events.ensures there)

pub returns-in_err-judge_ends-clause-first : goal.returns-in_err-judge_ends-clause-first
returns-in_err-judge_ends-clause-first c =
    let problem = c.args.problem.now in
    let fixings = c.args.fixings.now in
    let events = c.as_slice-events.result.now in
    let stated = c.args.stated in
    let f = c.in_err-judge_ends.field-0.0 in
    let is : c.from_residual-in_err-judge_ends.result ≡ Err f = search rules in
    let there = fault_first problem fixings events stated f (open_first problem fixings events stated f c.in_ok-judge_events.ensures c.in_err-judge_ends.ensures) in
    subst (λ (answer : Result ℕ Fault). IsFirstAnswer problem fixings c.args.plan.now stated answer) (sym is)
    (subst (λ (l : List Event). IsFirstAnswer problem fixings l stated (Err f)) c.as_slice-events.ensures there)

pub returns-in_err-judge_fixings-clause-right : goal.returns-in_err-judge_fixings-clause-right
returns-in_err-judge_fixings-clause-right c =
    let problem = c.args.problem.now in
    let fixings = c.args.fixings.now in
    let events = c.as_slice-events.result.now in
    let stated = c.args.stated in
    let f = c.in_err-judge_fixings.field-0.0 in
    let is : c.from_residual-in_err-judge_fixings.result ≡ Err f = search rules in
    let there = fault_right problem fixings events stated f (unmet_first problem fixings events stated f c.in_ok-judge_events.ensures c.in_ok-judge_ends.ensures c.in_err-judge_fixings.ensures) in
    subst (λ (answer : Result ℕ Fault). IsRightAnswer problem fixings c.args.plan.now stated answer) (sym is)
    (subst (λ (l : List Event). IsRightAnswer problem fixings l stated (Err f)) c.as_slice-events.ensures there)

pub returns-in_err-judge_fixings-clause-first : goal.returns-in_err-judge_fixings-clause-first
returns-in_err-judge_fixings-clause-first c =
    let problem = c.args.problem.now in
    let fixings = c.args.fixings.now in
    let events = c.as_slice-events.result.now in
    let stated = c.args.stated in
    let f = c.in_err-judge_fixings.field-0.0 in
    let is : c.from_residual-in_err-judge_fixings.result ≡ Err f = search rules in
    let there = fault_first problem fixings events stated f (unmet_first problem fixings events stated f c.in_ok-judge_events.ensures c.in_ok-judge_ends.ensures c.in_err-judge_fixings.ensures) in
    subst (λ (answer : Result ℕ Fault). IsFirstAnswer problem fixings c.args.plan.now stated answer) (sym is)
    (subst (λ (l : List Event). IsFirstAnswer problem fixings l stated (Err f)) c.as_slice-events.ensures there)

pub returns-clause-right : goal.returns-clause-right
returns-clause-right c =
    let problem = c.args.problem.now in
    let fixings = c.args.fixings.now in
    let events = c.as_slice-events.result.now in
    let stated = c.args.stated in
    let there = last_right problem fixings events stated c.cost_of.result c.judge_cost.result c.in_ok-judge_events.ensures c.in_ok-judge_ends.ensures c.in_ok-judge_fixings.ensures c.cost_of.ensures c.judge_cost.ensures in
    subst (λ (l : List Event). IsRightAnswer problem fixings l stated c.judge_cost.result) c.as_slice-events.ensures there

pub returns-clause-first : goal.returns-clause-first
returns-clause-first c =
    let problem = c.args.problem.now in
    let fixings = c.args.fixings.now in
    let events = c.as_slice-events.result.now in
    let stated = c.args.stated in
    let there = last_first problem fixings events stated c.cost_of.result c.judge_cost.result c.in_ok-judge_events.ensures c.in_ok-judge_ends.ensures c.in_ok-judge_fixings.ensures c.cost_of.ensures c.judge_cost.ensures in
    subst (λ (l : List Event). IsFirstAnswer problem fixings l stated c.judge_cost.result) c.as_slice-events.ensures there
