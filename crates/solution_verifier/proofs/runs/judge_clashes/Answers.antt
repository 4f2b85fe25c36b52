use Rattle.std.proofs.Common.{refl, inr}
use Rattle.solution_verifier.proofs.Clashes.{clash_is_held, rises_until}
use Rattle.solution_verifier.proofs.runs.judge_clashes.Goals as goal

pub returns-in-Some : goal.returns-in-Some
returns-in-Some c =
    let clash = c.in-Some.clash in
    inr (clash.holder, clash.event, clash.resource, refl, clash_is_held c.args.problem.now c.args.events.now c.args.bound clash c.requires.rules c.in-Some.ensures)

pub first_clash-requires-clause-order : goal.first_clash-requires-clause-order
first_clash-requires-clause-order c = rises_until c.args.problem.now c.args.events.now c.args.bound c.requires.rules
