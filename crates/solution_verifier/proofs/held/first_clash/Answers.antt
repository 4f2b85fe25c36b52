use Rattle.std.proofs.Common.{◌≡◌, ℕ, ◌+◌, ◌≤◌, Option, Some, arith}
use Rattle.std.specs.Prelude.{MatchOption}
use Rattle.solution_verifier.specs.declared.clash.Clash.{Clash}
use Rattle.solution_verifier.specs.Answered.{IsLeastClash}
use Rattle.solution_verifier.proofs.Clashes.{PassBefore, pass_one_more, pass_up_to, least_clash}
use Rattle.solution_verifier.proofs.held.first_clash.Goals as goal
use Rattle.solution_verifier.proofs.held.first_clash.Goals.{in-Some, in_default}

pub loop-place-preserved : goal.loop-place-preserved
loop-place-preserved c =
    let problem = c.args.problem.now in
    let events = c.args.events.now in
    let bound = c.args.bound in
    let place = c.loop-place.place in
    let inv = c.loop-place.invariant in
    let F : ℕ → Option Clash → Type 0 = λ limit found. record {
      within : limit ≤ bound;
      passes : PassBefore problem events (place + 1) limit;
      found : MatchOption found (limit ≡ bound) (IsLeastClash problem events bound limit);
    } in
    elim c.match-first_held.branch [
      | in-Some w ↦
          let clash = w.in-Some.clash in
          let held = w.in-Some.ensures in
          let lower : clash.event ≤ c.loop-place.limit = omega (arith, held.bounded) in
          let made : F clash.event (Some clash) = record {
            within = omega (arith, held.bounded, inv.within);
            passes = pass_one_more problem events place clash.event (pass_up_to problem events place c.loop-place.limit clash.event lower inv.passes) held.earlier;
            found = least_clash problem events place c.loop-place.limit bound clash inv.within inv.passes held;
          } in
          rw w.limit-is (rw w.found-is made)
      | in_default w ↦
          let made : F c.loop-place.limit c.loop-place.found = record {
            within = inv.within;
            passes = pass_one_more problem events place c.loop-place.limit inv.passes w.in_default.ensures;
            found = inv.found;
          } in
          rw w.limit-is (rw w.found-is made)
    ]
