use Rattle.std.proofs.Common.{◌≡◌, ◌+◌, ◌-◌, [], drop, ap, ◌∙◌, arith, rules, ℕ}
use Rattle.std.proofs.lemmas.Option.{slice_get-get_or}
use Rattle.disp_model.specs.Plan.{run_of}
use Rattle.solution_verifier.proofs.Ends.{run_ends_at}
use Rattle.solution_verifier.proofs.event.last_of.Goals as goal

pub returns-then-events-left : goal.returns-then-events-left
returns-then-events-left c =
    let events = c.args.events.now in
    let i = c.loop-left.left - 1 in
    let at = slice_get-get_or events i (record { time = 0; train = 0; operation = 0 }) (omega arith) in
    let next : i + 1 ≡ c.loop-left.left = omega arith in
    let none : run_of c.args.train (drop (i + 1) events) ≡ [] = ap (λ (n : ℕ). run_of c.args.train (drop n events)) next ∙ c.loop-left.invariant.none_behind in
    run_ends_at c.args.train events i _ at (search rules) none
