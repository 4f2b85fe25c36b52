use Rattle.std.proofs.Common.{◌≡◌, take}
use Rattle.std.specs.Prelude.{option_map}
use Rattle.disp_model.specs.History.{last_plan}
use Rattle.answered_tasks.proofs.journal.last_plan.Given as goal

-- the last plan of the entries so far
abbrev pub invariant-loop-entry : goal.invariant-loop-entry
invariant-loop-entry l =
    option_map (λ p. (p.0.now, p.1)) l.last ≡ last_plan (take l.entry-index l.journal)
