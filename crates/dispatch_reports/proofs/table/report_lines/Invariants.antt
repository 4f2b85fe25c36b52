use Rattle.std.proofs.Common.{◌≡◌, ◌∷◌}
use Rattle.dispatch_reports.specs.Tables.{head_line, train_lines}
use Rattle.dispatch_reports.proofs.table.report_lines.Given as goal

abbrev pub invariant-loop-train : goal.invariant-loop-train
invariant-loop-train l = l.lines ≡ head_line ∷ train_lines l.problem l.events l.train
