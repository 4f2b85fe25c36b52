use Rattle.std.proofs.Common.{◌≡◌, ◌++◌, drop}
use Rattle.std.specs.List.{concat}
use Rattle.dispatch_reports.proofs.table.report.Given as goal

-- what is written, before what is left
abbrev pub invariant-loop-line : goal.invariant-loop-line
invariant-loop-line l =
    l.text.items ++ concat (drop l.line-index l.line-items) ≡ concat l.line-items
