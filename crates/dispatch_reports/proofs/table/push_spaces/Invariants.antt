use Rattle.std.specs.Prelude.{replicate, string_bytes}
use Rattle.plain_values.specs.Texts.{Adds}
use Rattle.dispatch_reports.proofs.table.push_spaces.Given as goal

abbrev pub invariant-loop : goal.invariant-loop
invariant-loop l = Adds (string_bytes l.fn.text) (string_bytes l.text) (replicate l.counter 32)
