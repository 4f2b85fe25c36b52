-- the texts so far
use Rattle.std.proofs.Common.{take, string_bytes}
use Rattle.std.specs.List.{flat_map}
use Rattle.plain_values.specs.Texts.{Adds}
use Rattle.problem_text.specs.Texts.{behind_comma, written_operation}
use Rattle.problem_text.proofs.operation.push_next_operations.Given as goal

abbrev pub invariant-loop-operation : goal.invariant-loop-operation
invariant-loop-operation l = Adds (string_bytes l.fn.text) (string_bytes l.text)
    (flat_map (behind_comma (written_operation l.names)) (take l.operation-index l.operations))
