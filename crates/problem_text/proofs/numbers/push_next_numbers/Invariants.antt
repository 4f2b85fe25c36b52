-- the texts so far
use Rattle.std.proofs.Common.{take, string_bytes}
use Rattle.std.specs.List.{flat_map}
use Rattle.plain_values.specs.Texts.{Adds}
use Rattle.std.specs.Fmt.{decimal}
use Rattle.problem_text.specs.Texts.{behind_comma}
use Rattle.problem_text.proofs.numbers.push_next_numbers.Given as goal

abbrev pub invariant-loop-number : goal.invariant-loop-number
invariant-loop-number l = Adds (string_bytes l.fn.text) (string_bytes l.text)
    (flat_map (behind_comma decimal) (take l.number-index l.numbers))
