-- the texts so far
use Rattle.std.proofs.Common.{take, string_bytes}
use Rattle.std.specs.List.{flat_map}
use Rattle.plain_values.specs.Texts.{Adds}
use Rattle.problem_text.specs.Texts.{behind_comma, written_train}
use Rattle.problem_text.proofs.write.push_next_trains.Given as goal

abbrev pub invariant-loop-train : goal.invariant-loop-train
invariant-loop-train l = Adds (string_bytes l.fn.text) (string_bytes l.text)
    (flat_map (behind_comma (written_train l.names)) (take l.train-index l.trains))
