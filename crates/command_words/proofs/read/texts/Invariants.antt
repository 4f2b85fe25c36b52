-- what has been read is the front of the values
use Rattle.std.proofs.Common.{◌≡◌, map, take}
use Rattle.command_words.proofs.read.texts.Given as goal

abbrev pub invariant-loop-value : goal.invariant-loop-value
invariant-loop-value l = l.texts.items ≡ map (λ text. text.now) (take l.value-index l.values)
