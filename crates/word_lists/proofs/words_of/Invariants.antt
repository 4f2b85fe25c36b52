use Rattle.std.proofs.Common.{◌≡◌, map, string_bytes, take}
use Rattle.word_lists.proofs.words_of.Given as goal

abbrev pub invariant-loop-word : goal.invariant-loop-word
invariant-loop-word l = map (λ word. string_bytes word) l.list.items ≡ map (λ word. word.now) (take l.word-index l.words)
