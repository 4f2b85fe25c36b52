-- the texts so far
use Rattle.std.proofs.Common.{take, string_bytes}
use Rattle.std.specs.List.{flat_map}
use Rattle.plain_values.specs.Texts.{Adds}
use Rattle.tree_certificate.specs.TreeTexts.{walk_text}
use Rattle.tree_certificate.proofs.leaf.push_walks.Given as goal

abbrev pub invariant-loop-walk : goal.invariant-loop-walk
invariant-loop-walk l = Adds (string_bytes l.fn.text) (string_bytes l.text) (flat_map walk_text (take l.walk-index l.walks))
