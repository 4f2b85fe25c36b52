-- the texts so far
use Rattle.std.proofs.Common.{take, string_bytes}
use Rattle.std.specs.List.{flat_map}
use Rattle.plain_values.specs.Texts.{Adds}
use Rattle.tree_certificate.specs.TreeTexts.{listed_text}
use Rattle.tree_certificate.proofs.leaf.push_trains.Given as goal

abbrev pub invariant-loop-listed : goal.invariant-loop-listed
invariant-loop-listed l = Adds (string_bytes l.fn.text) (string_bytes l.text) (flat_map listed_text (take l.listed-index l.trains))
