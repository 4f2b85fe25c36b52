-- the texts so far
use Rattle.std.proofs.Common.{take, string_bytes}
use Rattle.std.specs.List.{flat_map}
use Rattle.plain_values.specs.Texts.{Adds}
use Rattle.tree_certificate.specs.TreeTexts.{op_text}
use Rattle.tree_certificate.proofs.leaf.push_ops.Given as goal

abbrev pub invariant-loop-op : goal.invariant-loop-op
invariant-loop-op l = Adds (string_bytes l.fn.text) (string_bytes l.text) (flat_map op_text (take l.op-index l.ops))
