-- the texts so far
use Rattle.std.proofs.Common.{take, string_bytes}
use Rattle.std.specs.List.{flat_map}
use Rattle.plain_values.specs.Texts.{Adds}
use Rattle.tree_certificate.specs.TreeTexts.{node_text}
use Rattle.tree_certificate.proofs.write.push_nodes.Given as goal

abbrev pub invariant-loop-node : goal.invariant-loop-node
invariant-loop-node l = Adds (string_bytes l.fn.text) (string_bytes l.text) (flat_map node_text (take l.node-index l.nodes))
