use Rattle.packed_nodes.proofs.node.packed.Goals as goal

pub returns-in-Some : goal.returns-in-Some
returns-in-Some c = (c.in-Some.field-0.now, rw (← c.deref.ensures.value) c.in-Some.ensures)
