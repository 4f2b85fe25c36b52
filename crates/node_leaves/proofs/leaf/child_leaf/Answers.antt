use Rattle.node_leaves.proofs.leaf.child_leaf.Goals as goal

pub returns-clause-known : goal.returns-clause-known
returns-clause-known c =
    c.put_back.ensures c.args.graph.now c.leaf_below-leaf.ensures.known
    (λ t about. c.set_aside-aside.ensures.aside c.args.graph.now t c.requires.known about)
