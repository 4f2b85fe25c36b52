use Rattle.open_nodes.proofs.nodes.Nodes.bound.Goals as goal

pub returns : goal.returns
returns c =
    let s = c.self.inside in
    rw (← c.self.view_is) (c.least_bound.ensures s.places.items s.edition c.self.invariant.1)
