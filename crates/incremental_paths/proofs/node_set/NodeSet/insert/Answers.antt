use Rattle.std.proofs.Common.{◌≡◌, ◌<◌, false, length, sym, ◌∙◌, arith}
use Rattle.incremental_paths.specs.Ordered.{is_marked}
use Rattle.incremental_paths.proofs.Listed.{room_left, member_more, listed_more}
use Rattle.incremental_paths.proofs.node_set.NodeSet.insert.Goals as goal

pub index_mut-requires : goal.index_mut-requires
index_mut-requires c =
    let f = c.self.inside in
    let lt : c.args.node < length f.nodes.items = rw (← c.self.view_is) at c.requires in
    let free : is_marked f.marks c.args.node ≡ false = sym c.has.ensures ∙ c.if-not-has.true in
    omega (arith, room_left f.marks f.nodes.items f.count c.self.invariant c.args.node free lt, f.nodes.ok.0)

pub invariant_of-self : goal.invariant_of-self
invariant_of-self c =
    let f = c.self.inside in
    let lt : c.args.node < length f.nodes.items = rw (← c.self.view_is) at c.requires in
    let free : is_marked f.marks c.args.node ≡ false = sym c.has.ensures ∙ c.if-not-has.true in
    rw c.mark.ensures (member_more f.marks f.nodes.items f.count c.self.invariant c.args.node free lt)

pub returns-then-not-has-clause-listed : goal.returns-then-not-has-clause-listed
returns-then-not-has-clause-listed c =
    let f = c.self.inside in
    let lt : c.args.node < length f.nodes.items = rw (← c.self.view_is) at c.requires in
    let free : is_marked f.marks c.args.node ≡ false = sym c.has.ensures ∙ c.if-not-has.true in
    rw (← c.self.view_is) (listed_more f.marks f.nodes.items f.count c.self.invariant c.args.node free lt)
