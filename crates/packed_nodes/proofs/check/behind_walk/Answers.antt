use Rattle.std.proofs.lemmas.Option.{IfSome_then}
use Rattle.packed_nodes.proofs.Looping.{is_walk}
use Rattle.packed_nodes.proofs.check.behind_walk.Goals as goal

pub returns : goal.returns
returns c =
    IfSome_then c.behind_ops.result c.behind_ops.ensures (λ rest read.
    is_walk c.args.front.now c.in_ok-others.others.now c.args.walk.now c.in_ok-head.head
    c.args.bytes.now c.in_ok-head.rest.now rest.now c.in_ok-head.ensures
    c.in_ok-others.ensures.is c.in_ok-others.ensures.count read)
