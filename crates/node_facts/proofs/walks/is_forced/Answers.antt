use Rattle.std.proofs.Common.{sym, subst}
use Rattle.node_facts.specs.Orders.{AreKnown}
use Rattle.node_facts.proofs.Sharing.{known_at}
use Rattle.node_facts.proofs.walks.is_forced.Goals as goal

pub returns-in-Some : goal.returns-in-Some
returns-in-Some c node are =
    let look = c.in-Some.ensures.lookup in
    c.is_forced.ensures node c.args.op.train (known_at node c.as_slice.result.now c.args.op.train c.in-Some.known.now (subst (AreKnown node) (sym c.as_slice.ensures) are) look.3.0 look.1)
