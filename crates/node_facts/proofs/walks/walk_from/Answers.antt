use Rattle.std.proofs.Common.{refl}
use Rattle.std.proofs.lemmas.Bool.{false≢true}
use Rattle.disp_model.specs.Node.{node_at}
use Rattle.node_facts.proofs.Lengths.{no_walk, walk_is}
use Rattle.node_facts.proofs.walks.walk_from.Goals as goal

pub returns-then-not-is_forced : goal.returns-then-not-is_forced
returns-then-not-is_forced c n =
    let node = node_at c.args.problem.now c.args.fixings.now c.args.decisions.now in
    no_walk node c.args.first c.args.rest.now n (λ forced. false≢true ((c.if-not-is_forced.ensures node c.requires).1 forced))

pub returns : goal.returns
returns c n =
    let node = node_at c.args.problem.now c.args.fixings.now c.args.decisions.now in
    walk_is node c.args.first c.args.rest.now c.walks_on.result c.lower_of-walked.result n ((c.if-not-is_forced.ensures node c.requires).0 refl) c.lower_of-walked.ensures (c.walks_on.ensures c.args.fixings.now c.requires)
