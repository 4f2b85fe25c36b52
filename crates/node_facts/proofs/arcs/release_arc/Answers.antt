use Rattle.std.proofs.Common.{refl}
use Rattle.std.proofs.lemmas.Bool.{false≢true}
use Rattle.disp_model.specs.Node.{node_at}
use Rattle.node_facts.proofs.Sharing.{release_none, release_undecided, release_apart, release_is}
use Rattle.node_facts.proofs.arcs.release_arc.Goals as goal

pub returns-then-not-puts_first : goal.returns-then-not-puts_first
returns-then-not-puts_first c fixings is n =
    let node = node_at c.args.problem.now fixings c.args.decisions.now in
    release_undecided node c.args.next c.args.b c.in-Some.op is.there (c.in-Some.ensures node c.args.next.train is) (λ h. false≢true (c.if-not-puts_first.ensures.1 h)) n

pub returns-in-Some-release_between : goal.returns-in-Some-release_between
returns-in-Some-release_between c fixings is n =
    let node = node_at c.args.problem.now fixings c.args.decisions.now in
    rw c.from.ensures
    (release_is node c.args.next c.args.b c.in-Some.op c.in-Some-release_between.release is.there (c.in-Some.ensures node c.args.next.train is) (c.if-not-puts_first.ensures.0 refl) c.in-Some-release_between.ensures n)

pub returns-in-None-release_between : goal.returns-in-None-release_between
returns-in-None-release_between c fixings is n =
    let node = node_at c.args.problem.now fixings c.args.decisions.now in
    release_apart node c.args.next c.args.b c.in-Some.op is.there (c.in-Some.ensures node c.args.next.train is) c.in-None-release_between.ensures n

pub returns-in-None : goal.returns-in-None
returns-in-None c fixings is n =
    let node = node_at c.args.problem.now fixings c.args.decisions.now in
    release_none node c.args.next c.args.b (c.in-None.ensures node c.args.next.train is) n
