use Rattle.std.proofs.Common.{refl, sym, subst}
use Rattle.std.proofs.lemmas.Bool.{false≢true}
use Rattle.disp_model.specs.Node.{node_at}
use Rattle.node_facts.specs.Orders.{AreKnown}
use Rattle.node_facts.proofs.Sharing.{longest_apart, longest_own, longest_none, known_at, own_train}
use Rattle.node_facts.proofs.arcs.longest_arc.Goals as goal

pub returns-then-not-is_forced : goal.returns-then-not-is_forced
returns-then-not-is_forced c fixings are n =
    let node = node_at c.args.problem.now fixings c.args.decisions.now in
    let look = c.in_ok-first.ensures.lookup in
    let first = known_at node c.as_slice-trains.result.now c.args.from.train c.in_ok-first.first.now (subst (AreKnown node) (sym c.as_slice-trains.ensures) are) look.3.0 look.1 in
    longest_none node c.args.from c.args.to (λ both. false≢true ((c.if-not-is_forced.ensures node c.args.from.train first).1 both.0)) n

pub returns-then-not-is_forced-2 : goal.returns-then-not-is_forced-2
returns-then-not-is_forced-2 c fixings are n =
    let node = node_at c.args.problem.now fixings c.args.decisions.now in
    let look = c.in_ok-second.ensures.lookup in
    let second = known_at node c.as_slice-trains.result.now c.args.to.train c.in_ok-second.second.now (subst (AreKnown node) (sym c.as_slice-trains.ensures) are) look.3.0 look.1 in
    longest_none node c.args.from c.args.to (λ both. false≢true ((c.if-not-is_forced-2.ensures node c.args.to.train second).1 both.1)) n

pub returns-then-from-to : goal.returns-then-from-to
returns-then-from-to c fixings are n =
    let node = node_at c.args.problem.now fixings c.args.decisions.now in
    let look = c.in_ok-first.ensures.lookup in
    let first = known_at node c.as_slice-trains.result.now c.args.from.train c.in_ok-first.first.now (subst (AreKnown node) (sym c.as_slice-trains.ensures) are) look.3.0 look.1 in
    let own = own_train node c.args.from c.args.to c.least_between.result c.if-from-to.true (c.least_between.ensures node c.args.from.train first) in
    longest_own node c.args.from c.args.to c.least_between.result c.if-from-to.true own n

pub release_arc-released-requires : goal.release_arc-released-requires
release_arc-released-requires c =
    let node = node_at c.args.problem.now c.requires.0 c.args.decisions.now in
    let look = c.in_ok-first.ensures.lookup in
    (c.requires.0, known_at node c.as_slice-trains.result.now c.args.from.train c.in_ok-first.first.now (subst (AreKnown node) (sym c.as_slice-trains.ensures) c.requires.1) look.3.0 look.1)

pub returns : goal.returns
returns c fixings are n =
    let node = node_at c.args.problem.now fixings c.args.decisions.now in
    let look = c.in_ok-first.ensures.lookup in
    let look_to = c.in_ok-second.ensures.lookup in
    let first = known_at node c.as_slice-trains.result.now c.args.from.train c.in_ok-first.first.now (subst (AreKnown node) (sym c.as_slice-trains.ensures) are) look.3.0 look.1 in
    let second = known_at node c.as_slice-trains.result.now c.args.to.train c.in_ok-second.second.now (subst (AreKnown node) (sym c.as_slice-trains.ensures) are) look_to.3.0 look_to.1 in
    rw c.greater.ensures
    (longest_apart node c.args.from c.args.to c.order_arc-ordered.result c.release_arc-released.result ((c.if-not-is_forced.ensures node c.args.from.train first).0 refl) ((c.if-not-is_forced-2.ensures node c.args.to.train second).0 refl) c.if-from-to.false
    c.order_arc-ordered.ensures (c.release_arc-released.ensures fixings first) n)
