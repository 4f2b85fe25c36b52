use Rattle.std.proofs.Common.{List, length, ap, sym, subst}
use Rattle.std.proofs.lemmas.Result.{IfOk-weaker}
use Rattle.disp_model.specs.declared.train.Operation.{Operation}
use Rattle.disp_model.specs.Node.{node_at}
use Rattle.node_facts.specs.Orders.{AreKnown}
use Rattle.tree_checker.proofs.Shown.{share_shown, known_read}
use Rattle.tree_checker.proofs.shares.share_of.Goals as goal

pub least_cost-requires-clause-known : goal.least_cost-requires-clause-known
least_cost-requires-clause-known c =
    let fixings = c.args.here.fixings.now in
    let decisions = c.args.here.decisions.now in
    let look = c.in-Some.ensures.lookup in
    (fixings, decisions, known_read (node_at c.args.here.problem.now fixings decisions) c.as_slice.result.now c.args.shown.now.train c.in-Some.known.now (subst (AreKnown (node_at c.args.here.problem.now fixings decisions)) (sym c.as_slice.ensures) c.requires.known) look.3.0 look.1)

pub returns : goal.returns
returns c =
    let fixings = c.args.here.fixings.now in
    let decisions = c.args.here.decisions.now in
    let look = c.in-Some.ensures.lookup in
    let is = known_read (node_at c.args.here.problem.now fixings decisions) c.as_slice.result.now c.args.shown.now.train c.in-Some.known.now (subst (AreKnown (node_at c.args.here.problem.now fixings decisions)) (sym c.as_slice.ensures) c.requires.known) look.3.0 look.1 in
    IfOk-weaker c.least_cost.result _ _ (λ found least.
    share_shown (node_at c.args.here.problem.now fixings decisions) c.args.shown.now c.as_slice-walks.result.now (length c.train_of-count.result.now) c.in_ok-bases.bases.items c.raise_all.new.bases.items c.as_slice-2.result.now found
    c.as_slice-walks.ensures (ap (λ (l : List Operation). length l) c.train_of-count.ensures) c.in_ok-bases.ensures c.if-not-raise_all.ensures c.as_slice-2.ensures.value
    (least fixings decisions is)) c.least_cost.ensures
