use Rattle.std.proofs.Common.{subst}
use Rattle.disp_model.specs.Shares.{ShowsShare, SharesCost}
use Rattle.node_facts.proofs.AddedUp.{none_added_up, added_up_more, no_sum}
use Rattle.tree_checker.specs.KnownNodes.{node_here}
use Rattle.tree_checker.specs.TrainCosts.{IsShown}
use Rattle.tree_checker.proofs.SharesAdded.{shares_are_sums, added_all}
use Rattle.tree_checker.proofs.shares.shares_cost.Goals as goal

pub loop-shown-init : goal.loop-shown-init
loop-shown-init c = none_added_up (SharesCost (node_here c.args.here)) c.args.listed.now

pub returns-in-None : goal.returns-in-None
returns-in-None c =
    let node = node_here c.args.here in
    no_sum (ShowsShare node) (SharesCost node) c.args.listed.now c.loop-shown.shown-index c.loop-shown.total c.shown-item.result (shares_are_sums node) c.loop-shown-test.true c.shown-item.is c.loop-shown.invariant
    (subst (IsShown node c.shown-item.result) c.in-None.is c.in_ok-share.ensures)

pub loop-shown-preserved : goal.loop-shown-preserved
loop-shown-preserved c =
    let node = node_here c.args.here in
    let is = subst (IsShown node c.shown-item.result) c.in-Some.is c.in_ok-share.ensures in
    added_up_more (ShowsShare node) (SharesCost node) c.args.listed.now c.loop-shown.shown-index c.loop-shown.total c.shown-item.result is.share c.in-Some.share c.saturating_add-total.result (shares_are_sums node) c.loop-shown-test.true c.shown-item.is
    c.loop-shown.invariant is.share_is is.found_is c.saturating_add-total.ensures

pub returns : goal.returns
returns c = added_all (node_here c.args.here) c.args.listed.now c.loop-shown.shown-index c.loop-shown.total c.loop-shown-test.false c.loop-shown.invariant
