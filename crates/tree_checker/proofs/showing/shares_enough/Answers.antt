use Rattle.std.proofs.Common.{Option, subst}
use Rattle.tree_checker.specs.KnownNodes.{node_here}
use Rattle.tree_checker.specs.Bounds.{IsBoundOfAll}
use Rattle.std.proofs.Common.{ℕ}
use Rattle.tree_checker.proofs.Enough.{shares_enough_is}
use Rattle.tree_checker.proofs.showing.shares_enough.Goals as goal

pub returns-in-Some : goal.returns-in-Some
returns-in-Some c =
    let node = node_here c.args.here in
    let known = subst (λ (found : Option ℕ). IsBoundOfAll node c.args.walks.now c.args.listed.now found) c.in-Some.is c.in_ok-bound.ensures in
    shares_enough_is node c.args.walks.now c.args.listed.now c.in-Some.bound c.args.cost c.from.result (c.in_ok-have_distinct.ensures.0 c.if-not-branch.false) (c.in_ok-have_distinct_trains.ensures.0 c.if-not-branch-2.false)
    (c.in_ok-are_of_others.ensures.0 c.if-not-branch-3.false) known c.from.ensures
    c.ranges.cost.fits
