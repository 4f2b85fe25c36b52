use Rattle.std.proofs.Common.{Bool, List, sym, subst}
use Rattle.std.specs.Prelude.{IfOk, IsTrue, ◌↔◌}
use Rattle.disp_model.specs.declared.train.Op.{Op}
use Rattle.disp_model.specs.declared.tree.ComponentWalk.{ComponentWalk}
use Rattle.disp_model.specs.declared.tree.TrainWalks.{TrainWalks}
use Rattle.disp_model.specs.declared.tree.Leaf.{Leaf}
use Rattle.disp_model.specs.Walks.{IsCycle}
use Rattle.disp_model.specs.Trees.{ReachVerdict, ShareVerdict, Shows}
use Rattle.tree_checker.specs.KnownNodes.{node_here}
use Rattle.tree_checker.proofs.showing.shows.Goals as goal

pub returns-in-Cycle : goal.returns-in-Cycle
returns-in-Cycle c =
    let node = node_here c.args.here in
    subst (λ (leaf : Leaf). IsTrue c.is_cycle.result ↔ Shows node c.args.verdict leaf) (sym c.in-Cycle.is) (subst (λ (l : List Op). IsTrue c.is_cycle.result ↔ IsCycle node l) c.as_slice.ensures (c.is_cycle.ensures c.args.here.fixings.now c.requires.known))

pub returns-in-Shares : goal.returns-in-Shares
returns-in-Shares c =
    let node = node_here c.args.here in
    let result = c.share_verdict.result in
    subst (λ (leaf : Leaf). IfOk result (λ (shown : Bool). IsTrue shown ↔ Shows node c.args.verdict leaf)) (sym c.in-Shares.is)
    (subst (λ (l : List ComponentWalk). IfOk result (λ (shown : Bool). IsTrue shown ↔ ShareVerdict node c.args.verdict l c.in-Shares.listed)) c.as_slice-in-Shares.ensures
    (subst (λ (l : List TrainWalks). IfOk result (λ (shown : Bool). IsTrue shown ↔ ShareVerdict node c.args.verdict c.as_slice-in-Shares.result.now l)) c.as_slice-in-Shares-2.ensures c.share_verdict.ensures))

pub returns-in-Costs : goal.returns-in-Costs
returns-in-Costs c =
    let node = node_here c.args.here in
    let result = c.reach_verdict.result in
    subst (λ (leaf : Leaf). IfOk result (λ (shown : Bool). IsTrue shown ↔ Shows node c.args.verdict leaf)) (sym c.in-Costs.is)
    (subst (λ (l : List ComponentWalk). IfOk result (λ (shown : Bool). IsTrue shown ↔ ReachVerdict node c.args.verdict l)) c.as_slice-in-Costs.ensures c.reach_verdict.ensures)
