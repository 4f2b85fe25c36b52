use Rattle.std.proofs.Common.{Bool, List, sym, subst}
use Rattle.std.specs.Prelude.{IfOk, IsTrue, ◌↔◌}
use Rattle.disp_model.specs.declared.tree.ComponentWalk.{ComponentWalk}
use Rattle.disp_model.specs.declared.tree.TrainWalks.{TrainWalks}
use Rattle.disp_model.specs.Node.{node_at}
use Rattle.disp_model.specs.Shares.{HaveDistinctTrains, AreOfOthers}
use Rattle.disp_model.specs.Trees.{HaveDistinct}
use Rattle.tree_checker.specs.KnownNodes.{node_here}
use Rattle.tree_checker.specs.declared.why.Why.{Why}
use Rattle.tree_checker.specs.Rules.{component_walks, EndOnTrain, KeepsListRule}
use Rattle.tree_checker.proofs.rules.keeps.Goals as goal

pub returns-in-BadName : goal.returns-in-BadName
returns-in-BadName c =
    let node = node_here c.args.here in
    subst (λ (rule : Why). IsTrue c.has_names.result ↔ KeepsListRule node c.args.verdict c.args.leaf.now rule) (sym c.in-BadName.is) (c.has_names.ensures c.args.here.fixings.now c.requires)

pub returns-in-EmptyWalk : goal.returns-in-EmptyWalk
returns-in-EmptyWalk c =
    let node = node_here c.args.here in
    subst (λ (rule : Why). IsTrue c.are_right.result ↔ KeepsListRule node c.args.verdict c.args.leaf.now rule) (sym c.in-EmptyWalk.is) (c.are_right.ensures c.args.here.fixings.now c.requires)

pub returns-in-NotForced : goal.returns-in-NotForced
returns-in-NotForced c =
    let node = node_here c.args.here in
    subst (λ (rule : Why). IsTrue c.are_right-in-NotForced.result ↔ KeepsListRule node c.args.verdict c.args.leaf.now rule) (sym c.in-NotForced.is) (c.are_right-in-NotForced.ensures c.args.here.fixings.now c.requires)

pub returns-in-BadArc : goal.returns-in-BadArc
returns-in-BadArc c =
    let node = node_here c.args.here in
    subst (λ (rule : Why). IsTrue c.has_arcs.result ↔ KeepsListRule node c.args.verdict c.args.leaf.now rule) (sym c.in-BadArc.is) (c.has_arcs.ensures c.args.here.fixings.now c.requires)

pub returns-in-RepeatedComponent : goal.returns-in-RepeatedComponent
returns-in-RepeatedComponent c =
    let node = node_here c.args.here in
    let result = c.have_distinct.result in
    subst (λ (rule : Why). IfOk result (λ (kept : Bool). IsTrue kept ↔ KeepsListRule node c.args.verdict c.args.leaf.now rule)) (sym c.in-RepeatedComponent.is)
    (subst (λ (l : List ComponentWalk). IfOk result (λ (kept : Bool). IsTrue kept ↔ HaveDistinct l)) c.component_walks-walks.ensures c.have_distinct.ensures)

pub returns-in-RepeatedTrain : goal.returns-in-RepeatedTrain
returns-in-RepeatedTrain c =
    let node = node_here c.args.here in
    let result = c.have_distinct_trains.result in
    subst (λ (rule : Why). IfOk result (λ (kept : Bool). IsTrue kept ↔ KeepsListRule node c.args.verdict c.args.leaf.now rule)) (sym c.in-RepeatedTrain.is)
    (subst (λ (l : List TrainWalks). IfOk result (λ (kept : Bool). IsTrue kept ↔ HaveDistinctTrains l)) c.listed_trains-listed.ensures c.have_distinct_trains.ensures)

pub returns-in-WrongTrain : goal.returns-in-WrongTrain
returns-in-WrongTrain c =
    let problem = c.args.here.problem.now in
    let node = node_at problem c.args.here.fixings.now c.args.here.decisions.now in
    let result = c.are_on_trains.result in
    subst (λ (rule : Why). IfOk result (λ (kept : Bool). IsTrue kept ↔ KeepsListRule node c.args.verdict c.args.leaf.now rule)) (sym c.in-WrongTrain.is)
    (subst (λ (l : List TrainWalks). IfOk result (λ (kept : Bool). IsTrue kept ↔ (AreOfOthers problem (component_walks c.args.leaf.now) l × EndOnTrain l))) c.listed_trains-listed.ensures
    (subst (λ (l : List ComponentWalk). IfOk result (λ (kept : Bool). IsTrue kept ↔ (AreOfOthers problem l c.listed_trains-listed.result.now × EndOnTrain c.listed_trains-listed.result.now))) c.component_walks-walks.ensures c.are_on_trains.ensures))
