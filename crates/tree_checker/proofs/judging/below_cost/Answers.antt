use Rattle.std.proofs.Common.{ℕ, List, Option, None, Some, refl, subst}
use Rattle.disp_model.specs.declared.tree.ComponentWalk.{ComponentWalk}
use Rattle.disp_model.specs.declared.tree.TrainWalks.{TrainWalks}
use Rattle.disp_model.specs.declared.tree.Verdict.TheVariants.{Optimal}
use Rattle.tree_checker.specs.KnownNodes.{node_here}
use Rattle.tree_checker.specs.Rules.{component_walks}
use Rattle.tree_checker.specs.Bounds.{IsBoundOfAll}
use Rattle.tree_checker.proofs.Kept.{below_first}
use Rattle.tree_checker.proofs.Refusing.{has_bound}
use Rattle.tree_checker.proofs.judging.below_cost.Goals as goal

pub returns-in-Some : goal.returns-in-Some
returns-in-Some c =
    let node = node_here c.args.here in
    let at = subst (λ (found : Option ℕ). IsBoundOfAll node c.component_walks-walks.result.now c.listed_trains-listed.result.now found) c.in-Some.is c.in_ok-bound.ensures in
    let walks = subst (λ (l : List ComponentWalk). IsBoundOfAll node l c.listed_trains-listed.result.now (Some c.in-Some.bound)) c.component_walks-walks.ensures at in
    let listed = subst (λ (l : List TrainWalks). IsBoundOfAll node (component_walks c.args.leaf.now) l (Some c.in-Some.bound)) c.listed_trains-listed.ensures walks in
    below_first node (Optimal c.args.cost) c.args.leaf.now c.in-Some.bound c.args.cost refl c.ranges.cost.fits c.requires.keeps c.requires.not_shown listed

pub returns-in-None : goal.returns-in-None
returns-in-None c =
    let node = node_here c.args.here in
    let at = subst (λ (found : Option ℕ). IsBoundOfAll node c.component_walks-walks.result.now c.listed_trains-listed.result.now found) c.in-None.is c.in_ok-bound.ensures in
    let walks = subst (λ (l : List ComponentWalk). IsBoundOfAll node l c.listed_trains-listed.result.now None) c.component_walks-walks.ensures at in
    let listed = subst (λ (l : List TrainWalks). IsBoundOfAll node (component_walks c.args.leaf.now) l None) c.listed_trains-listed.ensures walks in
    absurd (has_bound node (Optimal c.args.cost) c.args.leaf.now c.requires.routes c.requires.keeps listed)
