use Rattle.std.proofs.Common.{List, refl, subst, inl}
use Rattle.std.proofs.lemmas.Bool.{false≢true}
use Rattle.std.proofs.lemmas.Result.{IfOk-weaker}
use Rattle.disp_model.specs.Node.{node_at}
use Rattle.std.specs.Prelude.{IfOk, IsTrue, ◌↔◌}
use Rattle.disp_model.specs.declared.decision.Decision.{Decision}
use Rattle.disp_model.specs.Routes.{HasNoRoute}
use Rattle.disp_model.specs.Trees.{LeafHolds}
use Rattle.tree_checker.proofs.Refusing.{holds_shown}
use Rattle.tree_checker.proofs.judging.leaf_holds.Goals as goal

pub returns-then-has_no_route : goal.returns-then-has_no_route
returns-then-has_no_route c =
    let node = node_at c.args.problem.now c.args.fixings.now c.in_ok-path.path in
    let none = subst (λ (l : List Decision). HasNoRoute (node_at c.args.problem.now c.args.fixings.now l)) c.in_ok-path.ensures ((c.if-has_no_route.ensures node c.in_ok-trains.ensures).0 refl) in
    (λ h. inl none, λ h. refl)

pub returns : goal.returns
returns c =
    let node = node_at c.args.problem.now c.args.fixings.now c.in_ok-path.path in
    let routes = λ (none : HasNoRoute node). false≢true ((c.if-has_no_route.ensures node c.in_ok-trains.ensures).1 none) in
    let holds = IfOk-weaker c.shows.result _ _ (λ shown says. holds_shown node c.args.verdict c.args.leaf.now shown routes says) c.shows.ensures in
    subst (λ (l : List Decision). IfOk c.shows.result (λ shown. IsTrue shown ↔ LeafHolds (node_at c.args.problem.now c.args.fixings.now l) c.args.verdict c.args.leaf.now)) c.in_ok-path.ensures holds
