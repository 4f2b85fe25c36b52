use Rattle.std.proofs.Common.{refl, sym, inl, ◌∙◌}
use Rattle.std.proofs.lemmas.Bool.{false≢true}
use Rattle.disp_model.specs.Routes.{HasNoRoute}
use Rattle.disp_model.specs.Trees.{Shows}
use Rattle.tree_checker.specs.KnownNodes.{node_here}
use Rattle.tree_checker.proofs.Refusing.{refused_for}
use Rattle.tree_checker.proofs.judging.judge_leaf.Goals as goal

pub returns-then-has_no_route : goal.returns-then-has_no_route
returns-then-has_no_route c = inl ((c.if-has_no_route.ensures (node_here c.args.here) c.requires.known).0 refl)

pub first_broken-requires-clause-routes : goal.first_broken-requires-clause-routes
first_broken-requires-clause-routes c none = false≢true ((c.if-has_no_route.ensures (node_here c.args.here) c.requires.known).1 none)

pub returns : goal.returns
returns c =
    let node = node_here c.args.here in
    let routes = λ (none : HasNoRoute node). false≢true ((c.if-has_no_route.ensures node c.requires.known).1 none) in
    let not = λ (shows : Shows node c.args.verdict c.args.leaf.now). false≢true (sym c.if-branch.false ∙ c.in_ok-shows.ensures.1 shows) in
    refused_for node c.args.verdict c.args.leaf.now c.in_ok-why.why routes not c.in_ok-why.ensures
