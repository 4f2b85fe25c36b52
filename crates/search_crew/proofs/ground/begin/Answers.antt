use Rattle.std.proofs.Common.{◌≡◌, ◌∙◌, [], sym, ap, subst}
use Rattle.disp_model.specs.Node.{Node, node_at}
use Rattle.event_graph.specs.Joined.{IsOfEdition}
use Rattle.search_crew.proofs.ground.begin.Goals as goal

pub returns-in_ok-new-in-Ok : goal.returns-in_ok-new-in-Ok
returns-in_ok-new-in-Ok c =
    let explorer = c.in_ok-new-in-Ok.field-0 in
    let same : explorer.graph ≡ node_at c.args.problem.now c.args.fixings.now [] = c.in_ok-new-in-Ok.ensures.graph ∙ c.in-Ok.ensures.ok in
    (ap (λ (n : Node). n.problem) same, ap (λ (n : Node). n.fixings) same, subst IsOfEdition (sym same) c.requires, c.in_ok-new-in-Ok.ensures.ready)
