use Rattle.std.proofs.Common.{◌≡◌, ◌∙◌, ◌∷◌, ◌++◌, [], List, ap}
use Rattle.disp_model.specs.declared.decision.Decision.{Decision}
use Rattle.event_graph.specs.declared.changes.Change.{Change}
use Rattle.event_graph.proofs.Past.{graph_extends}
use Rattle.event_graph.proofs.graph.Graph.extend.Goals as goal

pub invariant_of-self-in-Ok-decide : goal.invariant_of-self-in-Ok-decide
invariant_of-self-in-Ok-decide c =
    let g = c.self.inside in
    let change = c.in-Ok-decide.change in
    let trail : c.push.new.self.items ≡ g.trail.items ++ change ∷ [] = (rw (c.is_err.ensures.negation, c.if-is_err.false) at c.push.ensures.items) ∙ ap (λ (l : List Change). l ++ change ∷ []) c.reserve.ensures.items in
    let decisions : c.push-in-Ok-decide.new.self.items ≡ g.decisions.items ++ c.args.decision ∷ [] =
    (rw (c.is_err-in-Ok-decide.ensures.negation, c.if-is_err-2.false) at c.push-in-Ok-decide.ensures.items) ∙ ap (λ (l : List Decision). l ++ c.args.decision ∷ []) c.reserve-2.ensures.items in
    rw (trail, decisions) (graph_extends g.problem.now g.fixings.items g.ops.items g.closed.items g.decisions.items g.parts c.decide.new.parts g.trail.items c.args.decision change c.self.invariant
    (c.in-Ok-decide.ensures.decided g.fixings.items g.decisions.items (rw c.deref.ensures.value c.self.invariant.may)) c.in-Ok-decide.ensures.lowers c.in-Ok-decide.ensures.uppers c.in-Ok-decide.ensures.size c.in-Ok-decide.ensures.known)
