use Rattle.std.proofs.Common.{length, refl, subst, arith, Some}
use Rattle.std.specs.Prelude.{MatchOption}
use Rattle.std.proofs.lemmas.Option.{slice_get_read, slice_get_within}
use Rattle.disp_model.specs.Node.{Node, node_at}
use Rattle.disp_model.specs.Nodes.{IsDead}
use Rattle.timed_paths.specs.Above.{IsAboveUpper}
use Rattle.event_arcs.proofs.Offsets.{all_have_routes}
use Rattle.event_graph.specs.Late.{IsLateAt}
use Rattle.event_graph.proofs.Lateness.{late_of_above, none_late_or_closed}
use Rattle.event_graph.proofs.graph.Graph.late.Goals as goal

pub returns-in-Some : goal.returns-in-Some
returns-in-Some c =
    let g = c.self.inside in
    let node : Node = node_at g.problem.now g.fixings.items g.decisions.items in
    let may = c.self.invariant.may in
    let above : IsAboveUpper g.parts.paths.lowers g.parts.paths.arcs g.parts.paths.uppers c.in-Some.number = c.in-Some.ensures in
    subst (λ (n : Node). IsLateAt n c.index.result.now) c.self.view_is
    (late_of_above node g.parts.paths.arcs g.parts.paths.lowers g.parts.paths.uppers may.state.arcs may.lowers_are c.self.invariant.uppers_are may.state.no_cycle g.ops.items c.in-Some.number c.index.result.now may.ops_are c.in-Some.ensures (slice_get_read g.ops.items (length g.ops.items) c.in-Some.number c.index.result.now refl (omega (arith, slice_get_within g.parts.paths.uppers c.in-Some.number (Some above.upper) above.upper_is, c.self.invariant.uppers_are.long, may.ops_are.long)) c.index.ensures))

pub returns-in-None : goal.returns-in-None
returns-in-None c =
    let g = c.self.inside in
    let node : Node = node_at g.problem.now g.fixings.items g.decisions.items in
    let may = c.self.invariant.may in
    subst (λ (n : Node). MatchOption c.first_forced.result (IsDead n → ⊥) (IsLateAt n)) c.self.view_is
    (none_late_or_closed node g.parts.paths.arcs g.parts.paths.lowers g.parts.paths.uppers may.state.arcs may.lowers_are c.self.invariant.uppers_are may.state.no_cycle (all_have_routes node g.parts.each.items may.state.placed) g.closed.items c.first_forced.result c.self.invariant.closed_are c.in-None.ensures
    (rw c.deref-in-None.ensures.value at (c.first_forced.ensures g.fixings.items g.decisions.items (rw c.deref.ensures.value may.state.placed))))
