-- Routes that are known of trains.
use Rattle.std.proofs.Common.{◌≡◌, ◌∙◌, [], sym, subst}
use Rattle.std.specs.Prelude.{◌↔◌, All}
use Rattle.std.proofs.lemmas.List.{get_or_default}
use Rattle.disp_model.specs.Node.{Node}
use Rattle.disp_model.specs.Routes.{AgreesWithFixing, AgreesWithDecision}
use Rattle.event_arcs.specs.declared.owns.Own.{Own}
use Rattle.event_arcs.specs.Owned.{own_at}
use Rattle.event_arcs.proofs.Offsets.{placed_at}
use Rattle.event_arcs.proofs.Owning.{own_routes}
use Rattle.event_graph.specs.States.{GraphState, IsStateAt}
use Rattle.event_graph.specs.Known.{AreByOwn}

-- the routes of a train at a node are those that its own fixings and decisions allow
pub routes_by_own_alone : (node : Node) (state : GraphState) → IsStateAt node state
    → AreByOwn node.problem state
routes_by_own_alone node state is t own placed there here own_is placed_is =
    own_routes node.problem own.fixings node.fixings own.decisions node.decisions t
    (λ route. let both = subst
    (λ (o : Own). All (AgreesWithFixing t route) node.fixings
    ↔ All (AgreesWithFixing t route) o.fixings)
    read (is.own.of_fixings t route there)
    in (both.1, both.0))
    (λ route. let both = subst
    (λ (o : Own). All (AgreesWithDecision t route) node.decisions
    ↔ All (AgreesWithDecision t route) o.decisions)
    read (is.own.of_decisions t route there)
    in (both.1, both.0))
    placed.routes (placed_at node state.each t placed is.placed here placed_is).are_routes
  where
    read : own_at state.owns t ≡ own
    read = get_or_default state.owns t (record { fixings = []; decisions = [] }) own there ∙ sym own_is
