-- What one more decision leaves as it was: what the trains have that it is not about.
use Rattle.std.proofs.Common.{◌≡◌, ℕ, [], ◌∷◌, ◌++◌, Some, refl}
use Rattle.std.proofs.lemmas.List.Elements.{All-push, All-pop}
use Rattle.disp_model.specs.declared.train.Op.{Op}
use Rattle.disp_model.specs.declared.decision.Decision.{Decision}
use Rattle.disp_model.specs.Node.{Node, with_decision}
use Rattle.disp_model.specs.Routes.{AgreesWithDecision, HasRoute, IsForced}
use Rattle.disp_model.specs.Arcs.{IsTrainArc, GoesTo}
use Rattle.route_sets.specs.declared.routes.Routes.{Routes}
use Rattle.route_sets.specs.Sets.{AreRoutesOf}
use Rattle.event_arcs.specs.Owned.{train_of_decision}
use Rattle.event_arcs.proofs.Owning.{other_decision, own_routes}
use Rattle.event_arcs.proofs.Extending.{allowed_before, allowed_still}

-- the decision is not about the routes of the train
abbrev pub IsApart : Decision → ℕ → Type 0
IsApart d t = train_of_decision d ≡ Some t → ⊥

pub route_after : (node : Node) (d : Decision) (t : ℕ) → IsApart d t → HasRoute node t → HasRoute (with_decision node d) t
route_after node d t apart (route, allowed) = (route, allowed_still node d t route apart allowed)

pub forced_before : (node : Node) (d : Decision) (o : Op) → IsApart d o.train → IsForced (with_decision node d) o → IsForced node o
forced_before node d o apart forced = record {
  train = forced.train;
  allowed = (forced.allowed.0, allowed_before node d o.train forced.allowed.0 forced.allowed.1);
  each_has = λ route allowed. forced.each_has route (allowed_still node d o.train route apart allowed);
}

pub goes_before : (node : Node) (d : Decision) (a n : Op) → IsApart d a.train → GoesTo (with_decision node d) a n → GoesTo node a n
goes_before node d a n apart goes = (goes.0, λ route allowed. goes.1 route (allowed_still node d a.train route apart allowed))

pub train_arc_before : (node : Node) (d : Decision) (u v : Op) (sum : ℕ) → IsApart d u.train → IsTrainArc (with_decision node d) u v sum → IsTrainArc node u v sum
train_arc_before node d u v sum apart arc = record {
  same_train = arc.same_train;
  reached = (arc.reached.0, allowed_before node d u.train arc.reached.0 arc.reached.1, arc.reached.2);
  least = λ route total allowed passes. arc.least route total (allowed_still node d u.train route apart allowed) passes;
}

pub routes_after : (node : Node) (d : Decision) (t : ℕ) (routes : Routes) → IsApart d t → AreRoutesOf node t routes → AreRoutesOf (with_decision node d) t routes
routes_after node d t routes apart are =
    own_routes node.problem node.fixings node.fixings (with_decision node d).decisions node.decisions t (λ route. (λ all. all, λ all. all)) (λ route. (
      λ all. (All-pop (AgreesWithDecision t route) (node.decisions ++ d ∷ []) node.decisions (Some d) refl all).0,
      λ all. All-push (AgreesWithDecision t route) node.decisions d all (other_decision t route d apart),
    )) routes are
