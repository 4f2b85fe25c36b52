-- What is kept where nothing is decided.
use Rattle.std.proofs.Common.{◌≡◌, ◌∙◌, List, [], ◌++◌, refl, ap, sym, subst}
use Rattle.std.proofs.lemmas.Option.{none-some}
use Rattle.disp_model.specs.declared.train.Op.{Op}
use Rattle.disp_model.specs.declared.problem.Problem.{Problem}
use Rattle.disp_model.specs.Node.{Node, node_at}
use Rattle.disp_model.specs.Walks.{HasCycle}
use Rattle.incremental_paths.specs.declared.arc.Arc.{Arc}
use Rattle.timed_paths.specs.Timed.{Timed}
use Rattle.event_arcs.specs.Listed.{AreArcsOf, AreLowersOf}
use Rattle.event_graph.specs.Joined.{IsOfEdition, MayJoin}
use Rattle.event_windows.specs.Operations.{AreOperationsOf}
use Rattle.event_graph.specs.Roots.{ArePathsOf}

pub may_join_first : (node : Node) (ops : List Op) (paths : Timed) (arcs : List Arc) → paths.arcs ≡ [] → AreOperationsOf node.problem ops → IsOfEdition node → AreLowersOf node paths.lowers → AreArcsOf node arcs → MayJoin node ops paths arcs
may_join_first node ops paths arcs none ops_are edition lowers_are arcs_are = record { ops_are = ops_are; lowers_are = lowers_are; edition = edition; arcs_are = subst (λ (l : List Arc). AreArcsOf node (l ++ arcs)) (sym none) arcs_are }

pub paths_are : (node : Node) (paths new : Timed) (arcs : List Arc) → paths.arcs ≡ [] → new.lowers ≡ paths.lowers → new.arcs ≡ paths.arcs ++ arcs → AreLowersOf node paths.lowers → AreArcsOf node arcs → (HasCycle node → ⊥) → ArePathsOf node new
paths_are node paths new arcs none kept joined lowers_are arcs_are no_cycle = record {
  arcs_are = subst (AreArcsOf node) (sym (joined ∙ ap (λ (l : List Arc). l ++ arcs) none)) arcs_are;
  lowers_are = subst (AreLowersOf node) (sym kept) lowers_are;
  no_cycle = no_cycle;
}

-- the fixings of a problem to which nothing has changed
pub of_no_changes : (problem : Problem) → IsOfEdition (node_at problem [] [])
of_no_changes problem = ([], λ i change at. absurd (none-some change at), refl)
