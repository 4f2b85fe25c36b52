-- The root of the newest edition.
use Rattle.std.proofs.Common.{◌≡◌, List, [], sym, subst}
use Rattle.disp_model.specs.declared.fixing.Fixing.{Fixing}
use Rattle.disp_model.specs.declared.problem.Problem.{Problem}
use Rattle.disp_model.specs.declared.tree.Leaf.{Leaf as TreeLeaf}
use Rattle.disp_model.specs.History.{edition_of}
use Rattle.disp_model.specs.Node.{Node, node_at}
use Rattle.dispatch_core.specs.States.{Core, IsSound}
use Rattle.event_graph.specs.Joined.{IsOfEdition}
use Rattle.history_laws.proofs.Legality.{editions_are}
use Rattle.node_leaves.specs.Shown.{IsDeadLeaf}
use Rattle.search_workers.specs.Searched.{IsOfNewest}
use Rattle.search_workers.proofs.GoingOn.{newest_is_edition}

module _ (core : Core) (sound : IsSound core) (problem : Problem) (same : core.problem ≡ problem) (fixings : List Fixing) (are : fixings ≡ edition_of core.history) where
  pub root_newest : IsOfNewest core (node_at problem fixings [])
  root_newest = record { problem = sym same; fixings = are; edition = editions_are core.problem core.settings core.history sound.legal }

  pub root_edition : IsOfEdition (node_at problem fixings [])
  root_edition = newest_is_edition core (node_at problem fixings []) root_newest

  pub graph_newest : (graph : Node) → graph ≡ node_at problem fixings [] → IsOfNewest core graph
  graph_newest graph is = subst (IsOfNewest core) (sym is) root_newest

  pub dead_root : (leaf : TreeLeaf) → IsDeadLeaf (node_at problem fixings []) leaf → IsDeadLeaf (node_at core.problem (edition_of core.history) []) leaf
  dead_root leaf is =
      subst (λ (p : Problem). IsDeadLeaf (node_at p (edition_of core.history) []) leaf) (sym same) (subst (λ (f : List Fixing). IsDeadLeaf (node_at problem f []) leaf) are is)
