-- What a searcher may hand in.
use Rattle.std.proofs.Common.{◌≡◌, ◌∙◌, ℕ, ◌≤◌, List, [], ◌∷◌, sym, ap, subst}
use Rattle.disp_model.specs.declared.decision.Decision.{Decision}
use Rattle.disp_model.specs.declared.fixing.Fixing.{Fixing}
use Rattle.disp_model.specs.declared.problem.Problem.{Problem}
use Rattle.disp_model.specs.History.{newest, edition_of, fixings_after}
use Rattle.disp_model.specs.Node.{Node, node_at}
use Rattle.open_nodes.specs.declared.work.Fragment.{Fragment}
use Rattle.open_nodes.specs.declared.work.Work.{Work}
use Rattle.tree_growth.specs.Grown.{GrowsBelow, branches}
use Rattle.dispatch_core.specs.Asked.{IsGrowth}
use Rattle.dispatch_core.specs.States.{Core, IsExamined}
use Rattle.dispatch_core.proofs.Replacing.{newest_fixings}
use Rattle.search_workers.specs.Searched.{IsOfNewest, node_of}

module _ (core : Core) (work : Work) (is_newest : work.edition ≡ newest core.history) where
  -- what holds under the newest edition's fixings holds under those of the work's
  carried : (P : List Fixing → Type 0) → P (edition_of core.history) → P (fixings_after work.edition core.history)
  carried P is =
      let same : fixings_after work.edition core.history ≡ edition_of core.history = ap (λ (n : ℕ). fixings_after n core.history) is_newest ∙ newest_fixings core.history in
      subst P (sym same) is

  pub may_give_examined : IsExamined core.settings.rule (node_of core work) work.bound → IsExamined core.settings.rule (node_at core.problem (fixings_after work.edition core.history) work.decisions) work.bound
  may_give_examined is = carried (λ fixings. IsExamined core.settings.rule (node_at core.problem fixings work.decisions) work.bound) is

-- what holds at a node of the newest edition holds at the core's
pub at_newest : (P : Node → Type 0) (core : Core) (graph : Node) (decisions : List Decision) → IsOfNewest core graph
    → P (node_at graph.problem graph.fixings decisions) → P (node_at core.problem (edition_of core.history) decisions)
at_newest P core graph decisions is holds =
    subst (λ (p : Problem). P (node_at p (edition_of core.history) decisions)) is.problem (subst (λ (f : List Fixing). P (node_at graph.problem f decisions)) is.fixings holds)

pub is_growth : (core : Core) (fragment : Fragment) → fragment.work.edition ≡ newest core.history
    → GrowsBelow core.settings.rule fragment.work.best (node_of core fragment.work ∷ []) fragment.subtree fragment.bounds → branches fragment.subtree ≤ fragment.work.allowance → IsGrowth core fragment
is_growth core fragment is_newest grows few = record {
  grows = carried core fragment.work is_newest (λ fixings. GrowsBelow core.settings.rule fragment.work.best (node_at core.problem fixings fragment.work.decisions ∷ []) fragment.subtree fragment.bounds) grows;
  few = few;
}
