-- What a searcher may hand in.
use Rattle.std.proofs.Common.{◌≡◌, ◌∙◌, ℕ, ◌≤◌, List, [], ◌∷◌, ◌++◌, map, Option, Some, refl, sym, subst, arith}
use Rattle.std.specs.Prelude.{All}
use Rattle.disp_model.specs.declared.decision.Choice.{Choice}
use Rattle.disp_model.specs.declared.fixing.Fixing.{Fixing}
use Rattle.disp_model.specs.declared.plan.Event.{Event}
use Rattle.disp_model.specs.declared.problem.Problem.{Problem}
use Rattle.disp_model.specs.declared.settings.Rule.{Rule}
use Rattle.disp_model.specs.declared.tree.TreeNode.{TreeNode}
use Rattle.disp_model.specs.declared.tree.TreeNode.TheVariants.{Branch, Leaf}
use Rattle.disp_model.specs.WellFormed.{horizon}
use Rattle.disp_model.specs.History.{fixings_after}
use Rattle.disp_model.specs.Node.{Node, node_at, with_decision}
use Rattle.disp_model.specs.Trees.{children_of}
use Rattle.disp_model.specs.Valid.{IsValid}
use Rattle.open_nodes.specs.declared.work.Work.{Work}
use Rattle.tree_growth.specs.Grown.{Helps, GrowsBelow}
use Rattle.dispatch_core.specs.States.{IsExamined}
use Rattle.shared_board.specs.declared.board.Board.{Board}
use Rattle.shared_board.specs.declared.pass.Pass.{Pass}
use Rattle.shared_board.specs.Board.{problem_of, known}
use Rattle.shared_board.specs.Calls.{IsGrowthOf, IsExaminedFor, IsPlanFor}
use Rattle.shared_board.specs.Onward.{PassGoesOn}
use Rattle.shared_board.proofs.Onward.{newest_up}
use Rattle.shared_board.proofs.Owing.{fixings_on}
use Rattle.search_workers.specs.declared.growth.Growth.TheVariants as growth
use Rattle.near_plans.specs.Plans.{IsPlanAt}
use Rattle.search_workers.proofs.Growths.{plan_of}
use Rattle.search_crew.specs.Grounds.{IsBestNoMore, IsGrownFor}
use Rattle.search_crew.specs.Working.{IsAtWork}

-- ---- what grew below a lesser cost grew below a greater

module _ (best other : Option ℕ) (less : IsBestNoMore best other) (rule : Rule) where
  helps_more : (node : Node) (choice : Choice) → Helps rule best node choice
      → Helps rule other node choice
  helps_more node choice is = record { alive = is.alive; picked = is.picked; bound = is.bound; bound_is = is.bound_is; below = less is.bound is.below }

  pub grows_more : (places : List Node) (tree : List TreeNode) (bounds : List ℕ)
      → GrowsBelow rule best places tree bounds → GrowsBelow rule other places tree bounds
  grows_more [] [] [] is = tt
  grows_more [] [] (bound ∷ bounds) is = absurd is
  grows_more [] (top ∷ tree) bounds is = absurd is
  grows_more (node ∷ places) [] bounds is = absurd is
  grows_more (node ∷ places) (Leaf leaf ∷ tree) [] is = absurd is
  grows_more (node ∷ places) (Leaf leaf ∷ tree) (bound ∷ bounds) (keeps, rest) = (keeps, grows_more places tree bounds rest)
  grows_more (node ∷ places) (Branch choice children ∷ tree) bounds (helps, count, rest) =
      (helps_more node choice helps, count, grows_more (map (with_decision node) (children_of node.problem choice) ++ places) tree bounds rest)

-- ---- what the board asks

-- a plan of an edition stays one while the pass sees more
pub plan_on : (before after : Pass) → PassGoesOn before after → (edition : ℕ) (plan : List Event)
    → IsPlanFor (known before) edition plan → IsPlanFor (known after) edition plan
plan_on before after on edition plan is = record {
  terms = is.terms;
  terms_are = on.role.terms ∙ is.terms_are;
  edition = let within = is.edition in let up = newest_up (known after).seen (known before).seen on.starts in omega arith;
  valid = subst (λ (f : List Fixing). IsValid is.terms.problem f plan) (sym (fixings_on (known after).seen (known before).seen edition on.starts is.edition)) is.valid;
  within = is.within;
}

-- a plan that is valid at a node of the board's problem under an edition's fixings is one of that edition
pub plan_at : (board : Board) (rule : Rule) (edition : ℕ) (pass : Pass)
    → IsAtWork board rule edition pass → (node : Node)
    → node ≡ node_at (problem_of board) (fixings_after edition (known pass).seen) node.decisions
    → (plan : List Event) → IsPlanAt node plan → IsPlanFor (known pass) edition plan
plan_at board rule edition pass at node same plan is =
    let here = subst (λ (n : Node). IsPlanAt n plan) same is in record {
      terms = at.searcher.terms;
      terms_are = at.searcher.terms_are;
      edition = at.edition_is;
      valid = subst (λ (p : Problem). IsValid p (fixings_after edition (known pass).seen) plan) (sym at.problem) here.valid;
      within = subst (λ (p : Problem). All (λ e. e.time ≤ horizon p.trains) plan) (sym at.problem) here.within;
    }

module _ (board : Board) (rule : Rule) (pass : Pass) (work : Work) (at : IsAtWork board rule work.edition pass) where
  -- the node of the work under the fixings of its edition
  abbrev pub node : Node
  node = node_at (problem_of board) (fixings_after work.edition (known pass).seen) work.decisions

  pub growth_of : (nodes : List TreeNode) (bounds : List ℕ) (plan : Option (List Event))
      → IsGrownFor rule node work (growth.Subtree nodes bounds plan)
      → IsGrowthOf (known pass) (record { work = work; subtree = nodes; bounds = bounds })
  growth_of nodes bounds plan is = record {
    terms = at.searcher.terms;
    terms_are = at.searcher.terms_are;
    edition = at.edition_is;
    grows = subst (λ (r : Rule). GrowsBelow r work.best (node_at at.searcher.terms.problem (fixings_after work.edition (known pass).seen) work.decisions ∷ []) nodes bounds) (sym at.rule_is)
        (subst (λ (p : Problem). GrowsBelow rule work.best (node_at p (fixings_after work.edition (known pass).seen) work.decisions ∷ []) nodes bounds) (sym at.problem)
        (grows_more is.best work.best is.no_more rule (node ∷ []) nodes bounds is.grown.0));
    few = is.grown.1;
  }

  pub examined_of : IsGrownFor rule node work growth.Examined → IsExaminedFor (known pass) work
  examined_of is = record {
    terms = at.searcher.terms;
    terms_are = at.searcher.terms_are;
    edition = at.edition_is;
    examined = subst (λ (r : Rule). IsExamined r (node_at at.searcher.terms.problem (fixings_after work.edition (known pass).seen) work.decisions) work.bound) (sym at.rule_is)
        (subst (λ (p : Problem). IsExamined rule (node_at p (fixings_after work.edition (known pass).seen) work.decisions) work.bound) (sym at.problem) is.grown.1);
  }

  pub plan_with : (nodes : List TreeNode) (bounds : List ℕ) (plan : Option (List Event))
      → IsGrownFor rule node work (growth.Subtree nodes bounds plan) → (found : List Event)
      → plan ≡ Some found → IsPlanFor (known pass) work.edition found
  plan_with nodes bounds plan is found same =
      plan_at board rule work.edition pass at node refl found (plan_of rule node is.best work.allowance work.bound nodes bounds plan is.grown.2 found same)
