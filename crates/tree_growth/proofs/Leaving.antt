-- What is left of a fragment under other fixings helps as it did, and keeps its bounds there.
use Rattle.std.proofs.Common.{◌≡◌, ◌∙◌, ℕ, suc, inl, inr, List, [], ◌∷◌, ◌++◌, map, refl, sym, ap, subst}
use Rattle.std.specs.Prelude.{Option}
use Rattle.disp_model.specs.declared.decision.Decision.{Decision}
use Rattle.disp_model.specs.declared.fixing.Fixing.{Fixing}
use Rattle.disp_model.specs.declared.problem.Problem.{Problem}
use Rattle.disp_model.specs.declared.settings.Rule.{Rule}
use Rattle.disp_model.specs.declared.tree.Leaf.{Leaf as TreeLeaf}
use Rattle.disp_model.specs.declared.tree.Leaf.TheVariants.{Costs}
use Rattle.disp_model.specs.declared.tree.TreeNode.{TreeNode}
use Rattle.disp_model.specs.declared.tree.TreeNode.TheVariants.{Branch, Leaf}
use Rattle.disp_model.specs.Node.{Node, node_at, with_decision}
use Rattle.disp_model.specs.Trees.{children_of}
use Rattle.tree_growth.specs.Grown.{KeepsBound, AreHelpful, KeepBounds, branches}
use Rattle.tree_growth.specs.Left.{IsLeafLeft, AreLeft}
use Rattle.tree_growth.proofs.Staying.{empty_keeps}

-- ---- nodes of one problem under fixings, by their decisions

abbrev nodes_at : Problem → List Fixing → List (List Decision) → List Node
nodes_at problem fixings [] = []
nodes_at problem fixings (ds ∷ dss) = node_at problem fixings ds ∷ nodes_at problem fixings dss

-- the decisions of the children of a node
abbrev below : List Decision → List Decision → List (List Decision)
below ds [] = []
below ds (c ∷ cs) = (ds ++ c ∷ []) ∷ below ds cs

-- the nodes of the children are those below
children_at : (problem : Problem) (fixings : List Fixing) (ds cs : List Decision) (dss : List (List Decision))
    → nodes_at problem fixings (below ds cs ++ dss) ≡ map (with_decision (node_at problem fixings ds)) cs ++ nodes_at problem fixings dss
children_at problem fixings ds [] dss = refl
children_at problem fixings ds (c ∷ cs) dss = ap (λ (ns : List Node). node_at problem fixings (ds ++ c ∷ []) ∷ ns) (children_at problem fixings ds cs dss)

-- ---- under other fixings

-- what holds of nodes and bounds holds of those that are the same
both_are : (P : List TreeNode → List ℕ → Type 0) (left tree : List TreeNode) (least bounds : List ℕ) → left ≡ tree → least ≡ bounds → P tree bounds → P left least
both_are P left tree least bounds same equal holds = subst (λ (t : List TreeNode). P t least) (sym same) (subst (λ (bs : List ℕ). P tree bs) (sym equal) holds)

module _ (problem : Problem) (old new : List Fixing) (rule : Rule) where
  -- a leaf that is left keeps what is left of its bound
  leaf_keeps : (node later : Node) (leaf : TreeLeaf) (bound : ℕ) (left : TreeLeaf) (least : ℕ) → KeepsBound rule node leaf bound → IsLeafLeft later leaf bound left least → KeepsBound rule later left least
  leaf_keeps node later leaf bound left least keeps (inl (holds, leaf_is, bound_is)) =
      subst (λ (l : TreeLeaf). KeepsBound rule later l least) (sym leaf_is)
      (subst (λ (b : ℕ). KeepsBound rule later leaf b) (sym bound_is) (record { holds = holds; counts = keeps.counts; fits = keeps.fits }))
  leaf_keeps node later leaf bound left least keeps (inr (not, leaf_is, bound_is)) =
      subst (λ (l : TreeLeaf). KeepsBound rule later l least) (sym leaf_is)
      (subst (λ (b : ℕ). KeepsBound rule later (Costs []) b) (sym bound_is) (empty_keeps rule later))

  module _ (best : Option ℕ) where
    -- the branches help under the old fixings
    pub left_helps : (tree : List TreeNode) (dss : List (List Decision)) (bounds : List ℕ) (left : List TreeNode) (least : List ℕ) → AreHelpful rule best (nodes_at problem old dss) tree bounds
        → AreLeft (nodes_at problem new dss) tree bounds left least → AreHelpful rule best (nodes_at problem old dss) left least
    left_helps [] [] [] left least helps is = both_are (AreHelpful rule best []) left [] least [] is.0 is.1 tt
    left_helps [] [] (bound ∷ bounds) left least helps is = absurd helps
    left_helps (top ∷ tree) [] bounds left least helps is = absurd helps
    left_helps [] (ds ∷ dss) bounds left least helps is = absurd helps
    left_helps (Leaf leaf ∷ tree) (ds ∷ dss) [] left least helps is = absurd helps
    left_helps (Leaf leaf ∷ tree) (ds ∷ dss) (bound ∷ bounds) left least helps is =
        both_are (AreHelpful rule best (nodes_at problem old (ds ∷ dss))) left (Leaf is.0 ∷ is.2) least (is.1 ∷ is.3) is.6 is.7 (left_helps tree dss bounds is.2 is.3 helps is.5)
    left_helps (Branch choice children ∷ tree) (ds ∷ dss) bounds left least helps is =
        let cs : List Decision = children_of problem choice in
        let more : List (List Decision) = below ds cs ++ dss in
        let on : AreHelpful rule best (nodes_at problem old more) tree bounds = subst (λ (ns : List Node). AreHelpful rule best ns tree bounds) (sym (children_at problem old ds cs dss)) helps.2 in
        let left_on : AreLeft (nodes_at problem new more) tree bounds is.0 least = subst (λ (ns : List Node). AreLeft ns tree bounds is.0 least) (sym (children_at problem new ds cs dss)) is.1 in
        let rest = left_helps tree more bounds is.0 least on left_on in
        both_are (AreHelpful rule best (nodes_at problem old (ds ∷ dss))) left (Branch choice children ∷ is.0) least least is.2 refl
        (helps.0, helps.1, subst (λ (ns : List Node). AreHelpful rule best ns is.0 least) (children_at problem old ds cs dss) rest)

  -- the leaves keep their bounds under the new ones
  pub left_keeps : (tree : List TreeNode) (dss : List (List Decision)) (bounds : List ℕ) (left : List TreeNode) (least : List ℕ) → KeepBounds rule (nodes_at problem old dss) tree bounds
      → AreLeft (nodes_at problem new dss) tree bounds left least → KeepBounds rule (nodes_at problem new dss) left least
  left_keeps [] [] [] left least keeps is = both_are (KeepBounds rule []) left [] least [] is.0 is.1 tt
  left_keeps [] [] (bound ∷ bounds) left least keeps is = absurd keeps
  left_keeps (top ∷ tree) [] bounds left least keeps is = absurd keeps
  left_keeps [] (ds ∷ dss) bounds left least keeps is = absurd keeps
  left_keeps (Leaf leaf ∷ tree) (ds ∷ dss) [] left least keeps is = absurd keeps
  left_keeps (Leaf leaf ∷ tree) (ds ∷ dss) (bound ∷ bounds) left least keeps is =
      both_are (KeepBounds rule (nodes_at problem new (ds ∷ dss))) left (Leaf is.0 ∷ is.2) least (is.1 ∷ is.3) is.6 is.7
      (leaf_keeps (node_at problem old ds) (node_at problem new ds) leaf bound is.0 is.1 keeps.0 is.4, left_keeps tree dss bounds is.2 is.3 keeps.1 is.5)
  left_keeps (Branch choice children ∷ tree) (ds ∷ dss) bounds left least keeps is =
      let cs : List Decision = children_of problem choice in
      let more : List (List Decision) = below ds cs ++ dss in
      let on : KeepBounds rule (nodes_at problem old more) tree bounds = subst (λ (ns : List Node). KeepBounds rule ns tree bounds) (sym (children_at problem old ds cs dss)) keeps.2 in
      let left_on : AreLeft (nodes_at problem new more) tree bounds is.0 least = subst (λ (ns : List Node). AreLeft ns tree bounds is.0 least) (sym (children_at problem new ds cs dss)) is.1 in
      let rest = left_keeps tree more bounds is.0 least on left_on in
      both_are (KeepBounds rule (nodes_at problem new (ds ∷ dss))) left (Branch choice children ∷ is.0) least least is.2 refl
      (keeps.0, keeps.1, subst (λ (ns : List Node). KeepBounds rule ns is.0 least) (children_at problem new ds cs dss) rest)

-- ---- where each leaf holds, and how many branches are left

pub all_left : (rule : Rule) (tree : List TreeNode) (places : List Node) (bounds : List ℕ) → KeepBounds rule places tree bounds → AreLeft places tree bounds tree bounds
all_left rule [] [] [] keeps = (refl, refl)
all_left rule [] [] (bound ∷ bounds) keeps = absurd keeps
all_left rule (top ∷ tree) [] bounds keeps = absurd keeps
all_left rule [] (node ∷ places) bounds keeps = absurd keeps
all_left rule (Leaf leaf ∷ tree) (node ∷ places) [] keeps = absurd keeps
all_left rule (Leaf leaf ∷ tree) (node ∷ places) (bound ∷ bounds) keeps = (leaf, bound, tree, bounds, inl (keeps.0.holds, refl, refl), all_left rule tree places bounds keeps.1, refl, refl)
all_left rule (Branch choice children ∷ tree) (node ∷ places) bounds keeps = (tree, all_left rule tree (map (with_decision node) (children_of node.problem choice) ++ places) bounds keeps.2, refl)

pub left_count : (tree : List TreeNode) (places : List Node) (bounds : List ℕ) (left : List TreeNode) (least : List ℕ) → AreLeft places tree bounds left least → branches left ≡ branches tree
left_count [] places bounds left least is = ap branches is.0
left_count (top ∷ tree) [] bounds left least is = absurd is
left_count (Leaf leaf ∷ tree) (node ∷ places) [] left least is = absurd is
left_count (Leaf leaf ∷ tree) (node ∷ places) (bound ∷ bounds) left least is = ap branches is.6 ∙ left_count tree places bounds is.2 is.3 is.5
left_count (Branch choice children ∷ tree) (node ∷ places) bounds left least is =
    ap branches is.2 ∙ ap (λ (n : ℕ). suc n) (left_count tree (map (with_decision node) (children_of node.problem choice) ++ places) bounds is.0 least is.1)
