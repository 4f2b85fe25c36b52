-- What is left of nodes, one node more at a time.
use Rattle.std.proofs.Common.{◌≡◌, ◌∙◌, ℕ, suc, ◌+◌, ◌≤◌, List, [], ◌∷◌, ◌++◌, drop, length, map, reverse, refl, sym, ap, subst, arith}
use Rattle.std.specs.Prelude.{Some, slice_get}
use Rattle.std.proofs.Math.Seq.{drop-cons}
use Rattle.std.proofs.lemmas.List.{append_assoc, append-nil, drop_all, length-append, length-reverse, length_push, map-append, reverse-append, reverse-reverse}
use Rattle.std.proofs.lemmas.Option.{slice_get_within, get_or_from_slice_get}
use Rattle.disp_model.specs.declared.decision.Decision.{Decision}
use Rattle.disp_model.specs.declared.fixing.Fixing.{Fixing}
use Rattle.disp_model.specs.declared.problem.Problem.{Problem}
use Rattle.disp_model.specs.declared.tree.Leaf.{Leaf as TreeLeaf}
use Rattle.disp_model.specs.declared.tree.TreeNode.{TreeNode}
use Rattle.disp_model.specs.declared.tree.TreeNode.TheVariants.{Branch, Leaf}
use Rattle.disp_model.specs.Node.{Node, node_at, with_decision}
use Rattle.disp_model.specs.Trees.{children_of}
use Rattle.open_nodes.specs.Grafts.{FillPlaces}
use Rattle.tree_growth.specs.Left.{AreLeft}
use Rattle.dispatch_core.specs.Pending.{lists_below, nodes_under, IsNextOf, LeavesPending, LeavesNode, LeavesLeaf}

-- an element and what is behind it
dropped : {X : Type 0} (xs : List X) (i : ℕ) (x : X) → slice_get xs i ≡ Some x → drop i xs ≡ x ∷ drop (i + 1) xs
dropped {X} xs i x is =
    let one : suc i ≡ i + 1 = omega arith in
    drop-cons xs i x (slice_get_within xs i x is) ∙ ap (λ (y : X). y ∷ drop (suc i) xs) (get_or_from_slice_get xs i x x is) ∙ ap (λ (k : ℕ). x ∷ drop k xs) one

-- ---- the nodes of pending places

module _ (problem : Problem) (fixings : List Fixing) where
  -- the next one stands first
  next_first : (behind : List (List Decision)) (above : List Decision) → nodes_under problem fixings (behind ++ above ∷ []) ≡ node_at problem fixings above ∷ nodes_under problem fixings behind
  next_first behind above = ap (map (λ ds. node_at problem fixings ds)) (reverse-append behind (above ∷ []))

  -- the nodes of the children
  pub children_are : (above children : List Decision) → map (λ ds. node_at problem fixings ds) (lists_below above children) ≡ map (with_decision (node_at problem fixings above)) children
  children_are above [] = refl
  children_are above (child ∷ children) = ap (λ (ns : List Node). node_at problem fixings (above ++ child ∷ []) ∷ ns) (children_are above children)

  -- the children of the next one stand before the others
  children_first : (behind : List (List Decision)) (above children : List Decision) → nodes_under problem fixings (behind ++ reverse (lists_below above children))
      ≡ map (with_decision (node_at problem fixings above)) children ++ nodes_under problem fixings behind
  children_first behind above children =
      let below = lists_below above children in
      ap (map (λ ds. node_at problem fixings ds)) (reverse-append behind (reverse below) ∙ ap (λ (l : List (List Decision)). l ++ reverse behind) (reverse-reverse below))
      ∙ map-append (λ ds. node_at problem fixings ds) below (reverse behind) ∙ ap (λ (ns : List Node). ns ++ nodes_under problem fixings behind) (children_are above children)

  -- as many as the children
  how_many : (above children : List Decision) → length (lists_below above children) ≡ length children
  how_many above [] = refl
  how_many above (child ∷ children) = ap (λ (n : ℕ). suc n) (how_many above children)

-- ---- one node more

-- a leaf was looked at
pub leaf_looked_at : (problem : Problem) (fixings : List Fixing) (bounds : List ℕ) (top : TreeNode) (leaf : TreeLeaf) → top ≡ Leaf leaf
    → (pending behind : List (List Decision)) (above : List Decision) → pending ≡ behind ++ above ∷ [] → (nodes after : List TreeNode) (least least_after : List ℕ)
    → LeavesLeaf problem fixings bounds above leaf nodes after least least_after → LeavesPending problem fixings bounds top pending behind nodes after least least_after
leaf_looked_at problem fixings bounds top leaf is pending behind above next nodes after least least_after l = record {
  above = above;
  behind = behind;
  next = next;
  leaves = subst (λ (t : TreeNode). LeavesNode problem fixings bounds above behind t behind nodes after least least_after) (sym is) (refl, l);
}

-- the nodes from a place on fill the pending places, and what is left of them, behind what is left so far, is what is left of all
pub record IsLeftFrom (problem : Problem) (fixings : List Fixing) (start : List Decision) (tree : List TreeNode) (bounds : List ℕ) (i : ℕ) (pending : List (List Decision))
    (nodes : List TreeNode) (least : List ℕ) : Type 0 where
  pub fills : FillPlaces problem (length pending) (drop i tree) (drop (length least) bounds)
  pub whole : (rest : List TreeNode) (others : List ℕ) → AreLeft (nodes_under problem fixings pending) (drop i tree) (drop (length least) bounds) rest others
      → AreLeft (node_at problem fixings start ∷ []) tree bounds (nodes ++ rest) (least ++ others)

module _ (problem : Problem) (fixings : List Fixing) (start : List Decision) (tree : List TreeNode) (bounds : List ℕ) where
  -- where none was looked at, and where all were
  pub none_looked_at : FillPlaces problem 1 tree bounds → IsLeftFrom problem fixings start tree bounds 0 (start ∷ []) [] []
  none_looked_at fills = record { fills = fills; whole = λ rest others are. are }

  pub all_looked_at : (i : ℕ) (pending : List (List Decision)) (nodes : List TreeNode) (least : List ℕ) → length tree ≤ i → IsLeftFrom problem fixings start tree bounds i pending nodes least
      → AreLeft (node_at problem fixings start ∷ []) tree bounds nodes least
  all_looked_at i pending nodes least past left =
      subst (λ (ns : List TreeNode). AreLeft (node_at problem fixings start ∷ []) tree bounds ns least) (append-nil nodes)
      (subst (λ (bs : List ℕ). AreLeft (node_at problem fixings start ∷ []) tree bounds (nodes ++ []) bs) (append-nil least)
      (left.whole [] [] (subst (λ (rest : List TreeNode). AreLeft (nodes_under problem fixings pending) rest (drop (length least) bounds) [] []) (sym (drop_all i tree past)) (refl, refl))))

  module _ (i : ℕ) (behind : List (List Decision)) (above : List Decision) (nodes : List TreeNode) (least : List ℕ)
      (left : IsLeftFrom problem fixings start tree bounds i (behind ++ above ∷ []) nodes least) where
    many : length (behind ++ above ∷ []) ≡ suc (length behind)
    many = omega (arith, length_push behind above)

    -- what is left so far, by the node of the place and what is behind it
    here : (top : TreeNode) → slice_get tree i ≡ Some top → FillPlaces problem (suc (length behind)) (top ∷ drop (i + 1) tree) (drop (length least) bounds)
    here top is = subst (λ (t : List TreeNode). FillPlaces problem (suc (length behind)) t (drop (length least) bounds)) (dropped tree i top is)
        (subst (λ (k : ℕ). FillPlaces problem k (drop i tree) (drop (length least) bounds)) many left.fills)

    from_here : (top : TreeNode) → slice_get tree i ≡ Some top → (rest : List TreeNode) (others : List ℕ)
        → AreLeft (node_at problem fixings above ∷ nodes_under problem fixings behind) (top ∷ drop (i + 1) tree) (drop (length least) bounds) rest others
        → AreLeft (node_at problem fixings start ∷ []) tree bounds (nodes ++ rest) (least ++ others)
    from_here top is rest others are = left.whole rest others
        (subst (λ (t : List TreeNode). AreLeft (nodes_under problem fixings (behind ++ above ∷ [])) t (drop (length least) bounds) rest others) (sym (dropped tree i top is))
        (subst (λ (ns : List Node). AreLeft ns (top ∷ drop (i + 1) tree) (drop (length least) bounds) rest others) (sym (next_first problem fixings behind above)) are))

    one_more : (top : TreeNode) → slice_get tree i ≡ Some top → (pending : List (List Decision)) (after : List TreeNode) (least_after : List ℕ)
        → LeavesNode problem fixings bounds above behind top pending nodes after least least_after → IsLeftFrom problem fixings start tree bounds (i + 1) pending after least_after
    one_more (Leaf leaf) is pending after least_after (same, l) =
        let used : drop (length least) bounds ≡ l.bound ∷ drop (length least + 1) bounds = dropped bounds (length least) l.bound l.bound_is in
        let next : drop (length least_after) bounds ≡ drop (length least + 1) bounds = ap (λ (bs : List ℕ). drop (length bs) bounds) l.least_are
        ∙ ap (λ (k : ℕ). drop k bounds) (length_push least l.less) in
        let fills : FillPlaces problem (length behind) (drop (i + 1) tree) (drop (length least + 1) bounds) =
        subst (λ (bs : List ℕ). FillPlaces problem (suc (length behind)) (Leaf leaf ∷ drop (i + 1) tree) bs) used (here (Leaf leaf) is) in
        record {
          fills = subst (λ (p : List (List Decision)). FillPlaces problem (length p) (drop (i + 1) tree) (drop (length least_after) bounds)) (sym same)
              (subst (λ (bs : List ℕ). FillPlaces problem (length behind) (drop (i + 1) tree) bs) (sym next) fills);
          whole = λ rest others are.
              let behind_it : AreLeft (nodes_under problem fixings behind) (drop (i + 1) tree) (drop (length least + 1) bounds) rest others =
              subst (λ (bs : List ℕ). AreLeft (nodes_under problem fixings behind) (drop (i + 1) tree) bs rest others) next
              (subst (λ (p : List (List Decision)). AreLeft (nodes_under problem fixings p) (drop (i + 1) tree) (drop (length least_after) bounds) rest others) same are) in
              let from : AreLeft (node_at problem fixings start ∷ []) tree bounds (nodes ++ Leaf l.one ∷ rest) (least ++ l.less ∷ others) =
              from_here (Leaf leaf) is (Leaf l.one ∷ rest) (l.less ∷ others)
              (subst (λ (bs : List ℕ). AreLeft (node_at problem fixings above ∷ nodes_under problem fixings behind) (Leaf leaf ∷ drop (i + 1) tree) bs (Leaf l.one ∷ rest) (l.less ∷ others)) (sym used)
              (l.one, l.less, rest, others, l.left, behind_it, refl, refl)) in
              subst (λ (ns : List TreeNode). AreLeft (node_at problem fixings start ∷ []) tree bounds ns (least_after ++ others))
              (sym (ap (λ (ns : List TreeNode). ns ++ rest) l.nodes_are ∙ append_assoc nodes (Leaf l.one ∷ []) rest))
              (subst (λ (bs : List ℕ). AreLeft (node_at problem fixings start ∷ []) tree bounds (nodes ++ Leaf l.one ∷ rest) bs)
              (sym (ap (λ (bs : List ℕ). bs ++ others) l.least_are ∙ append_assoc least (l.less ∷ []) others)) from);
        }
    one_more (Branch choice children) is pending after least_after (same, nodes_are, least_are) =
        let cs : List Decision = children_of problem choice in
        let fills = here (Branch choice children) is in
        let long : children + length behind ≡ length pending = omega (
          arith,
          fills.0,
          how_many problem fixings above cs,
          length-reverse (lists_below above cs),
          length-append behind (reverse (lists_below above cs)),
          ap (λ (p : List (List Decision)). length p) same,
        ) in
        record {
          fills = subst (λ (bs : List ℕ). FillPlaces problem (length pending) (drop (i + 1) tree) (drop (length bs) bounds)) (sym least_are)
              (subst (λ (k : ℕ). FillPlaces problem k (drop (i + 1) tree) (drop (length least) bounds)) long fills.1);
          whole = λ rest others are.
              let below : AreLeft (map (with_decision (node_at problem fixings above)) cs ++ nodes_under problem fixings behind) (drop (i + 1) tree) (drop (length least) bounds) rest others =
              subst (λ (ns : List Node). AreLeft ns (drop (i + 1) tree) (drop (length least) bounds) rest others) (ap (nodes_under problem fixings) same ∙ children_first problem fixings behind above cs)
              (subst (λ (bs : List ℕ). AreLeft (nodes_under problem fixings pending) (drop (i + 1) tree) (drop (length bs) bounds) rest others) least_are are) in
              let from : AreLeft (node_at problem fixings start ∷ []) tree bounds (nodes ++ Branch choice children ∷ rest) (least ++ others) =
              from_here (Branch choice children) is (Branch choice children ∷ rest) others (rest, below, refl) in
              subst (λ (ns : List TreeNode). AreLeft (node_at problem fixings start ∷ []) tree bounds ns (least_after ++ others))
              (sym (ap (λ (ns : List TreeNode). ns ++ rest) nodes_are ∙ append_assoc nodes (Branch choice children ∷ []) rest))
              (subst (λ (bs : List ℕ). AreLeft (node_at problem fixings start ∷ []) tree bounds (nodes ++ Branch choice children ∷ rest) (bs ++ others)) (sym least_are) from);
        }

  -- the node of a place is the next one
  pub is_next : (i : ℕ) (top : TreeNode) → slice_get tree i ≡ Some top → (pending : List (List Decision)) (nodes : List TreeNode) (least : List ℕ)
      → IsLeftFrom problem fixings start tree bounds i pending nodes least → IsNextOf problem pending top (drop (length least) bounds)
  is_next i top is pending nodes least left =
      (drop (i + 1) tree, subst (λ (t : List TreeNode). FillPlaces problem (length pending) t (drop (length least) bounds)) (dropped tree i top is) left.fills)

  -- what is left from the next place on
  pub looked_at : (i : ℕ) (top : TreeNode) → slice_get tree i ≡ Some top → (pending pending_after : List (List Decision)) (nodes after : List TreeNode) (least least_after : List ℕ)
      → IsLeftFrom problem fixings start tree bounds i pending nodes least → LeavesPending problem fixings bounds top pending pending_after nodes after least least_after
      → IsLeftFrom problem fixings start tree bounds (i + 1) pending_after after least_after
  looked_at i top is pending pending_after nodes after least least_after left l =
      one_more i l.behind l.above nodes least (subst (λ (p : List (List Decision)). IsLeftFrom problem fixings start tree bounds i p nodes least) l.next left) top is pending_after after least_after l.leaves
