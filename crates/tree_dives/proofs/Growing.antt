-- What grows at several places, one after the other.
use Rattle.std.proofs.Common.{◌≡◌, ◌∙◌, ℕ, ◌+◌, ◌<◌, List, [], ◌∷◌, ◌++◌, length, map, take, get_or, reverse, Option, refl, sym, ap, subst, arith}
use Rattle.std.proofs.lemmas.List.{append_assoc, append-nil, length-append, map-append, reverse-append, reverse-reverse, take-append-le, take_all, take_more, take-take}
use Rattle.disp_model.specs.declared.decision.Decision.{Decision}
use Rattle.disp_model.specs.declared.decision.Choice.{Choice}
use Rattle.disp_model.specs.declared.tree.Leaf.{Leaf as TreeLeaf}
use Rattle.disp_model.specs.declared.tree.Leaf.TheVariants.{NoRoute, Cycle, Late, Costs, Shares}
use Rattle.disp_model.specs.declared.tree.TreeNode.{TreeNode}
use Rattle.disp_model.specs.declared.tree.TreeNode.TheVariants.{Branch, Leaf}
use Rattle.disp_model.specs.declared.tree.Verdict.{Verdict}
use Rattle.disp_model.specs.declared.tree.Verdict.TheVariants.{Optimal}
use Rattle.disp_model.specs.Node.{Node, with_decision}
use Rattle.disp_model.specs.Nodes.{IsDead}
use Rattle.disp_model.specs.Shares.{IsBound}
use Rattle.disp_model.specs.Trees.{LeafHolds, children_of}
use Rattle.node_leaves.specs.declared.leaf.NodeLeaf.{NodeLeaf}
use Rattle.node_leaves.specs.declared.leaf.NodeLeaf.TheVariants.{Dead, Open}
use Rattle.node_leaves.specs.Shown.{SaysDead, ListsBy, IsLeafOf}
use Rattle.open_nodes.specs.declared.place.Kind.TheVariants.{Dead as DeadKind}
use Rattle.open_nodes.specs.Grafts.{kind_of}
use Rattle.tree_dives.specs.Halves.{Sides, Completes, IsLeafAt, IsBelowNode}
use Rattle.disp_model.specs.declared.settings.Rule.{Rule}
use Rattle.disp_model.specs.declared.settings.Rule.TheVariants.{Fixed, Free}
use Rattle.tree_growth.specs.Grown.{Helps, LeafCounts, KeepsBound, IsGrownLeaf, GrowsBelow, branches}
use Rattle.tree_dives.specs.Leaves.{leaf_held, bound_in}

-- whatever a leaf lists counts for nothing
counts_none : (rule : Rule) (leaf : TreeLeaf) → LeafCounts rule leaf 0
counts_none Fixed NoRoute = tt
counts_none Fixed (Cycle nodes) = tt
counts_none Fixed (Late walk) = tt
counts_none Fixed (Costs walks) = tt
counts_none Fixed (Shares walks trains) = refl
counts_none Free leaf = tt

-- what is listed by the rule counts
counts_listed : (rule : Rule) (leaf : TreeLeaf) (bound : ℕ) → ListsBy rule leaf
    → LeafCounts rule leaf bound
counts_listed Fixed NoRoute bound by = tt
counts_listed Fixed (Cycle nodes) bound by = tt
counts_listed Fixed (Late walk) bound by = tt
counts_listed Fixed (Costs walks) bound by = tt
counts_listed Fixed (Shares walks trains) bound by = absurd by
counts_listed Free leaf bound by = tt

-- what says that its node is dead is kept as a dead leaf
dead_kind : (leaf : TreeLeaf) → SaysDead leaf → kind_of leaf ≡ DeadKind
dead_kind NoRoute says = refl
dead_kind (Cycle nodes) says = refl
dead_kind (Late walk) says = refl
dead_kind (Costs walks) says = absurd says
dead_kind (Shares walks trains) says = absurd says

keeps : (rule : Rule) (node : Node) (shown : NodeLeaf) → IsLeafOf rule node shown
    → KeepsBound rule node (leaf_held shown) (bound_in shown)
keeps rule node (Dead leaf) is = record { holds = is.holds (Optimal 0); counts = counts_none rule leaf; fits = is.fits }
keeps rule node (Open leaf bound) is = record { holds = is.holds bound (omega arith); counts = counts_listed rule leaf bound is.lists; fits = is.fits }

-- what a node shows is a leaf that is grown
pub grown : (rule : Rule) (node : Node) (shown : NodeLeaf) → IsLeafOf rule node shown
    → IsGrownLeaf rule node (leaf_held shown) (bound_in shown)
grown rule node shown is = record { keeps = keeps rule node shown is; own = own_bound shown is; dead = shown_dead shown is; kind = kept_dead shown is }
  where
    own_bound : (shown : NodeLeaf) → IsLeafOf rule node shown → (IsDead node → ⊥)
        → IsBound node rule (bound_in shown)
    own_bound (Dead leaf) is alive = absurd (alive is.dead)
    own_bound (Open leaf bound) is alive = is.is_bound

    shown_dead : (shown : NodeLeaf) → IsLeafOf rule node shown → IsDead node → (verdict : Verdict)
        → LeafHolds node verdict (leaf_held shown)
    shown_dead (Dead leaf) is dead = is.holds
    shown_dead (Open leaf bound) is dead = absurd (is.alive dead)

    kept_dead : (shown : NodeLeaf) → IsLeafOf rule node shown → IsDead node
        → kind_of (leaf_held shown) ≡ DeadKind
    kept_dead (Dead leaf) is dead = dead_kind leaf is.says
    kept_dead (Open leaf bound) is dead = absurd (is.alive dead)

-- side by side
pub side_by_side : (rule : Rule) (best : Option ℕ) (places more : List Node)
    (tree tree_more : List TreeNode) (bounds bounds_more : List ℕ)
    → GrowsBelow rule best places tree bounds → GrowsBelow rule best more tree_more bounds_more
    → GrowsBelow rule best (places ++ more) (tree ++ tree_more) (bounds ++ bounds_more)
side_by_side rule best [] more [] tree_more [] bounds_more one other = other
side_by_side rule best [] more [] tree_more (bound ∷ bounds) bounds_more one other = absurd one
side_by_side rule best [] more (top ∷ tree) tree_more bounds bounds_more one other = absurd one
side_by_side rule best (node ∷ places) more [] tree_more bounds bounds_more one other = absurd one
side_by_side rule best (node ∷ places) more (Leaf leaf ∷ tree) tree_more [] bounds_more one other = absurd one
side_by_side rule best (node ∷ places) more (Leaf leaf ∷ tree) tree_more (bound ∷ bounds) bounds_more one other = (one.0, side_by_side rule best places more tree tree_more bounds bounds_more one.1 other)
side_by_side rule best (node ∷ places) more (Branch choice children ∷ tree) tree_more bounds bounds_more one other =
    let below = map (with_decision node) (children_of node.problem choice) in
    (one.0, one.1, subst (λ (l : List Node). GrowsBelow rule best l (tree ++ tree_more) (bounds ++ bounds_more)) (append_assoc below places more) (side_by_side rule best (below ++ places) more tree tree_more bounds bounds_more one.2 other))

-- one leaf
pub leaf_alone : (rule : Rule) (best : Option ℕ) (node : Node) (leaf : TreeLeaf) (bound : ℕ)
    → IsGrownLeaf rule node leaf bound
    → GrowsBelow rule best (node ∷ []) (Leaf leaf ∷ []) (bound ∷ [])
leaf_alone rule best node leaf bound is = (is, tt)

-- one leaf more
pub leaf_more : (rule : Rule) (best : Option ℕ) (node : Node) (decisions : List Decision) (i : ℕ)
    (d : Decision) (shown : NodeLeaf) (tree : List TreeNode) (bounds : List ℕ)
    → i < length decisions → IsLeafOf rule (with_decision node (get_or decisions i d)) shown
    → GrowsBelow rule best (map (with_decision node) (take i decisions)) tree bounds
    → GrowsBelow rule best (map (with_decision node) (take (i + 1) decisions)) (tree ++ Leaf (leaf_held shown) ∷ []) (bounds ++ bound_in shown ∷ [])
leaf_more rule best node decisions i d shown tree bounds lt is grows =
    let here = with_decision node (get_or decisions i d) in
    let places : map (with_decision node) (take i decisions) ++ here ∷ [] ≡ map (with_decision node) (take (i + 1) decisions) =
    sym (ap (map (with_decision node)) (take_more decisions i d lt) ∙ map-append (with_decision node) (take i decisions) (get_or decisions i d ∷ [])) in
    subst (λ (l : List Node). GrowsBelow rule best l (tree ++ Leaf (leaf_held shown) ∷ []) (bounds ++ bound_in shown ∷ [])) places
    (side_by_side rule best (map (with_decision node) (take i decisions)) (here ∷ []) tree (Leaf (leaf_held shown) ∷ []) bounds (bound_in shown ∷ []) grows (leaf_alone rule best here (leaf_held shown) (bound_in shown) (grown rule here shown is)))

-- a branch, with what grows at its children
pub branch_alone : (rule : Rule) (best : Option ℕ) (node : Node) (choice : Choice) (children : ℕ)
    (tree : List TreeNode) (bounds : List ℕ)
    → Helps rule best node choice → children ≡ length (children_of node.problem choice)
    → GrowsBelow rule best (map (with_decision node) (children_of node.problem choice)) tree bounds
    → GrowsBelow rule best (node ∷ []) (Branch choice children ∷ tree) bounds
branch_alone rule best node choice children tree bounds helps count below = (helps, count, subst (λ (l : List Node). GrowsBelow rule best l tree bounds) (sym (append-nil (map (with_decision node) (children_of node.problem choice)))) below)

-- ---- the place that is left

-- below a node that is below another
pub below_below : (root middle here : Node) → IsBelowNode root middle → IsBelowNode middle here
    → IsBelowNode root here
below_below root middle here one other = record {
  problem = other.problem ∙ one.problem;
  fixings = other.fixings ∙ one.fixings;
  deeper = omega (arith, one.deeper, other.deeper);
  first = sym (take-take (length root.decisions) (length middle.decisions) here.decisions one.deeper) ∙ ap (take (length root.decisions)) other.first ∙ one.first;
}

pub below_itself : (here : Node) → IsBelowNode here here
below_itself here = record { problem = refl; fixings = refl; deeper = omega arith; first = take_all (length here.decisions) here.decisions (omega arith) }

-- one decision more
pub deeper_by_one : (here : Node) (d : Decision) → IsBelowNode here (with_decision here d)
deeper_by_one here d = record {
  problem = refl;
  fixings = refl;
  deeper = omega (arith, length-append here.decisions (d ∷ []));
  first = take-append-le (length here.decisions) here.decisions (d ∷ []) (omega arith) ∙ take_all (length here.decisions) here.decisions (omega arith);
}

-- and it is one longer
pub one_longer : (here : Node) (d : Decision)
    → length (with_decision here d).decisions ≡ length here.decisions + 1
one_longer here d = length-append here.decisions (d ∷ [])

-- nothing stands beside the first place
pub completes_first : (rule : Rule) (best : Option ℕ) (root : Node)
    → Completes rule best root root (record { before = []; before_bounds = []; behind = []; behind_bounds = [] })
completes_first rule best root tree bounds grows = subst (λ (t : List TreeNode). GrowsBelow rule best (root ∷ []) t (bounds ++ [])) (sym (append-nil tree)) (subst (GrowsBelow rule best (root ∷ []) tree) (sym (append-nil bounds)) grows)

module _ {X : Type 0} where
  -- what stands at a place, where it is added to what stands before
  pub between : (before right behind : List X) (x : X)
      → ((before ++ x ∷ []) ++ right) ++ reverse behind ≡ before ++ x ∷ reverse
      (behind ++ reverse right)
  between before right behind x =
      append_assoc (before ++ x ∷ []) right (reverse behind) ∙ append_assoc before (x ∷ []) (right ++ reverse behind)
      ∙ ap (λ (l : List X). before ++ x ∷ l) (sym (reverse-append behind (reverse right) ∙ ap (λ (l : List X). l ++ reverse behind) (reverse-reverse right)))

  -- what stands beside a place, with what was there
  beside : (before left tree right behind : List X) (x : X)
      → before ++ (x ∷ (left ++ tree ++ right)) ++ reverse behind ≡ ((before ++ x ∷ []) ++ left) ++ tree ++ reverse (behind ++ reverse right)
  beside before left tree right behind x = ap (λ (l : List X). l ++ reverse behind) (inner before) ∙ append_assoc (((before ++ x ∷ []) ++ left) ++ tree) right (reverse behind) ∙ ap (λ (l : List X). ((before ++ x ∷ []) ++ left) ++ tree ++ l) (sym (reverse-append behind (reverse right) ∙ ap (λ (l : List X). l ++ reverse behind) (reverse-reverse right)))
    where
      inner : (before : List X)
          → before ++ x ∷ (left ++ tree ++ right) ≡ ((before ++ x ∷ []) ++ left) ++ tree ++ right
      inner before = sym (append_assoc before (x ∷ []) (left ++ tree ++ right)) ∙ sym (append_assoc (before ++ x ∷ []) (left ++ tree) right) ∙ ap (λ (l : List X). l ++ right) (sym (append_assoc (before ++ x ∷ []) left tree))

  -- the same of bounds, to which a branch adds nothing
  beside_bounds : (before left tree right behind : List X)
      → before ++ (left ++ tree ++ right) ++ reverse behind ≡ (before ++ left) ++ tree ++ reverse (behind ++ reverse right)
  beside_bounds before left tree right behind = ap (λ (l : List X). l ++ reverse behind) (inner before) ∙ append_assoc ((before ++ left) ++ tree) right (reverse behind) ∙ ap (λ (l : List X). (before ++ left) ++ tree ++ l) (sym (reverse-append behind (reverse right) ∙ ap (λ (l : List X). l ++ reverse behind) (reverse-reverse right)))
    where
      inner : (before : List X)
          → before ++ (left ++ tree ++ right) ≡ (before ++ left) ++ tree ++ right
      inner before = sym (append_assoc before (left ++ tree) right) ∙ ap (λ (l : List X). l ++ right) (sym (append_assoc before left tree))

-- a tree of which a leaf stands at a node grows
pub grows_with_leaf : (rule : Rule) (best : Option ℕ) (root here : Node) (nodes : List TreeNode)
    (bounds : List ℕ)
    → IsLeafAt rule best root here nodes bounds → GrowsBelow rule best (root ∷ []) nodes bounds
grows_with_leaf rule best root here nodes bounds is =
    let filled = is.completes (Leaf is.leaf ∷ []) (is.bound ∷ []) (leaf_alone rule best here is.leaf is.bound is.grown) in
    let back = reverse is.sides.behind in
    let back_bounds = reverse is.sides.behind_bounds in
    subst (λ (t : List TreeNode). GrowsBelow rule best (root ∷ []) t bounds) (append_assoc is.sides.before (Leaf is.leaf ∷ []) back ∙ sym is.nodes_are)
    (subst (λ (b : List ℕ). GrowsBelow rule best (root ∷ []) ((is.sides.before ++ Leaf is.leaf ∷ []) ++ back) b) (append_assoc is.sides.before_bounds (is.bound ∷ []) back_bounds ∙ sym is.bounds_are) filled)

module _ (rule : Rule) (best : Option ℕ) (root here : Node) (old : Sides) (choice : Choice) (children : ℕ) (helps : Helps rule best here choice) (count : children ≡ length (children_of here.problem choice)) (complete : Completes rule best root here old) where
  -- what grows at all children of a branch fills the place
  pub branch_fills : (tree : List TreeNode) (bounds : List ℕ)
      → GrowsBelow rule best (map (with_decision here) (children_of here.problem choice)) tree bounds
      → GrowsBelow rule best (root ∷ []) (old.before ++ (Branch choice children ∷ tree) ++ reverse old.behind) (old.before_bounds ++ bounds ++ reverse old.behind_bounds)
  branch_fills tree bounds grows = complete (Branch choice children ∷ tree) bounds (branch_alone rule best here choice children tree bounds helps count grows)

  -- leaves beside one child leave its place to be filled
  pub goes_to_child : (first last : List Decision) (decision : Decision)
      (left right : List TreeNode) (left_bounds right_bounds : List ℕ)
      → children_of here.problem choice ≡ first ++ decision ∷ last
      → GrowsBelow rule best (map (with_decision here) first) left left_bounds
      → GrowsBelow rule best (map (with_decision here) last) right right_bounds
      → Completes rule best root (with_decision here decision) (record { before = (old.before ++ Branch choice children ∷ []) ++ left; before_bounds = old.before_bounds ++ left_bounds; behind = old.behind ++ reverse right; behind_bounds = old.behind_bounds ++ reverse right_bounds })
  goes_to_child first last decision left right left_bounds right_bounds parts one other tree bounds grows =
      let all = side_by_side rule best (map (with_decision here) first ++ with_decision here decision ∷ []) (map (with_decision here) last) (left ++ tree) right (left_bounds ++ bounds) right_bounds
      (side_by_side rule best (map (with_decision here) first) (with_decision here decision ∷ []) left tree left_bounds bounds one grows) other in
      let places : (map (with_decision here) first ++ with_decision here decision ∷ []) ++ map (with_decision here) last ≡ map (with_decision here) (children_of here.problem choice) =
      append_assoc (map (with_decision here) first) (with_decision here decision ∷ []) (map (with_decision here) last) ∙ sym (ap (map (with_decision here)) parts ∙ map-append (with_decision here) first (decision ∷ last)) in
      let filled = branch_fills (left ++ tree ++ right) (left_bounds ++ bounds ++ right_bounds) (subst (λ (l : List Node). GrowsBelow rule best l (left ++ tree ++ right) (left_bounds ++ bounds ++ right_bounds)) places all) in
      subst (λ (t : List TreeNode). GrowsBelow rule best (root ∷ []) t (((old.before_bounds ++ left_bounds) ++ bounds) ++ reverse (old.behind_bounds ++ reverse right_bounds))) (beside old.before left tree right old.behind (Branch choice children))
      (subst (λ (b : List ℕ). GrowsBelow rule best (root ∷ []) (old.before ++ (Branch choice children ∷ (left ++ tree ++ right)) ++ reverse old.behind) b) (beside_bounds old.before_bounds left_bounds bounds right_bounds old.behind_bounds) filled)

-- ---- how many branches

pub branches_append : (one other : List TreeNode)
    → branches (one ++ other) ≡ branches one + branches other
branches_append [] other = omega arith
branches_append (Branch choice children ∷ one) other = let later = branches_append one other in omega (arith, later)
branches_append (Leaf leaf ∷ one) other = branches_append one other

pub branches_leaf : (tree : List TreeNode) (leaf : TreeLeaf)
    → branches (tree ++ Leaf leaf ∷ []) ≡ branches tree
branches_leaf tree leaf = omega (arith, branches_append tree (Leaf leaf ∷ []))

pub branches_back : (tree : List TreeNode) → branches (reverse tree) ≡ branches tree
branches_back [] = refl
branches_back (Branch choice children ∷ tree) = let later = branches_back tree in ap branches (reverse-append (Branch choice children ∷ []) tree) ∙ branches_append (reverse tree) (Branch choice children ∷ []) ∙ omega (arith, later)
branches_back (Leaf leaf ∷ tree) = let later = branches_back tree in ap branches (reverse-append (Leaf leaf ∷ []) tree) ∙ branches_append (reverse tree) (Leaf leaf ∷ []) ∙ omega (arith, later)
