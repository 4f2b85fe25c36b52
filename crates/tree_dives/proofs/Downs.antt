-- A step down, by what is added before a place and behind it.
use Rattle.std.proofs.Common.{◌≡◌, ℕ, ◌+◌, ◌<◌, List, [], ◌∷◌, ◌++◌, length, map, reverse, Option, true, false, refl, arith}
use Rattle.disp_model.specs.declared.decision.Decision.{Decision}
use Rattle.disp_model.specs.declared.decision.Choice.{Choice}
use Rattle.disp_model.specs.declared.decision.Choice.TheVariants.{Route, Order, Run}
use Rattle.disp_model.specs.declared.tree.Leaf.{Leaf as TreeLeaf}
use Rattle.disp_model.specs.declared.tree.TreeNode.{TreeNode}
use Rattle.disp_model.specs.declared.tree.TreeNode.TheVariants.{Branch, Leaf}
use Rattle.disp_model.specs.Node.{Node, with_decision}
use Rattle.disp_model.specs.Nodes.{IsDead}
use Rattle.event_graph.specs.declared.faults.ExtendNo.{ExtendNo}
use Rattle.event_graph.specs.declared.faults.ExtendNo.TheVariants as no
use Rattle.event_graph.specs.Kept.{IsRefusedAt}
use Rattle.node_leaves.proofs.Showing.{no_route_leaf, cycle_leaf}
use Rattle.disp_model.specs.Trees.{children_of}
use Rattle.disp_model.specs.declared.settings.Rule.{Rule}
use Rattle.disp_laws.proofs.OpenChoices.{picked_is_choice}
use Rattle.tree_growth.specs.Grown.{GrowsBelow, Helps, IsGrownLeaf, branches}
use Rattle.tree_growth.proofs.Children.{children_fit}
use Rattle.tree_dives.specs.Halves.{Sides}
use Rattle.tree_dives.specs.Downs.{GoesDown}
use Rattle.tree_dives.proofs.Growing.{one_longer, between, goes_to_child, branches_append, branches_leaf, branches_back}

-- a node that is refused is dead, where there is memory
pub refused_dead : (node : Node) (why : ExtendNo) → IsRefusedAt node why → (why ≡ no.Memory → ⊥)
    → IsDead node
refused_dead node (no.NoRoute t) is other = (no_route_leaf node t is).dead
refused_dead node (no.Cycle nodes) is other = (cycle_leaf node nodes is.1).dead
refused_dead node no.Memory is other = absurd (other refl)

-- a branch that helps has a child
pub some_child : (rule : Rule) (best : Option ℕ) (node : Node) (choice : Choice)
    → Helps rule best node choice → 0 < length (children_of node.problem choice)
some_child rule best node (Route o) helps = omega (arith, (children_fit node.problem (Route o) (picked_is_choice node rule (Route o) helps.picked)).0)
some_child rule best node (Order a b) helps = omega arith
some_child rule best node (Run o) helps = omega arith

module _ (rule : Rule) (choice : Choice) (here below : Node) (old : Sides) (k : ℕ) (count : k ≡ length (children_of here.problem choice)) where
  one_more : (left : List TreeNode) → branches left ≡ 0
      → branches ((old.before ++ Branch choice k ∷ []) ++ left) ≡ branches old.before + 1
  one_more left none = omega (arith, branches_append (old.before ++ Branch choice k ∷ []) left, branches_append old.before (Branch choice k ∷ []), none)

  -- all children are leaves, which is never where the branch helps: one is to be followed
  pub none_to_follow : (left : List TreeNode) (left_bounds : List ℕ) → branches left ≡ 0
      → ((best : Option ℕ) → Helps rule best here choice → ⊥)
      → GoesDown rule choice here old below (record { before = (old.before ++ Branch choice k ∷ []) ++ left; before_bounds = old.before_bounds ++ left_bounds; behind = old.behind; behind_bounds = old.behind_bounds }) false
  none_to_follow left left_bounds none never = ((λ best root helps complete. absurd (never best helps)), omega (arith, one_more left none))

  -- one child is followed
  pub one_followed : (first last : List Decision) (decision : Decision) (left right : List TreeNode)
      (left_bounds right_bounds : List ℕ)
      → below ≡ with_decision here decision
      → children_of here.problem choice ≡ first ++ decision ∷ last
      → ((best : Option ℕ) → GrowsBelow rule best (map (with_decision here) first) left left_bounds)
      → ((best : Option ℕ) → GrowsBelow rule best (map (with_decision here) last) right right_bounds)
      → branches left ≡ 0 → branches right ≡ 0
      → GoesDown rule choice here old below (record { before = (old.before ++ Branch choice k ∷ []) ++ left; before_bounds = old.before_bounds ++ left_bounds; behind = old.behind ++ reverse right; behind_bounds = old.behind_bounds ++ reverse right_bounds }) true
  one_followed first last decision left right left_bounds right_bounds is parts one other none none_right = (
    (λ best root helps complete. rw is (one_longer here decision, goes_to_child rule best root here old choice k helps count complete first last decision left right left_bounds right_bounds parts (one best) (other best))),
    omega (arith, one_more left none, branches_append old.behind (reverse right), branches_back right, none_right),
  )

  -- no child is followed: the one that would be is dead, and is a leaf too
  pub none_followed : (first last : List Decision) (decision : Decision)
      (left right : List TreeNode) (leaf : TreeLeaf) (bound : ℕ) (left_bounds right_bounds : List ℕ)
      → children_of here.problem choice ≡ first ++ decision ∷ last
      → ((best : Option ℕ) → GrowsBelow rule best (map (with_decision here) first) left left_bounds)
      → IsDead (with_decision here decision)
      → IsGrownLeaf rule (with_decision here decision) leaf bound
      → ((best : Option ℕ) → GrowsBelow rule best (map (with_decision here) last) right right_bounds)
      → branches left ≡ 0 → branches right ≡ 0
      → GoesDown rule choice here old below (record { before = (((old.before ++ Branch choice k ∷ []) ++ left) ++ Leaf leaf ∷ []) ++ right; before_bounds = ((old.before_bounds ++ left_bounds) ++ bound ∷ []) ++ right_bounds; behind = old.behind; behind_bounds = old.behind_bounds }) false
  none_followed first last decision left right leaf bound left_bounds right_bounds parts one dead grown other none none_right =
      let before = (old.before ++ Branch choice k ∷ []) ++ left in let before_bounds = old.before_bounds ++ left_bounds in (
        (λ best root helps complete. (
          decision,
          dead,
          record {
            sides = record { before = before; before_bounds = before_bounds; behind = old.behind ++ reverse right; behind_bounds = old.behind_bounds ++ reverse right_bounds };
            completes = goes_to_child rule best root here old choice k helps count complete first last decision left right left_bounds right_bounds parts (one best) (other best);
            leaf = leaf;
            bound = bound;
            grown = grown;
            nodes_are = between before right old.behind (Leaf leaf);
            bounds_are = between before_bounds right_bounds old.behind_bounds bound;
          },
        )),
        omega (arith, one_more left none, branches_append (before ++ Leaf leaf ∷ []) right, branches_leaf before leaf, none_right),
      )
