-- The tree of a search against the tree that its splits grow: place by place, in preorder.
use Rattle.std.specs.Prelude.{◌≡◌, ℕ, List, [], ◌∷◌, Some, length, slice_get}
use Rattle.disp_model.specs.declared.tree.Leaf.{Leaf as TreeLeaf}
use Rattle.disp_model.specs.declared.tree.TreeNode.TheVariants.{Branch, Leaf}
use Rattle.disp_model.specs.Replay.{Place as Grown, branch, leaf, Growth}
use Rattle.open_nodes.specs.declared.place.Place.{Place}
use Rattle.open_nodes.specs.States.{State, decisions_of}
use Rattle.open_nodes.specs.Preorder.{preorder}

-- the place of a number shows this node of the grown tree: a branch of its choice, or a leaf of its
-- number with the decisions above it
abbrev pub IsShownAt : State → ℕ → Grown → Type 0
IsShownAt state n (branch choice) =
    (place : Place) × (children : ℕ) × (slice_get state.places n ≡ Some place)
    × (slice_get state.kept place.shows ≡ Some (Branch choice children))
IsShownAt state n (leaf number above) =
    (place : Place) × (shown : TreeLeaf) × (slice_get state.places n ≡ Some place)
    × (slice_get state.kept place.shows ≡ Some (Leaf shown))
    × (number ≡ n) × (above ≡ decisions_of state.places n)

abbrev pub AreShownAt : State → List ℕ → List Grown → Type 0
AreShownAt state [] [] = Unit {0}
AreShownAt state [] (grown ∷ places) = ⊥
AreShownAt state (n ∷ numbers) [] = ⊥
AreShownAt state (n ∷ numbers) (grown ∷ places) = IsShownAt state n grown
    × AreShownAt state numbers places

-- the state's tree is the one that was grown, and the next unused number is the same
pub record IsReplayed (growth : Growth) (state : State) : Type 0 where
  pub unused : growth.unused ≡ length state.places
  pub shown : AreShownAt state (preorder state.places) growth.places
