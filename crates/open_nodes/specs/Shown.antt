-- What the places show, and what is changed of a leaf between two searches.
use Rattle.std.specs.Prelude.{ℕ, List, [], ◌∷◌, ◌++◌, Option, Some, None, slice_get, slice_set, option_to_list}
use Rattle.disp_model.specs.declared.tree.TreeNode.{TreeNode}
use Rattle.disp_model.specs.declared.tree.TreeNode.TheVariants.{Branch, Leaf}
use Rattle.disp_model.specs.declared.tree.Leaf.{Leaf as TreeLeaf}
use Rattle.open_nodes.specs.declared.place.Place.{Place}
use Rattle.open_nodes.specs.declared.place.Kind.{Kind}
use Rattle.open_nodes.specs.declared.place.Kind.TheVariants.{Open, Dead, Branch as Branched}
use Rattle.open_nodes.specs.States.{State, with_places}
use Rattle.open_nodes.specs.Preorder.{preorder}

abbrev pub shown_by : List TreeNode → Option Place → Option TreeNode
shown_by kept None = None
shown_by kept (Some place) = slice_get kept place.shows

-- the node that a place shows
abbrev pub shown_at : List Place → List TreeNode → ℕ → Option TreeNode
shown_at places kept n = shown_by kept (slice_get places n)

-- the nodes that places show, one after the other
abbrev pub all_shown : List Place → List TreeNode → List ℕ → List TreeNode
all_shown places kept [] = []
all_shown places kept (n ∷ numbers) = option_to_list (shown_at places kept n)
    ++ all_shown places kept numbers

-- the tree in preorder
abbrev pub tree_of : State → List TreeNode
tree_of state = all_shown state.places state.kept (preorder state.places)

abbrev pub leaf_in : Option TreeNode → Option TreeLeaf
leaf_in None = None
leaf_in (Some (Branch choice children)) = None
leaf_in (Some (Leaf leaf)) = Some leaf

-- what is kept for the leaf of a number
abbrev pub leaf_of : State → ℕ → Option TreeLeaf
leaf_of state n = leaf_in (shown_at state.places state.kept n)

-- a leaf as it falls back: it shows the empty list of walks, has the bound 0, and is not marked
abbrev pub fallen : Place → Place
fallen place = record {
  above = place.above;
  next = place.next;
  shows = 0;
  kind = Open;
  bound = 0;
  out = place.out;
  examined = None;
}

abbrev pub fallen_by : List Place → ℕ → Place → Kind → List Place
fallen_by places n place Branched = places
fallen_by places n place Dead = slice_set places n (fallen place)
fallen_by places n place Open = slice_set places n (fallen place)

abbrev pub fallen_in : List Place → ℕ → Option Place → List Place
fallen_in places n None = places
fallen_in places n (Some place) = fallen_by places n place place.kind

-- the leaf of a number has fallen back, if there is one
abbrev pub fallen_at : State → ℕ → State
fallen_at state n = with_places state (fallen_in state.places n (slice_get state.places n))

abbrev pub with_edition : State → ℕ → State
with_edition state edition = record { places = state.places; kept = state.kept; edition = edition }
