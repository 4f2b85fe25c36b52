-- What a fragment makes of the places: its nodes in preorder, one after the other.
use Rattle.std.specs.Prelude.{◌≡◌, ℕ, zero, suc, ◌+◌, ◌-◌, ◌<◌, List, [], ◌∷◌, ◌++◌, Option, Some, None, length, slice_get, slice_set}
use Rattle.disp_model.specs.declared.decision.Decision.{Decision}
use Rattle.disp_model.specs.declared.entry.Split.{Split}
use Rattle.disp_model.specs.declared.problem.Problem.{Problem}
use Rattle.disp_model.specs.declared.tree.TreeNode.{TreeNode}
use Rattle.disp_model.specs.declared.tree.TreeNode.TheVariants.{Branch, Leaf}
use Rattle.disp_model.specs.declared.tree.Leaf.{Leaf as TreeLeaf}
use Rattle.disp_model.specs.declared.tree.Leaf.TheVariants.{NoRoute, Cycle, Late, Costs, Shares}
use Rattle.disp_model.specs.Trees.{children_of}
use Rattle.open_nodes.specs.States.{State, IsOut, IsGone, with_out}
use Rattle.disp_model.specs.declared.decision.Choice.{Choice}
use Rattle.open_nodes.specs.declared.place.Above.{Above}
use Rattle.open_nodes.specs.declared.work.Fragment.{Fragment}
use Rattle.open_nodes.specs.declared.work.Growth.{Growth}
use Rattle.open_nodes.specs.declared.work.Growth.TheVariants.{Grown, Gone}
use Rattle.open_nodes.specs.declared.place.Place.{Place}
use Rattle.open_nodes.specs.declared.place.Kind.{Kind}
use Rattle.open_nodes.specs.declared.place.Kind.TheVariants.{Open, Dead, Branch as Branched}
use Rattle.packed_nodes.specs.declared.outline.Outline.{Outline}
use Rattle.packed_nodes.specs.declared.outline.Outline.TheVariants as outline

-- the nodes fill so many places, from the first on: each branch has as many children as its choice,
-- and each leaf a bound
abbrev pub FillPlaces : Problem → ℕ → List TreeNode → List ℕ → Type 0
FillPlaces problem zero [] [] = Unit {0}
FillPlaces problem zero [] (bound ∷ bounds) = ⊥
FillPlaces problem zero (node ∷ tree) bounds = ⊥
FillPlaces problem (suc left) [] bounds = ⊥
FillPlaces problem (suc left) (Leaf leaf ∷ tree) [] = ⊥
FillPlaces problem (suc left) (Leaf leaf ∷ tree) (bound ∷ bounds) =
    FillPlaces problem left tree bounds
FillPlaces problem (suc left) (Branch choice children ∷ tree) bounds =
    (children ≡ length (children_of problem choice))
    × FillPlaces problem (children + left) tree bounds

-- where a leaf is known dead
abbrev pub kind_of : TreeLeaf → Kind
kind_of NoRoute = Dead
kind_of (Cycle nodes) = Dead
kind_of (Late walk) = Dead
kind_of (Costs walks) = Open
kind_of (Shares walks trains) = Open

-- a place as it becomes a branch, with its first child behind it
abbrev pub branch_at : Place → ℕ → ℕ → Place
branch_at place first shows = record {
  above = place.above;
  next = Some first;
  shows = shows;
  kind = Branched;
  bound = 0;
  out = None;
  examined = None;
}

-- a place as it becomes a leaf of a kind
abbrev pub leaf_as : Place → ℕ → Kind → ℕ → Place
leaf_as place shows kind bound = record {
  above = place.above;
  next = place.next;
  shows = shows;
  kind = kind;
  bound = bound;
  out = None;
  examined = None;
}

-- a place as it becomes this leaf
abbrev pub leaf_at : Place → ℕ → TreeLeaf → ℕ → Place
leaf_at place shows leaf bound = leaf_as place shows (kind_of leaf) bound

abbrev pub next_in : Option ℕ → ℕ → List Decision → Option ℕ
next_in behind number [] = behind
next_in behind number (decision ∷ decisions) = Some number

abbrev pub next_given : Option Decision → ℕ → Option ℕ → Option ℕ
next_given None number behind = behind
next_given (Some decision) number behind = Some number

abbrev pub new_place : ℕ → Decision → Option ℕ → Place
new_place parent decision next = record {
  above = Some
      (record { parent = parent; decision = decision });
  next = next;
  shows = 0;
  kind = Open;
  bound =
      0;
  out = None;
  examined = None;
}

-- the places of the children of a branch, numbered from a number on
abbrev pub children_at : ℕ → Option ℕ → ℕ → List Decision → List Place
children_at parent behind number [] = []
children_at parent behind number (decision ∷ decisions) =
    new_place parent decision (next_in behind (number + 1) decisions)
    ∷ children_at parent behind (number + 1) decisions

-- a leaf grows: what it becomes with the new places behind the last one there is, the number of the
-- next place that is filled, the bounds that are left, and the splits so far
pub record Graft : Type 0 where
  pub grown : List Place
  pub at : Option ℕ
  pub bounds : List ℕ
  pub splits : List Split

abbrev pub first_or_zero : List ℕ → ℕ
first_or_zero [] = 0
first_or_zero (bound ∷ bounds) = bound

abbrev pub behind_first : List ℕ → List ℕ
behind_first [] = []
behind_first (bound ∷ bounds) = bounds

-- the new places as a place becomes a branch, whose children have the next unused numbers
abbrev pub branched : Problem → ℕ → ℕ → ℕ → Place → Choice → List Place → List Place
branched problem last shows n place choice grown =
    slice_set (grown ++ children_at n place.next (last + length grown) (children_of problem choice))
    (n - last) (branch_at place (last + length grown) shows)

-- a place is filled with a leaf of a kind
abbrev pub filled_by_leaf : ℕ → ℕ → ℕ → Place → Kind → Graft → Graft
filled_by_leaf last shows n place kind graft = record {
  grown = slice_set graft.grown (n - last) (leaf_as place shows kind (first_or_zero graft.bounds));
  at = place.next;
  bounds = behind_first graft.bounds;
  splits = graft.splits;
}

-- one node more: of the places the leaf that grows is the first, and the last one there is has its
-- number before it
abbrev pub fills_at : Problem → ℕ → ℕ → ℕ → Place → TreeNode → Graft → Graft
fills_at problem last shows n place (Branch choice children) graft = record {
  grown = branched problem last shows n place choice graft.grown;
  at = Some (last + length graft.grown);
  bounds = graft.bounds;
  splits = graft.splits ++ record { node = n; choice = choice } ∷ [];
}
fills_at problem last shows n place (Leaf leaf) graft =
    filled_by_leaf last shows n place (kind_of leaf) graft

-- the same, where it is known what the node is, without what it lists
abbrev pub fills_as : Problem → ℕ → ℕ → ℕ → Place → Outline → Graft → Graft
fills_as problem last shows n place (outline.Branch choice) graft = record {
  grown = branched problem last shows n place choice graft.grown;
  at = Some (last + length graft.grown);
  bounds = graft.bounds;
  splits = graft.splits ++ record { node = n; choice = choice } ∷ [];
}
fills_as problem last shows n place outline.Dead graft =
    filled_by_leaf last shows n place Dead graft
fills_as problem last shows n place outline.Open graft =
    filled_by_leaf last shows n place Open graft

abbrev pub fills_there : Problem → ℕ → ℕ → ℕ → Option Place → TreeNode → Graft → Graft
fills_there problem last shows n None node graft = graft
fills_there problem last shows n (Some place) node graft =
    fills_at problem last shows n place node graft

abbrev pub fills : Problem → ℕ → ℕ → Option ℕ → TreeNode → Graft → Graft
fills problem last shows None node graft = graft
fills problem last shows (Some n) node graft =
    fills_there problem last shows n (slice_get graft.grown (n - last)) node graft

-- all nodes of a fragment, one after the other; the first is shown from this place of what is kept
abbrev pub grafted : Problem → ℕ → ℕ → List TreeNode → Graft → Graft
grafted problem last shows [] graft = graft
grafted problem last shows (node ∷ tree) graft =
    grafted problem last (shows + 1) tree (fills problem last shows graft.at node graft)

-- a leaf that is in, before it grows
abbrev pub ungrown : Place → ℕ → List ℕ → Graft
ungrown place n bounds = record {
  grown = with_out place None ∷ [];
  at = Some n;
  bounds = bounds;
  splits = [];
}

-- what the leaf of a number makes, with the nodes that show it
abbrev pub grown_at : Problem → State → ℕ → Place → List TreeNode → List ℕ → Graft
grown_at problem state n place tree bounds =
    grafted problem (length state.places - 1) (length state.kept) tree (ungrown place n bounds)

-- the places, where the leaf of a number has grown
abbrev pub placed : List Place → ℕ → List Place → List Place
placed places n [] = places
placed places n (root ∷ fresh) = slice_set (places ++ fresh) n root

-- the tree has grown by a fragment: its leaf and the new places are what the fragment makes, one
-- node after the other
pub record Grows (problem : Problem) (state : State) (fragment : Fragment) (splits : List Split)
    (after : State) : Type 0 where
  pub place : Place
  pub out : IsOut state.places fragment.work place
  pub splits_are : splits ≡ (grown_at problem state fragment.work.node place fragment.subtree
      fragment.bounds).splits
  pub after_is : after ≡ record {
    places = placed state.places fragment.work.node
        (grown_at problem state fragment.work.node place fragment.subtree fragment.bounds).grown;
    kept = state.kept ++ fragment.subtree;
    edition = state.edition;
  }

abbrev pub GrowsBy : Problem → State → Fragment → Growth → State → Type 0
GrowsBy problem state fragment (Grown splits) after = Grows problem state fragment splits after
GrowsBy problem state fragment (Gone node) after = IsGone state fragment.work
    × (node ≡ fragment.work.node) × (after ≡ state)

-- these are the parts of what was grown
pub record IsGraft (graft : Graft) (grown : List Place) (at : Option ℕ) (bounds : List ℕ)
    (splits : List Split) : Type 0 where
  pub grown_is : grown ≡ graft.grown
  pub at_is : at ≡ graft.at
  pub bounds_are : bounds ≡ graft.bounds
  pub splits_are : splits ≡ graft.splits

-- these are the places and the splits of what was grown
pub record IsGrafted (graft : Graft) (grown : List Place) (splits : List Split) : Type 0 where
  pub grown_is : grown ≡ graft.grown
  pub splits_are : splits ≡ graft.splits

-- what holds of the place of an index among the new ones: it is in, and is below a smaller number;
-- the first stays where it was
abbrev pub IsPlacedBehind : ℕ → Option Above → ℕ → Option Above → Type 0
IsPlacedBehind last above zero up = up ≡ above
IsPlacedBehind last above (suc j) up = (a : Above) → up ≡ Some a → a.parent < last + suc j

pub record StandsInPlace (last : ℕ) (above : Option Above) (j : ℕ) (place : Place) : Type 0 where
  pub inside : place.out ≡ None
  pub up : IsPlacedBehind last above j place.above

abbrev pub AllStand : ℕ → Option Above → List Place → Type 0
AllStand last above grown = (j : ℕ) (place : Place) → slice_get grown j ≡ Some place
    → StandsInPlace last above j place
