-- How the places of a tree stand in preorder: each is linked to the next, and the nodes that they
-- show fill them.
use Rattle.std.specs.Prelude.{◌≡◌, ◌≢◌, ◌⊎◌, ℕ, ◌+◌, ◌≤◌, List, [], ◌∷◌, ◌++◌, Option, Some, None, length, slice_get}
use Rattle.disp_model.specs.declared.decision.Decision.{Decision}
use Rattle.disp_model.specs.declared.decision.Choice.{Choice}
use Rattle.disp_model.specs.declared.problem.Problem.{Problem}
use Rattle.disp_model.specs.declared.tree.TreeNode.{TreeNode}
use Rattle.disp_model.specs.declared.tree.TreeNode.TheVariants.{Branch, Leaf}
use Rattle.disp_model.specs.declared.tree.Leaf.{Leaf as TreeLeaf}
use Rattle.disp_model.specs.declared.tree.Leaf.TheVariants.{Costs}
use Rattle.disp_model.specs.Trees.{children_of, IsChoice, LeafHolds}
use Rattle.disp_model.specs.declared.fixing.Fixing.{Fixing}
use Rattle.disp_model.specs.declared.tree.Verdict.TheVariants.{Optimal, Infeasible}
use Rattle.disp_model.specs.declared.tree.Verdict.{Verdict}
use Rattle.disp_model.specs.Node.{node_at}
use Rattle.open_nodes.specs.States.{State, decisions_of, HaveSmallerParents}
use Rattle.open_nodes.specs.declared.place.Place.{Place}
use Rattle.open_nodes.specs.declared.place.Above.{Above}
use Rattle.open_nodes.specs.declared.place.Errand.{Errand}
use Rattle.open_nodes.specs.declared.place.Kind.TheVariants.{Branch as Branched}
use Rattle.open_nodes.specs.Preorder.{link_of}
use Rattle.open_nodes.specs.Grafts.{kind_of}

-- from a number, or none, the links lead along these numbers to another, or none; each number has
-- its place by a table
abbrev pub LinksLead : (ℕ → Option Place) → Option ℕ → List ℕ → Option ℕ → Type 0
LinksLead look at [] to = at ≡ to
LinksLead look at (n ∷ numbers) to = (at ≡ Some n) × LinksLead look (link_of (look n)) numbers to

-- a place that is to be filled: its number, and what is above it
pub record Spot : Type 0 where
  pub number : ℕ
  pub above : Option Above

-- the children of a branch, numbered from a number on
abbrev pub spots_for : ℕ → ℕ → List Decision → List Spot
spots_for parent number [] = []
spots_for parent number (decision ∷ decisions) =
    record { number = number; above = Some (record { parent = parent; decision = decision }) }
    ∷ spots_for parent (number + 1) decisions

-- a place shows this leaf
pub record ShowsLeaf (kept : List TreeNode) (place : Place) (leaf : TreeLeaf) : Type 0 where
  pub shown : slice_get kept place.shows ≡ Some (Leaf leaf)
  pub kind_is : place.kind ≡ kind_of leaf

-- a place shows a branch of this choice, with its first child behind it
pub record ShowsBranch (problem : Problem) (kept : List TreeNode) (place : Place) (choice : Choice)
    (first : ℕ) : Type 0 where
  pub children : ℕ
  pub shown : slice_get kept place.shows ≡ Some (Branch choice children)
  pub kind_is : place.kind ≡ Branched
  pub is_choice : IsChoice problem choice
  pub children_are : children ≡ length (children_of problem choice)
  pub next_is : place.next ≡ Some first

-- the place of this number is at its spot
pub record IsAtSpot (look : ℕ → Option Place) (spot : Spot) (n : ℕ) (place : Place) : Type 0 where
  pub number_is : n ≡ spot.number
  pub there : look n ≡ Some place
  pub above_is : place.above ≡ spot.above

-- the places of these numbers fill the spots, from the first on
abbrev pub AreFilled : Problem → (ℕ → Option Place) → List TreeNode → List Spot → List ℕ → Type 0
AreFilled problem look kept [] [] = Unit {0}
AreFilled problem look kept [] (n ∷ numbers) = ⊥
AreFilled problem look kept (spot ∷ spots) [] = ⊥
AreFilled problem look kept (spot ∷ spots) (n ∷ numbers) = (place : Place)
    × IsAtSpot look spot n place
    × (((leaf : TreeLeaf) × ShowsLeaf kept place leaf × AreFilled problem look kept spots numbers)
    ⊎ ((choice : Choice) × (first : ℕ) × ShowsBranch problem kept place choice first
    × AreFilled problem look kept (spots_for n first (children_of problem choice) ++ spots)
    numbers))

-- the places are a tree over the problem: the links lead from the root through all of them, they
-- fill its spot, only leaves are out, and what is kept first is the empty list of walks
pub record IsTree (problem : Problem) (state : State) : Type 0 where
  pub numbers : List ℕ
  pub leads : LinksLead (slice_get state.places) (Some 0) numbers None
  pub filled : AreFilled problem (slice_get state.places) state.kept
      (record { number = 0; above = None } ∷ []) numbers
  pub count : length numbers ≡ length state.places
  pub parents : HaveSmallerParents state.places
  pub leaves : (n : ℕ) (place : Place) (errand : Errand) → slice_get state.places n ≡ Some place
      → place.out ≡ Some errand → place.kind ≢ Branched
  pub empty : slice_get state.kept 0 ≡ Some (Leaf (Costs []))

-- each leaf holds for its kept bound at its node
abbrev pub AllHold : Problem → List Fixing → List Place → List TreeNode → Type 0
AllHold problem fixings places kept = (n : ℕ) (place : Place) (leaf : TreeLeaf)
    → slice_get places n ≡ Some place → slice_get kept place.shows ≡ Some (Leaf leaf)
    → LeafHolds (node_at problem fixings (decisions_of places n)) (Optimal place.bound) leaf

-- what a tree shows that has no wanted leaf
abbrev pub verdict_for : Option ℕ → Verdict
verdict_for None = Infeasible
verdict_for (Some cost) = Optimal cost

-- each branch of these nodes has a choice of the problem
abbrev pub HaveChoices : Problem → List TreeNode → Type 0
HaveChoices problem [] = Unit {0}
HaveChoices problem (Leaf leaf ∷ tree) = HaveChoices problem tree
HaveChoices problem (Branch choice children ∷ tree) = IsChoice problem choice
    × HaveChoices problem tree

-- the leaf of a number, and those of numbers from one on, hold for their kept bounds at their nodes
abbrev pub NewHold : Problem → List Fixing → ℕ → ℕ → List Place → List TreeNode → Type 0
NewHold problem fixings from number places kept = (n : ℕ) (place : Place) (leaf : TreeLeaf)
    → (n ≡ number) ⊎ (from ≤ n) → slice_get places n ≡ Some place
    → slice_get kept place.shows ≡ Some (Leaf leaf)
    → LeafHolds (node_at problem fixings (decisions_of places n)) (Optimal place.bound) leaf
