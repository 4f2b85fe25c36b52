-- What is found of the trains' routes at a node, and what is picked there.
use Rattle.std.specs.Prelude.{ℕ, ◌<◌, List, [], Some, None, slice_index_or}
use Rattle.disp_model.specs.Node.{Node}
use Rattle.disp_model.specs.Routes.{HasRoute, HasOneRoute}
use Rattle.disp_model.specs.Earliest.{IsEarliest, IsFixedPick}
use Rattle.branch_rules.specs.declared.pick.Pick.{Pick}
use Rattle.branch_rules.specs.declared.pick.Pick.TheVariants.{Choice, Plan}

-- of these first trains each that has a route has one alone
abbrev pub AreAlone : Node → ℕ → Type 0
AreAlone node count = (t : ℕ) → t < count → HasRoute node t → (route : List ℕ)
    × HasOneRoute node t route

-- each of these first trains has its one of these routes, and no other
abbrev pub AreTheOnly : Node → ℕ → List (List ℕ) → Type 0
AreTheOnly node count found = (t : ℕ) → t < count → HasOneRoute node t (slice_index_or found t [])

-- some of these first trains has not one route alone
abbrev pub IsSomeNotAlone : Node → ℕ → Type 0
IsSomeNotAlone node count = (t : ℕ) × (t < count)
    × ((route : List ℕ) → HasOneRoute node t route → ⊥)

-- what the fixed rule finds: the choice that is picked, or that none is, and the plan of earliest
-- starts
abbrev pub IsPickAt : Node → Pick → Type 0
IsPickAt node (Choice choice) = IsFixedPick node (Some choice)
IsPickAt node (Plan plan) = IsFixedPick node None × IsEarliest node plan
