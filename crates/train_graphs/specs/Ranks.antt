-- Ranks of operations that rise along successors, or do not fall, for private clauses.
use Rattle.std.specs.Prelude.{◌≡◌, ℕ, ◌<◌, ◌≤◌, List, Some, All, slice_index, slice_get}
use Rattle.disp_model.specs.declared.train.Operation.{Operation}

-- the operation has a rank above this one
abbrev pub HasRankAbove : List ℕ → ℕ → ℕ → Type 0
HasRankAbove ranks rank s = rank < slice_index ranks s

-- each successor has a higher rank
abbrev pub Rises : List Operation → List ℕ → Type 0
Rises train ranks = (o : ℕ) (p : Operation) → slice_get train o ≡ Some p
    → All (HasRankAbove ranks (slice_index ranks o)) p.next

-- the operation has a rank that is not below this one
abbrev pub IsNotBelow : List ℕ → ℕ → ℕ → Type 0
IsNotBelow ranks rank s = rank ≤ slice_index ranks s

-- no successor has a lower rank
abbrev pub NeverFalls : List Operation → List ℕ → Type 0
NeverFalls train ranks = (o : ℕ) (p : Operation) → slice_get train o ≡ Some p
    → All (IsNotBelow ranks (slice_index ranks o)) p.next

-- each successor of an operation before this one has a higher rank
abbrev pub RisesBefore : List Operation → List ℕ → ℕ → Type 0
RisesBefore train ranks v = (o : ℕ) (p : Operation) → o < v → slice_get train o ≡ Some p
    → All (HasRankAbove ranks (slice_index ranks o)) p.next
