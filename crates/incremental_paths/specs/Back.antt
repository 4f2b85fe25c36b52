-- Arcs on the way back from a node.
use Rattle.std.specs.Prelude.{◌≡◌, ℕ, ◌+◌, ◌<◌, Bool, true, List, length, slice_index, slice_index_or}
use Rattle.incremental_paths.specs.declared.arc.Arc.{Arc}
use Rattle.incremental_paths.specs.Ordered.{is_marked}

-- an arc from u gives v its length
abbrev pub GivesNode : List Arc → List ℕ → ℕ → ℕ → Type 0
GivesNode arcs lengths u v = (k : ℕ) × (arc : Arc) × (k < length arcs)
    × (slice_index_or arcs k arc ≡ arc) × (arc.from ≡ u) × (arc.to ≡ v)
    × (slice_index lengths u + arc.length ≡ slice_index lengths v)

-- an arc leads from u to v, and u is marked
abbrev pub ComesFromMarked : List Arc → List Bool → ℕ → ℕ → Type 0
ComesFromMarked arcs marks u v = (k : ℕ) × (arc : Arc) × (k < length arcs)
    × (slice_index_or arcs k arc ≡ arc) × (arc.from ≡ u) × (arc.to ≡ v) × (is_marked marks u ≡ true)
