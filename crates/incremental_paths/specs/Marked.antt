-- Arcs that rise in an order, and marks on the nodes that they lead to.
use Rattle.std.specs.Prelude.{◌≡◌, ℕ, ◌<◌, Bool, true, List, length, map, slice_index, slice_index_or, All}
use Rattle.incremental_paths.specs.declared.arc.Arc.{Arc}
use Rattle.incremental_paths.specs.Walks.{FollowsArcs, last_node_from}
use Rattle.incremental_paths.specs.Ordered.{is_marked}

-- where each arc begins, and where it ends
abbrev pub begins : List Arc → List ℕ
begins arcs = map (λ a. a.from) arcs

abbrev pub ends : List Arc → List ℕ
ends arcs = map (λ a. a.to) arcs

-- both ends of each arc are among the first n nodes
abbrev pub AreWithin : ℕ → List Arc → Type 0
AreWithin n arcs = All (λ a. (a.from < n) × (a.to < n)) arcs

-- each arc leads from a lower place to a higher
abbrev pub AreRising : List Arc → List ℕ → Type 0
AreRising arcs places = All (λ a. slice_index places a.from < slice_index places a.to) arcs

-- marked are the start, and with each node below the place `end` the nodes that arcs lead to from
-- there, and no others
pub record AreMarks (arcs : List Arc) (places : List ℕ) (start end : ℕ) (marks : List Bool)
    : Type 0 where
  pub started : is_marked marks start ≡ true
  pub closed : (k : ℕ) (d : Arc) → k < length arcs
      → is_marked marks (slice_index_or arcs k d).from ≡ true
      → slice_index places (slice_index_or arcs k d).from < end
      → is_marked marks (slice_index_or arcs k d).to ≡ true
  pub sound : (v : ℕ) → is_marked marks v ≡ true → (rest : List ℕ) × FollowsArcs arcs start rest
      × (last_node_from start rest ≡ v)
