-- Components that are added up, each at its operation.
use Rattle.std.specs.Prelude.{◌≡◌, ◌==◌, ◌&&◌, ℕ, Bool, List, length, filter, Some, slice_get}
use Rattle.std.specs.List.{FoldsTo}
use Rattle.disp_model.specs.declared.train.Component.{Component}

-- whether a component is of an operation of a train
abbrev pub is_at : ℕ → ℕ → Component → Bool
is_at t o c = (c.train == t) && (o == c.operation)

-- what is kept of each operation of a train has got more by its components, one after another
pub record AddsComponents {P : Type 0} (step : P → Component → P → Type 0) (t : ℕ)
    (components : List Component) (old new : List P) : Type 0 where
  pub long : length new ≡ length old
  pub added : (o : ℕ) (before : P) → slice_get old o ≡ Some before
      → (after : P) × (slice_get new o ≡ Some after)
      × FoldsTo step before (filter (is_at t o) components) after
