-- What is known of trains, on the way from one place of a tree to the next.
use Rattle.std.specs.Prelude.{◌≡◌, ◌⊎◌, ◌<◌, ◌≤◌, ℕ, List, All, Contains, Some, length, slice_get, slice_index_or}
use Rattle.disp_model.specs.declared.decision.Decision.{Decision}
use Rattle.disp_model.specs.Node.{Node}
use Rattle.node_facts.specs.declared.train.TrainKnowledge.{TrainKnowledge}
use Rattle.node_facts.specs.Known.{IsKnown}
use Rattle.decision_paths.specs.Kept.{train_about}

-- a list has the train of whose routes the decision speaks
pub record Covers (decision : Decision) (changed : List ℕ) : Type 0 where
  pub has : (t : ℕ) → train_about decision ≡ Some t → Contains changed t

-- the train of whose routes the decision speaks is noted beside what is noted
pub record Notes (decision : Decision) (old new : List ℕ) : Type 0 where
  pub own : Covers decision new
  pub kept : (t : ℕ) → Contains old t → Contains new t

-- a list has the trains of the decisions from a depth on, as far as they were looked at, and of the
-- last ones
pub record AreNoted (path : List Decision) (depth : ℕ) (own : List Decision) (at : ℕ)
    (changed : List ℕ) : Type 0 where
  pub last : All (λ decision. Covers decision changed) own
  pub way : (k : ℕ) (d : Decision) → depth ≤ k → k < at → k < length path
      → Covers (slice_index_or path k d) changed

-- what is known of one train is so at the node, and of the others it is what it was
pub record RenewsOne (node : Node) (t : ℕ) (old new : List TrainKnowledge) : Type 0 where
  pub long : length new ≡ length old
  pub own : (known : TrainKnowledge) → slice_get new t ≡ Some known → IsKnown node t known
  pub others : (u : ℕ) (known : TrainKnowledge) → (u ≡ t → ⊥) → slice_get new u ≡ Some known
      → slice_get old u ≡ Some known

-- what is known of the listed trains is so at the node, and of each other train it is what it was
pub record AreRenewed (node : Node) (changed : List ℕ) (old new : List TrainKnowledge)
    : Type 0 where
  pub long : length new ≡ length old
  pub each : (t : ℕ) (known : TrainKnowledge) → slice_get new t ≡ Some known → IsKnown node t known
      ⊎ ((slice_get old t ≡ Some known) × (Contains changed t → ⊥))
