-- The longest arc between two operations.
use Rattle.std.specs.Prelude.{◌≡◌, ℕ, List, length, max, Option, Some, None, slice_get}
use Rattle.disp_model.specs.Node.{Node}
use Rattle.node_facts.specs.declared.train.TrainKnowledge.{TrainKnowledge}
use Rattle.node_facts.specs.Known.{IsKnown}

-- the greater of two lengths that may be known
abbrev pub greater : Option ℕ → Option ℕ → Option ℕ
greater None other = other
greater (Some n) None = Some n
greater (Some n) (Some m) = Some (max n m)

-- what is known of each train of a node
pub record AreKnown (node : Node) (trains : List TrainKnowledge) : Type 0 where
  pub long : length trains ≡ length node.problem.trains
  pub each : (t : ℕ) (known : TrainKnowledge) → slice_get trains t ≡ Some known
      → IsKnown node t known
