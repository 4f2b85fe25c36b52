-- Texts that grow at their end.
use Rattle.std.specs.Prelude.{◌≡◌, ℕ, List, ◌++◌}

-- the piece was added at the end
pub record Adds (old new piece : List ℕ) : Type 0 where
  pub is : new ≡ old ++ piece
