-- A sink over a writer.
use Rattle.std.specs.Prelude.{ℕ, List, Option, None}
use Rattle.disp_outside.specs.declared.standard_output.StandardOutput.{StandardOutput}

module _ {W : Type 0} where
  -- how many writes have failed
  abbrev pub fault_count : StandardOutput W → ℕ
  fault_count sink = sink.faults

  -- what the bytes go to
  abbrev pub writer_of : StandardOutput W → W
  writer_of sink = sink.writer

  -- nothing is told of what was written
  abbrev pub told_bytes : StandardOutput W → Option (List ℕ)
  told_bytes sink = None
