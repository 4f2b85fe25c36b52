-- A sink in memory whose writes never break.
use Rattle.std.specs.Prelude.{ℕ, List}
use Rattle.outside_in_memory.specs.declared.steady_sink.SteadySink.{SteadySink}

-- what was written
abbrev pub written_bytes : SteadySink → List ℕ
written_bytes sink = sink.written.items
