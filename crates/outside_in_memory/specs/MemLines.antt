-- The lines of bytes in memory.
use Rattle.std.specs.Prelude.{ℕ, List, drop}
use Rattle.disp_outside.specs.Lines.{feed_lines}
use Rattle.outside_in_memory.specs.declared.mem_lines.MemLines.{MemLines}

-- the lines that are left
abbrev pub lines_left : MemLines → List (List ℕ)
lines_left lines = feed_lines (drop lines.at lines.bytes.items)
