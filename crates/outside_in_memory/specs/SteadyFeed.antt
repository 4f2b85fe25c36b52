-- Lines in memory that never fail.
use Rattle.std.specs.Prelude.{ℕ, Bool, List, string_bytes}
use Rattle.outside_in_memory.specs.declared.steady_feed.SteadyFeed.{SteadyFeed}
use Rattle.outside_in_memory.specs.MemLines.{lines_left as mem_lines_left}

-- the feed's name
abbrev pub feed_name : SteadyFeed → List ℕ
feed_name feed = string_bytes feed.name

-- the lines that are left
abbrev pub lines_left : SteadyFeed → List (List ℕ)
lines_left feed = mem_lines_left feed.lines

-- the feed has answered that it ends
abbrev pub has_ended : SteadyFeed → Bool
has_ended feed = feed.has_ended
