-- Lines in memory, some of whose readings break.
use Rattle.std.specs.Prelude.{ℕ, Bool, List, string_bytes}
use Rattle.outside_in_memory.specs.declared.mem_feed.MemFeed.{MemFeed}
use Rattle.outside_in_memory.specs.MemLines.{lines_left as mem_lines_left}
use Rattle.disp_outside.specs.FeedState.{is_over, read_fault_count as state_faults}

-- the feed's name
abbrev pub feed_name : MemFeed → List ℕ
feed_name feed = string_bytes feed.ticket.name

-- the lines that are left
abbrev pub lines_left : MemFeed → List (List ℕ)
lines_left feed = mem_lines_left feed.lines

-- how often a call has failed
abbrev pub feed_fault_count : MemFeed → ℕ
feed_fault_count feed = state_faults feed.state

-- the feed has answered that it ends, or that it failed
abbrev pub has_ended : MemFeed → Bool
has_ended feed = is_over feed.state

-- the numbers of the calls that fail
abbrev pub broken_calls : MemFeed → List ℕ
broken_calls feed = feed.broken.items

-- how many calls gave or skipped a line
abbrev pub call_count : MemFeed → ℕ
call_count feed = feed.given
