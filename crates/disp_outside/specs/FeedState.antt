-- How far a feed has come.
use Rattle.std.specs.Prelude.{ℕ, Bool, true, false}
use Rattle.disp_outside.specs.declared.feed.FeedLine.{FeedLine}
use Rattle.disp_outside.specs.declared.feed.FeedLine.TheVariants.{Got, End, Long, Failed}
use Rattle.disp_outside.specs.declared.feed_state.FeedState.{FeedState}
use Rattle.disp_outside.specs.declared.feed_state.FeedState.TheVariants.{Open, Ended, Broken}

-- the feed has ended or failed
abbrev pub is_over : FeedState → Bool
is_over Open = false
is_over Ended = true
is_over Broken = true

-- how often it has failed
abbrev pub read_fault_count : FeedState → ℕ
read_fault_count Open = 0
read_fault_count Ended = 0
read_fault_count Broken = 1

-- how far it has come with this answer
abbrev pub state_after : FeedLine → FeedState
state_after Got = Open
state_after Long = Open
state_after End = Ended
state_after Failed = Broken
