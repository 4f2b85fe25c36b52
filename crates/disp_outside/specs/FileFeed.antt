-- Lines out of a file of the system.
use Rattle.std.specs.Prelude.{ℕ, Bool, List, string_bytes}
use Rattle.disp_outside.specs.declared.file_feed.FileFeed.{FileFeed}
use Rattle.disp_outside.specs.FeedState.{is_over, read_fault_count as state_faults}

module _ {R : Type 0} where
  -- the feed's name
  abbrev pub feed_name : FileFeed R → List ℕ
  feed_name feed = string_bytes feed.ticket.name

  -- how often a call has failed
  abbrev pub fault_count : FileFeed R → ℕ
  fault_count feed = state_faults feed.state

  -- the feed has answered that it ends, or that it failed
  abbrev pub has_ended : FileFeed R → Bool
  has_ended feed = is_over feed.state
