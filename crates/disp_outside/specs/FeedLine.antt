-- Answers of a feed.
use Rattle.std.specs.Prelude.{Bool, true, false}
use Rattle.disp_outside.specs.declared.feed.FeedLine.{FeedLine}
use Rattle.disp_outside.specs.declared.feed.FeedLine.TheVariants.{Got, End, Long, Failed}

-- the answer ends its feed
abbrev pub is_last : FeedLine → Bool
is_last Got = false
is_last Long = false
is_last End = true
is_last Failed = true
