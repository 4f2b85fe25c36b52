use Rattle.dispatch_cli.specs.declared.roll_no.RollNo.TheVariants.{TooManyFeeds, FeedFailed}
use Rattle.dispatch_cli.specs.Stops.{roll_line_of}
use Rattle.dispatch_cli.proofs.roll_no.stop_roll.Goals as goal

pub returns-in-TooManyFeeds : goal.returns-in-TooManyFeeds
returns-in-TooManyFeeds g c = rw c.in-TooManyFeeds.is (c.tell.ensures (roll_line_of (TooManyFeeds c.in-TooManyFeeds.count)) c.many_line.ensures)

pub returns-in-FeedFailed : goal.returns-in-FeedFailed
returns-in-FeedFailed g c = rw c.in-FeedFailed.is (c.tell-in-FeedFailed.ensures (roll_line_of (FeedFailed c.in-FeedFailed.number)) c.failed_line.ensures)
