use Rattle.std.proofs.Common.{arith}
use Rattle.dispatch_cli.proofs.feeds.open_feeds.Goals as goal

pub returns-in-Err-clause-unopened : goal.returns-in-Err-clause-unopened
returns-in-Err-clause-unopened g c = let opened = c.open_each.ensures.opened in let closed = c.close_feeds.ensures.closed in omega (arith, opened, closed)
