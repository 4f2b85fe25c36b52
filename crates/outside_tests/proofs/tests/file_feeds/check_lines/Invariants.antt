use Rattle.std.proofs.Common.{◌≡◌}
use Rattle.outside_tests.proofs.tests.file_feeds.check_lines.Given as goal

abbrev pub invariant-loop-told : goal.invariant-loop-told
invariant-loop-told g l = g.F.Feed.name l.feed ≡ g.F.Feed.name l.initial.feed
