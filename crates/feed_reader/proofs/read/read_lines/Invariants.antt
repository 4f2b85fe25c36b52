-- so many lines are read and answered, and the others are left
use Rattle.std.proofs.Common.{◌≡◌, false}
use Rattle.shared_board.specs.Board.{known, lines}
use Rattle.shared_board.specs.Calls.{IsFeed}
use Rattle.shared_board.specs.Onward.{entries_by, PassGoesOn}
use Rattle.feed_reader.specs.Answered.{IsReadTo}
use Rattle.feed_reader.proofs.read.read_lines.Given as goal

abbrev pub invariant-loop-read : goal.invariant-loop-read
invariant-loop-read g l = record {
  on : PassGoesOn l.fn.pass l.pass;
  feed : IsFeed (known l.pass);
  open_ : g.F.Feed.has_ended l.feed ≡ false;
  faults : g.F.Feed.faults l.feed ≡ g.F.Feed.faults l.fn.feed;
  named : g.F.Feed.name l.feed ≡ g.F.Feed.name l.fn.feed;
  read : IsReadTo (known l.fn.pass).caller l._read (lines l.pass) (g.F.Feed.lines l.fn.feed) (g.F.Feed.lines l.feed)
      (entries_by (known l.fn.pass).caller (known l.pass).seen);
}
