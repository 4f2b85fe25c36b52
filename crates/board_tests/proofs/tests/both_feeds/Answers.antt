use Rattle.std.proofs.Common.{inl, refl, ap, arith}
use Rattle.shared_board.specs.Board.{known}
use Rattle.board_tests.proofs.Callers.{has_feed, feed_given}
use Rattle.board_tests.proofs.tests.both_feeds.Goals as goal

pub split-one-requires-clause-caller : goal.split-one-requires-clause-caller
split-one-requires-clause-caller c = let v = known c.args.pass.now in has_feed v v c.requires.new refl 0 (omega arith)

pub split-two-requires-clause-caller : goal.split-two-requires-clause-caller
split-two-requires-clause-caller c = has_feed (known c.args.pass.now) (known c.split-one.new.pass) c.requires.new (ap (λ z. z.terms) c.split-one.ensures.pass.0) 1 (omega arith)

pub returns-clause-feeds : goal.returns-clause-feeds
returns-clause-feeds c =
    let v = known c.args.pass.now in let new = c.requires.new in (
      feed_given v v new refl 0 _ c.split-one.ensures.given.0 (omega arith),
      feed_given v (known c.split-one.new.pass) new (ap (λ z. z.terms) c.split-one.ensures.pass.0) 1 _ c.split-two.ensures.given.0 (omega arith),
    )

pub returns-clause-lines : goal.returns-clause-lines
returns-clause-lines c = let feeds = returns-clause-feeds (c) in (inl feeds.0, inl feeds.1)
