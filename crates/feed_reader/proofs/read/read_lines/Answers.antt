use Rattle.std.proofs.Common.{◌≡◌, ◌∙◌, ◌+◌, ◌≤◌, sym, ap, rules, true, false}
use Rattle.std.specs.Prelude.{Ok, Err}
use Rattle.disp_model.specs.declared.limits.TheConstants.{MOST_LINES}
use Rattle.shared_board.specs.Board.{known}
use Rattle.shared_board.proofs.Onward.{feed_on, goes_goes}
use Rattle.feed_reader.specs.declared.read.Reading.TheVariants as reading
use Rattle.feed_reader.proofs.Passing.{all_read, end_read, left_behind, one_read, some_read}
use Rattle.feed_reader.proofs.read.read_lines.Goals as goal

pub loop-read-preserved : goal.loop-read-preserved
loop-read-preserved g c =
    let inv = c.loop-read.invariant in
    let is : c.read_next.result ≡ Ok false = search rules in
    let given = c.read_next.ensures.given is in
    record {
      on = goes_goes c.args.pass.now c.loop-read.pass c.read_next.new.pass inv.on c.read_next.ensures.on;
      feed = feed_on (known c.loop-read.pass) (known c.read_next.new.pass) c.read_next.ensures.on.role inv.feed;
      open_ = given.2;
      faults = search rules;
      named = search rules;
      read = one_read c.args.pass.now c.loop-read.pass c.read_next.new.pass inv.on c.loop-read._read (g.F.Feed.lines c.args.feed.now) (g.F.Feed.lines c.loop-read.feed) inv.read
          (g.F.Feed.lines c.read_next.new.feed) given.0 given.1;
    }

pub returns-in-Ok-true-clause-answered : goal.returns-in-Ok-true-clause-answered
returns-in-Ok-true-clause-answered g c =
    let inv = c.loop-read.invariant in
    let is : c.read_next.result ≡ Ok true = search rules in
    let none = c.read_next.ensures.none is in
    let few : c.loop-read._read ≤ MOST_LINES = search rules in
    all_read c.args.pass.now c.loop-read.pass c.read_next.new.pass inv.on c.loop-read._read (g.F.Feed.lines c.args.feed.now) (g.F.Feed.lines c.loop-read.feed) inv.read few none.0 none.1

pub returns-in-Err-clause-answered : goal.returns-in-Err-clause-answered
returns-in-Err-clause-answered g c =
    let inv = c.loop-read.invariant in
    some_read c.args.pass.now c.loop-read.pass c.read_next.new.pass inv.on c.loop-read._read (g.F.Feed.lines c.args.feed.now) (g.F.Feed.lines c.loop-read.feed) inv.read c.in-Err.no
    c.in-Err.ensures.why c.in-Err.ensures.no

pub returns-in-Err-clause-left : goal.returns-in-Err-clause-left
returns-in-Err-clause-left g c = λ failed.
    let inv = c.loop-read.invariant in
    left_behind c.args.pass.now c.loop-read.pass c.read_next.new.pass inv.on c.loop-read._read (g.F.Feed.lines c.args.feed.now) (g.F.Feed.lines c.loop-read.feed) inv.read
    (g.F.Feed.lines c.read_next.new.feed) (c.in-Err.ensures.left (ap Err failed)) c.in-Err.ensures.no

pub returns-clause-left : goal.returns-clause-left
returns-clause-left g c = λ failed.
    let inv = c.loop-read.invariant in
    left_behind c.args.pass.now c.loop-read.pass c.read_end.new.pass inv.on c.loop-read._read (g.F.Feed.lines c.args.feed.now) (g.F.Feed.lines c.loop-read.feed) inv.read
    (g.F.Feed.lines c.read_end.new.feed) (c.read_end.ensures.left failed)
    (c.read_end.ensures.quiet (λ many. let both : reading.Failed ≡ reading.TooMany = sym failed ∙ many in absurd (cc)))

pub returns-clause-answered : goal.returns-clause-answered
returns-clause-answered g c =
    let inv = c.loop-read.invariant in
    let full : c.loop-read._read ≡ MOST_LINES = search rules in
    end_read c.args.pass.now c.loop-read.pass c.read_end.new.pass inv.on c.loop-read._read (g.F.Feed.lines c.args.feed.now) (g.F.Feed.lines c.loop-read.feed) inv.read c.read_end.result full
    c.read_end.ensures.ended c.read_end.ensures.more c.read_end.ensures.quiet
