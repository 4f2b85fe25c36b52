use Rattle.std.proofs.Common.{refl}
use Rattle.fixing_files.proofs.Lines.{next_noted}
use Rattle.fixing_files.proofs.take.take_next.Goals as goal

pub returns-in_ok-take_line-in-Got-clause-noted : goal.returns-in_ok-take_line-in-Got-clause-noted
returns-in_ok-take_line-in-Got-clause-noted g c same =
    next_noted c.args.editions.now.problem c.args.editions.now.changes
    (g.F.Feed.lines c.args.feed.now) (g.F.Feed.lines c.line.new.self) c.line.new.into
    c.take_line.new.editions.changes c.args.asked.now.items c.take_line.new.asked.items
    (c.line.ensures.got c.in-Got.is)
    (rw (← c.as_slice.ensures.bytes) c.in_ok-take_line-in-Got.ensures.noted)
