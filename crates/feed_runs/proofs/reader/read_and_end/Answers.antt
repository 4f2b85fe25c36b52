use Rattle.std.proofs.Common.{◌≡◌, ◌∙◌, ℕ, List, IfSome, sym, subst}
use Rattle.disp_model.specs.declared.entry.Entry.{Entry}
use Rattle.shared_board.specs.Board.{known}
use Rattle.shared_board.specs.Onward.{entries_by}
use Rattle.shared_board.proofs.Onward.{feed_on}
use Rattle.feed_reader.specs.Answered.{AnswersAs}
use Rattle.feed_runs.proofs.Ending.{same_entries}
use Rattle.feed_runs.proofs.reader.read_and_end.Goals as goal

pub feed_end-requires-clause-feed : goal.feed_end-requires-clause-feed
feed_end-requires-clause-feed g c = feed_on (known c.args.pass.now) (known c.read_lines-reading.new.pass) c.read_lines-reading.ensures.on.role c.requires.feed

pub returns-clause-answered : goal.returns-clause-answered
returns-clause-answered g c =
    let caller = (known c.args.pass.now).caller in let mid = known c.read_lines-reading.new.pass in let after = known c.feed_end.new.pass in
    let stay : entries_by caller after.seen ≡ entries_by caller mid.seen =
    subst (λ (n : ℕ). entries_by n after.seen ≡ entries_by n mid.seen) c.read_lines-reading.ensures.on.role.caller
    (same_entries mid after _ _ c.feed_end.ensures.noted) in
    subst (λ (l : List Entry). IfSome (g.F.Feed.lines c.args.feed.now) (λ told. AnswersAs caller told l c.read_lines-reading.result)) (sym stay)
    c.read_lines-reading.ensures.answered
