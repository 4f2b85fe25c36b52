use Rattle.std.proofs.Common.{◌≡◌, ◌+◌, ◌++◌, ◌∷◌, [], List, ℕ, refl, subst}
use Rattle.disp_model.specs.declared.entry.Entry.{Entry}
use Rattle.shared_board.specs.Board.{known, lines}
use Rattle.shared_board.specs.Onward.{entries_by}
use Rattle.feed_reader.specs.Answered.{AnswersText}
use Rattle.feed_reader.proofs.Answering.{got_answers, long_answers}
use Rattle.feed_reader.proofs.read.read_next.Goals as goal

pub returns-in_ok-enter_text-in-Got-clause-given : goal.returns-in_ok-enter_text-in-Got-clause-given
returns-in_ok-enter_text-in-Got-clause-given g c = λ same.
    let v = known c.args.pass.now in
    let before = entries_by v.caller v.seen in
    let after = entries_by v.caller (known c.enter_text.new.pass).seen in
    let answers = subst (λ (t : List ℕ). (one : Entry) × AnswersText v.caller (lines c.args.pass.now + 1) t one × (after ≡ before ++ one ∷ [])) c.as_slice.ensures.bytes c.in_ok-enter_text-in-Got.ensures.entered in (
      got_answers v.caller (lines c.args.pass.now + 1) (g.F.Feed.lines c.args.feed.now) (g.F.Feed.lines c.line.new.self) c.line.new.into before after (c.in-Got.ensures.got refl) answers,
      c.in_ok-enter_text-in-Got.ensures.counted,
      c.in-Got.ensures.ended,
    )

pub returns-in_ok-enter_unread-in-Long-clause-given : goal.returns-in_ok-enter_unread-in-Long-clause-given
returns-in_ok-enter_unread-in-Long-clause-given g c = λ same.
    let v = known c.args.pass.now in (
      long_answers v.caller (lines c.args.pass.now + 1) (g.F.Feed.lines c.args.feed.now) (g.F.Feed.lines c.line.new.self) (entries_by v.caller v.seen)
          (entries_by v.caller (known c.enter_unread.new.pass).seen) (c.in-Long.ensures.long refl) c.in_ok-enter_unread-in-Long.ensures.entered,
      c.in_ok-enter_unread-in-Long.ensures.counted,
      c.in-Long.ensures.ended,
    )
