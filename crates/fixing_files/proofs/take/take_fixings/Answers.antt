use Rattle.std.proofs.Common.{◌≡◌, ◌-◌, refl, rules, arith, true, false}
use Rattle.std.specs.Prelude.{Ok}
use Rattle.std.proofs.lemmas.Result.{on_ok_weaker, IfErr-weaker}
use Rattle.disp_model.specs.declared.limits.TheConstants.{MOST_LINES}
use Rattle.fixing_files.proofs.Lines.{noted_more, all_asked, at_too_many, at_stop, leaves_stop, at_end, at_few, at_more, leaves_too_many, next_is, then_is}
use Rattle.fixing_files.proofs.take.take_fixings.Goals as goal

pub loop-number-preserved : goal.loop-number-preserved
loop-number-preserved g c =
    let k = c.loop-number.number - 1 in
    let is : c.take_next.result ≡ Ok false = search rules in
    let given = rw c.loop-number.invariant.problem at c.take_next.ensures.given is in
    let noted = rw c.loop-number.invariant.problem at c.take_next.ensures.noted is in
    record {
      noted = rw (then_is c.loop-number.number c.loop-number.invariant.first)
          (noted_more c.args.editions.now.problem (g.F.Feed.lines c.args.feed.now)
          (g.F.Feed.lines c.loop-number.feed) k c.loop-number.editions.changes
          c.take_next.new.editions.changes _ _ c.loop-number.invariant.lines
          c.loop-number.invariant.noted noted);
      first = omega arith;
      problem = search rules;
      open_ = search rules;
      faults = search rules;
      named = search rules;
      lines = rw (then_is c.loop-number.number c.loop-number.invariant.first) (at_more c.args.editions.now.problem (g.F.Feed.lines c.args.feed.now) (g.F.Feed.lines c.loop-number.feed)
          (g.F.Feed.lines c.take_next.new.feed) k c.loop-number.editions.changes c.take_next.new.editions.changes c.loop-number.invariant.lines given);
    }

pub returns-in-Ok-true-clause-ok : goal.returns-in-Ok-true-clause-ok
returns-in-Ok-true-clause-ok g c =
    let is : c.take_next.result ≡ Ok true = search rules in
    let end = c.take_next.ensures.end is in
    at_end c.args.editions.now.problem (g.F.Feed.lines c.args.feed.now) (g.F.Feed.lines c.loop-number.feed) (c.loop-number.number - 1) c.loop-number.editions.changes _ c.loop-number.invariant.lines end.0 end.1

pub returns-in-Ok-true-clause-few : goal.returns-in-Ok-true-clause-few
returns-in-Ok-true-clause-few g c =
    let is : c.take_next.result ≡ Ok true = search rules in
    let end = c.take_next.ensures.end is in
    at_few c.args.editions.now.problem (g.F.Feed.lines c.args.feed.now) (g.F.Feed.lines c.loop-number.feed) (c.loop-number.number - 1) MOST_LINES c.loop-number.editions.changes c.loop-number.invariant.lines end.0 (omega arith)

pub returns-in-Ok-true-clause-asks : goal.returns-in-Ok-true-clause-asks
returns-in-Ok-true-clause-asks g c =
    let is : c.take_next.result ≡ Ok true = search rules in
    let end = c.take_next.ensures.end is in
    rw (c.take_next.ensures.quiet is) (all_asked c.args.editions.now.problem
    (g.F.Feed.lines c.args.feed.now) (g.F.Feed.lines c.loop-number.feed) (c.loop-number.number - 1)
    c.loop-number.editions.changes _ c.loop-number.invariant.lines c.loop-number.invariant.noted
    end.0)

pub returns-in-Err-clause-no : goal.returns-in-Err-clause-no
returns-in-Err-clause-no g c =
    let told = g.F.Feed.lines c.args.feed.now in
    let now = g.F.Feed.lines c.loop-number.feed in
    let stops = rw c.loop-number.invariant.problem at c.in-Err.ensures.no in
    at_stop c.args.editions.now.problem told now (g.F.Feed.lines c.take_next.new.feed) (c.loop-number.number - 1) c.loop-number.editions.changes c.in-Err.no (omega arith) c.loop-number.invariant.lines
    (rw (next_is c.loop-number.number c.loop-number.invariant.first) stops)

pub returns-in-Err-clause-left : goal.returns-in-Err-clause-left
returns-in-Err-clause-left g c =
    let told = g.F.Feed.lines c.args.feed.now in
    let now = g.F.Feed.lines c.loop-number.feed in
    let stops = rw c.loop-number.invariant.problem at c.in-Err.ensures.no in
    leaves_stop c.args.editions.now.problem told now (g.F.Feed.lines c.take_next.new.feed) (c.loop-number.number - 1) c.loop-number.editions.changes c.take_next.new.editions.changes c.in-Err.no c.loop-number.invariant.lines
    c.in-Err.ensures.same (rw (next_is c.loop-number.number c.loop-number.invariant.first) stops)

pub returns-clause-ok : goal.returns-clause-ok
returns-clause-ok g c = on_ok_weaker c.see_end.result
    (λ none. at_end c.args.editions.now.problem (g.F.Feed.lines c.args.feed.now) (g.F.Feed.lines c.loop-number.feed) (c.loop-number.number - 1) c.loop-number.editions.changes _ c.loop-number.invariant.lines none refl)
    c.see_end.ensures.ok

pub returns-clause-asks : goal.returns-clause-asks
returns-clause-asks g c = on_ok_weaker c.see_end.result
    (λ none. all_asked c.args.editions.now.problem (g.F.Feed.lines c.args.feed.now)
    (g.F.Feed.lines c.loop-number.feed) (c.loop-number.number - 1) c.loop-number.editions.changes _
    c.loop-number.invariant.lines c.loop-number.invariant.noted none) c.see_end.ensures.ok

pub returns-clause-few : goal.returns-clause-few
returns-clause-few g c = on_ok_weaker c.see_end.result
    (λ none. at_few c.args.editions.now.problem (g.F.Feed.lines c.args.feed.now) (g.F.Feed.lines c.loop-number.feed) (c.loop-number.number - 1) MOST_LINES c.loop-number.editions.changes c.loop-number.invariant.lines none (omega arith))
    c.see_end.ensures.ok

pub returns-clause-no : goal.returns-clause-no
returns-clause-no g c =
    let all : c.loop-number.number - 1 ≡ MOST_LINES = omega arith in
    let at = rw all at c.loop-number.invariant.lines in
    IfErr-weaker c.see_end.result _ _ (λ no refused. at_too_many c.args.editions.now.problem
    (g.F.Feed.lines c.args.feed.now) (g.F.Feed.lines c.loop-number.feed) _
    c.loop-number.editions.changes no at refused) c.see_end.ensures.no

pub returns-clause-left : goal.returns-clause-left
returns-clause-left g c =
    let all : c.loop-number.number - 1 ≡ MOST_LINES = omega arith in
    let at = rw all at c.loop-number.invariant.lines in
    IfErr-weaker c.see_end.result _ _ (λ no refused. leaves_too_many c.args.editions.now.problem (g.F.Feed.lines c.args.feed.now) (g.F.Feed.lines c.loop-number.feed) _ c.loop-number.editions.changes no at refused) c.see_end.ensures.no
