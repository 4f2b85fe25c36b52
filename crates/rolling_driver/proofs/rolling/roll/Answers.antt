use Rattle.std.proofs.Common.{◌≡◌, ◌∙◌, ◌-◌, ◌++◌, ℕ, ap, List, All, drop, length, map, option_map, rules, take, sym, subst}
use Rattle.std.proofs.lemmas.List.{length-map}
use Rattle.std.proofs.lemmas.Result.{err_from_is_err_and}
use Rattle.disp_model.specs.declared.entry.Entry.{Entry}
use Rattle.disp_model.specs.declared.entry.Mark.{Mark}
use Rattle.text_puts.specs.Outside.{outside}
use Rattle.crew_runs.specs.declared.searcher.Searcher.{Searcher}
use Rattle.crew_runs.specs.Seats.{HaveRun}
use Rattle.crew_runs.proofs.Ended.{written}
use Rattle.feed_runs.specs.Readers.{HaveRead}
use Rattle.rolling_driver.specs.Ended.{MayEnd, IsEnded}
use Rattle.rolling_driver.specs.Rolled.{IsRolled, fed}
use Rattle.rolling_driver.specs.Status.{AreEnded, IsStatus}
use Rattle.rolling_driver.proofs.Whole.{rolled}
use Rattle.rolling_driver.proofs.Whose.{may_end, names_known}
use Rattle.rolling_driver.proofs.rolling.roll.Goals as goal

pub end_run-core-requires-clause-may : goal.end_run-core-requires-clause-may
end_run-core-requires-clause-may g c = λ lifetimes outlived.
    let run = c.in_ok-board.field-0 in let said = c.run_all-printed.ensures in
    let after = c.run_all-printed.new.readers in let hands = c.run_all-printed.new.searchers in
    let read = subst (λ l. HaveRead g.S.Feed.Feed.lines g.S.Feed.Feed.faults g.S.Feed.Feed.name l after) c.as_mut_slice.ensures.value said.readers in
    let ran = subst (λ (l : List Searcher). HaveRun l hands) c.as_mut_slice-2.ensures.value said.searchers in
    let readers_are = written run.readers.len run.readers.items after read.as_many (search rules) in
    let searchers_are = written run.searchers.len run.searchers.items hands ran.as_many (search rules) in
    subst (λ l. MayEnd run.board c.run_all-printed.new.first l (take run.searchers.len (hands ++ drop (length hands) run.searchers.items))) (sym readers_are)
    (subst (λ (l : List Searcher). MayEnd run.board c.run_all-printed.new.first after l) (sym searchers_are)
    (may_end g.S.Feed.Feed.name g.S.Feed.Feed.lines g.S.Feed.Feed.has_ended g.S.Feed.Feed.faults c.args.problem.now c.args.settings c.args.workers c.args.feeds.items run c.in_ok-board.ensures.opened
    c.run_all-printed.new.first said.watches after read hands ran))

pub end_run-core-requires-clause-known : goal.end_run-core-requires-clause-known
end_run-core-requires-clause-known g c = λ lifetimes outlived.
    let run = c.in_ok-board.field-0 in let said = c.run_all-printed.ensures in
    let after = c.run_all-printed.new.readers in let hands = c.run_all-printed.new.searchers in
    let read = subst (λ l. HaveRead g.S.Feed.Feed.lines g.S.Feed.Feed.faults g.S.Feed.Feed.name l after) c.as_mut_slice.ensures.value said.readers in
    let ran = subst (λ (l : List Searcher). HaveRun l hands) c.as_mut_slice-2.ensures.value said.searchers in
    subst (λ l. All (λ r. g.S.Shelf.knows c.run_all-printed.new.shelf (g.S.Feed.Feed.name r.feed)) l) (sym (written run.readers.len run.readers.items after read.as_many (search rules)))
    (names_known g.S.Feed.Feed.name g.S.Feed.Feed.lines g.S.Feed.Feed.has_ended g.S.Feed.Feed.faults c.args.problem.now c.args.settings c.args.workers c.args.feeds.items run c.in_ok-board.ensures.opened
    c.run_all-printed.new.first said.watches after read hands ran (g.S.Shelf.knows c.open_run.new.shelf) (g.S.Shelf.knows c.run_all-printed.new.shelf) said.known
    (subst (λ s. All (λ feed. g.S.Shelf.knows s (g.S.Feed.Feed.name feed)) c.args.feeds.items) (sym c.in_ok-board.ensures.same) c.requires.known))

pub returns : goal.returns
returns g c =
    let run = c.in_ok-board.field-0 in let said = c.run_all-printed.ensures in
    let after = c.run_all-printed.new.readers in let hands = c.run_all-printed.new.searchers in
    let read = subst (λ l. HaveRead g.S.Feed.Feed.lines g.S.Feed.Feed.faults g.S.Feed.Feed.name l after) c.as_mut_slice.ensures.value said.readers in
    let ran = subst (λ (l : List Searcher). HaveRun l hands) c.as_mut_slice-2.ensures.value said.searchers in
    let readers_are = written run.readers.len run.readers.items after read.as_many (search rules) in
    let searchers_are = written run.searchers.len run.searchers.items hands ran.as_many (search rules) in
    let trees = option_map (λ prefix. prefix.now) c.args.trees in
    let old = outside (g.S.Shelf.state c.open_run.new.shelf) (g.O.Sink.state c.args.out.now) in
    let mid = outside (g.S.Shelf.state c.run_all-printed.new.shelf) (g.O.Sink.state c.run_all-printed.new.out) in
    let new = outside (g.S.Shelf.state c.end_run-core.new.shelf) (g.O.Sink.state c.end_run-core.new.out) in
    let core = c.end_run-core.result.0 in let told = c.end_run-core.result.1 in let first = c.run_all-printed.new.first in
    let ended = subst (λ (l : List Searcher). IsEnded g.S.Feed.Feed.name g.S.Feed.Feed.faults trees first after l c.run_all-printed.result mid new core told) searchers_are
    (subst (λ l. IsEnded g.S.Feed.Feed.name g.S.Feed.Feed.faults trees first l (take run.searchers.len (hands ++ drop (length hands) run.searchers.items)) c.run_all-printed.result mid new core told) readers_are
    c.end_run-core.ensures.ended) in
    let noted = subst (λ l. AreEnded (map (λ r. r.reading) l) c.ended_of-ended.result) (c.as_slice.ensures.value ∙ readers_are) c.ended_of-ended.ensures in
    let status = c.status_of.ensures (map (λ r. r.reading) after) noted in
    let is = subst (λ (m : Mark). IsStatus m (map (λ r. r.reading) after) told c.status_of.result) c.standing-mark.ensures.mark status in
    let all = rolled g.S.Feed.Feed.name g.S.Feed.Feed.lines g.S.Feed.Feed.has_ended g.S.Feed.Feed.faults c.args.problem.now c.args.settings c.args.workers c.args.feeds.items run c.in_ok-board.ensures.opened
    first said.watches after read hands ran trees old mid new c.run_all-printed.result told core said.printed ended c.status_of.result is in
    record {
      rolled =
          subst (λ s. IsRolled c.args.problem.now c.args.settings trees (fed g.S.Feed.Feed.name g.S.Feed.Feed.lines c.args.feeds.items)
          (outside (g.S.Shelf.state s) (g.O.Sink.state c.args.out.now))
          new c.into_history.result.items c.status_of.result) c.in_ok-board.ensures.same
          (subst (λ (journal : List Entry). IsRolled c.args.problem.now c.args.settings trees (fed g.S.Feed.Feed.name g.S.Feed.Feed.lines c.args.feeds.items) old new journal c.status_of.result)
          (sym c.into_history.ensures) all);
      refused = search rules;
      still_known = λ name known. c.end_run-core.ensures.still_known name (said.known name (c.open_run.ensures.still_known name known));
      closed =
          let long = ap (λ l. length l) readers_are ∙ (read.as_many ∙ (sym (length-map run.readers.items (λ r. r.feed)) ∙ ap (λ l. length l) c.in_ok-board.ensures.opened.feeds_are)) in
          c.end_run-core.ensures.closed
          ∙ (ap (λ (n : ℕ). g.S.Shelf.open_feeds c.run_all-printed.new.shelf - n) long
          ∙ (ap (λ (n : ℕ). n - length c.args.feeds.items) said.feeds ∙ ap (λ s. g.S.Shelf.open_feeds s - length c.args.feeds.items) c.in_ok-board.ensures.same));
    }

pub returns-in_err-board-clause-refused : goal.returns-in_err-board-clause-refused
returns-in_err-board-clause-refused g c =
    let p = err_from_is_err_and c.from_residual.result c.from_residual.ensures.1 in
    let new = outside (g.S.Shelf.state c.open_run.new.shelf) (g.O.Sink.state c.args.out.now) in
    let old = outside (g.S.Shelf.state c.args.shelf.now) (g.O.Sink.state c.args.out.now) in
    let same : new ≡ old = λ i. record old { holds = λ name. c.in_err-board.ensures.held name i; reading = λ name. c.in_err-board.ensures.counts name i; putting = λ name. c.in_err-board.ensures.puttings name i } in
    rw p.1 same
