use Rattle.std.proofs.Common.{◌∙◌}
use Rattle.dispatch_core.specs.declared.event.CoreEvent.TheVariants as event
use Rattle.search_crew.proofs.Keeping.{at_work_on, entered_keeps, keeps_keeps}
use Rattle.crew_runs.proofs.Looking.{at_edition}
use Rattle.crew_runs.proofs.searcher.search_on.Goals as goal

pub search-answer-requires-clause-at : goal.search-answer-requires-clause-at
search-answer-requires-clause-at g c = λ lifetimes outlived.
    let said = c.in-Work.ensures in
    let on = entered_keeps c.loop.pass c.next-in-loop.new.pass said.board said.counts event.Next _ said.told in
    at_edition c.args.board.now c.args.rule c.in-Work.edition c.loop.pass c.next-in-loop.new.pass c.loop.invariant.at on said.told

pub returns-then-eq-clause-on : goal.returns-then-eq-clause-on
returns-then-eq-clause-on g c =
    let said = c.in-Work.ensures in
    let on = entered_keeps c.loop.pass c.next-in-loop.new.pass said.board said.counts event.Next _ said.told in
    keeps_keeps c.args.pass.now c.loop.pass c.search-answer.new.pass c.loop.invariant.on
    (keeps_keeps c.loop.pass c.next-in-loop.new.pass c.search-answer.new.pass on c.search-answer.ensures.on)

pub loop-preserved-else-eq : goal.loop-preserved-else-eq
loop-preserved-else-eq g c =
    let said = c.in-Work.ensures in
    let on = keeps_keeps c.loop.pass c.next-in-loop.new.pass c.search-answer.new.pass
    (entered_keeps c.loop.pass c.next-in-loop.new.pass said.board said.counts event.Next _ said.told) c.search-answer.ensures.on in
    record {
      at = at_work_on c.args.board.now c.args.rule 0 c.loop.pass c.search-answer.new.pass on c.loop.invariant.at;
      hand_of = c.search-answer.ensures.hand ∙ c.loop.invariant.hand_of;
      on = keeps_keeps c.args.pass.now c.loop.pass c.search-answer.new.pass c.loop.invariant.on on;
      hand = c.search-answer.ensures.hand ∙ c.loop.invariant.hand;
    }

pub loop-preserved : goal.loop-preserved
loop-preserved g c =
    let said = c.in-FeedsOpen.ensures in
    let on = entered_keeps c.loop.pass c.next-in-loop.new.pass said.board said.counts event.Next _ said.told in
    record {
      at = at_work_on c.args.board.now c.args.rule 0 c.loop.pass c.next-in-loop.new.pass on c.loop.invariant.at;
      hand_of = c.loop.invariant.hand_of;
      on = keeps_keeps c.args.pass.now c.loop.pass c.next-in-loop.new.pass c.loop.invariant.on on;
      hand = c.loop.invariant.hand;
    }
