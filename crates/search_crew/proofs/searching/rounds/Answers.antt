use Rattle.std.proofs.Common.{◌∙◌}
use Rattle.disp_model.specs.History.{fixings_after}
use Rattle.shared_board.specs.Board.{problem_of, known}
use Rattle.search_crew.proofs.Grounding.{ground_on}
use Rattle.search_crew.proofs.Keeping.{at_work_on, keeps_keeps}
use Rattle.search_crew.proofs.searching.rounds.Goals as goal

pub loop-preserved : goal.loop-preserved
loop-preserved g c =
    let inv = c.loop.invariant in let on = c.round.ensures.on in let edition = c.args.edition in
    let fixings = fixings_after edition (known c.loop.pass).seen in
    record {
      at = at_work_on c.args.board.now c.args.reckoning.now.rule edition c.loop.pass c.round.new.pass on inv.at;
      hand_of = c.round.ensures.hand ∙ inv.hand_of;
      ground = ground_on edition c.loop.pass c.round.new.pass on inv.at.edition_is (problem_of c.args.board.now) c.round.new.ground (c.round.ensures.ground fixings inv.ground);
      on = keeps_keeps c.args.pass.now c.loop.pass c.round.new.pass inv.on on;
      hand = c.round.ensures.hand ∙ inv.hand;
    }
