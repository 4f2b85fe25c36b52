use Rattle.search_crew.proofs.Keeping.{entered_keeps}
use Rattle.search_crew.proofs.hand_in.publish.Goals as goal

pub returns-in-Published-clause-on : goal.returns-in-Published-clause-on
returns-in-Published-clause-on g c =
    entered_keeps c.args.pass.now c.publish.new.pass c.in_ok-cost.ensures.board
    c.in_ok-cost.ensures.counts _ _ c.in_ok-cost.ensures.told

pub publish-requires-clause-plan : goal.publish-requires-clause-plan
publish-requires-clause-plan g c = c.requires.plan c.in-Some.plan c.in-Some.is
