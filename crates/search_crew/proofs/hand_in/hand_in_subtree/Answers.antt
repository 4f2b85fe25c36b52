use Rattle.search_crew.proofs.Handing.{plan_on}
use Rattle.search_crew.proofs.hand_in.hand_in_subtree.Goals as goal

pub publish-requires-clause-plan : goal.publish-requires-clause-plan
publish-requires-clause-plan g c =
    λ found same. plan_on c.args.pass.now c.put_in.new.pass c.put_in.ensures.goes c.args.fragment.work.edition found (c.requires.plan found same)
