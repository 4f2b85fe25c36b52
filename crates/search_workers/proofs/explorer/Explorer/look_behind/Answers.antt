use Rattle.search_workers.proofs.Keeping.{some_plan_beside}
use Rattle.search_workers.proofs.explorer.Explorer.look_behind.Goals as goal

pub keep-requires-clause-plan : goal.keep-requires-clause-plan
keep-requires-clause-plan c =
    some_plan_beside c.args.self.now.graph c.look_from_root.new.self.graph c.look_from_root.ensures.beside _ c.in_ok-plan.ensures.plan
