use Rattle.std.proofs.lemmas.Result.{IfOk-weaker}
use Rattle.search_workers.proofs.Keeping.{some_plan_beside}
use Rattle.search_workers.proofs.explorer.Explorer.rehearse_here.Goals as goal

pub returns-clause-ready : goal.returns-clause-ready
returns-clause-ready c =
    let ready = c.requires.ready in
    record {
      known = c.rehearse.ensures.known;
      guide = ready.guide;
      rehearser = c.rehearse.ensures.guide;
      found = some_plan_beside c.args.self.now.graph c.rehearse.new.graph c.rehearse.ensures.beside c.args.self.now.found ready.found;
    }

pub returns-clause-plan : goal.returns-clause-plan
returns-clause-plan c = IfOk-weaker c.rehearse.result _ _
    (λ rehearsed is. some_plan_beside c.args.self.now.graph c.rehearse.new.graph c.rehearse.ensures.beside rehearsed.plan is)
    c.rehearse.ensures.plan
