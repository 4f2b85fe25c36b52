use Rattle.search_workers.proofs.Keeping.{some_plan_beside}
use Rattle.search_workers.proofs.explorer.Explorer.move_to.Goals as goal

pub returns-clause-ready : goal.returns-clause-ready
returns-clause-ready c =
    let ready = c.requires.ready in
    record {
      known = c.go_to.ensures.known;
      guide = ready.guide;
      rehearser = ready.rehearser;
      found = some_plan_beside c.args.self.now.graph c.go_to.new.graph c.go_to.ensures.beside c.args.self.now.found ready.found;
    }
