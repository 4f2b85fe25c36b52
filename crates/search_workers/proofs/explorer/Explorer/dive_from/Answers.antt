use Rattle.search_workers.proofs.Keeping.{some_plan_beside}
use Rattle.search_workers.proofs.explorer.Explorer.dive_from.Goals as goal

pub returns-clause-ready : goal.returns-clause-ready
returns-clause-ready c =
    let ready = c.requires.ready in
    record {
      known = c.grow-growth.ensures.known;
      guide = c.note_growth.ensures;
      rehearser = ready.rehearser;
      found = some_plan_beside c.args.self.now.graph c.grow-growth.new.graph c.grow-growth.ensures.beside c.args.self.now.found ready.found;
    }
