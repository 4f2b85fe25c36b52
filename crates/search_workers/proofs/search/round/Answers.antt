use Rattle.search_workers.proofs.GoingOn.{on_on}
use Rattle.search_workers.proofs.search.round.Goals as goal

pub returns-in_err-rehearse_on-clause-on : goal.returns-in_err-rehearse_on-clause-on
returns-in_err-rehearse_on-clause-on c =
    on_on c.args.core.now c.look_on.new.core c.rehearse_on.new.core c.look_on.ensures.on c.rehearse_on.ensures.on

pub returns-clause-on : goal.returns-clause-on
returns-clause-on c =
    let ahead = on_on c.args.core.now c.look_on.new.core c.rehearse_on.new.core c.look_on.ensures.on c.rehearse_on.ensures.on in
    on_on c.args.core.now c.rehearse_on.new.core c.grow_next.new.core ahead c.grow_next.ensures.on
