use Rattle.disp_laws.proofs.Arcs.{forced_is_run}
use Rattle.disp_laws.proofs.laws.forced_are_run.Goals as goal

pub returns : goal.returns
returns c = λ node plan o valid follows forced.
    let run = forced_is_run node plan o valid follows forced in
    (run.0, run.1, run.2.0, run.2.1)
