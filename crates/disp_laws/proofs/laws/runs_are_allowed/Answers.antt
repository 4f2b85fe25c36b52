use Rattle.disp_laws.proofs.Arcs.{run_allowed}
use Rattle.disp_laws.proofs.laws.runs_are_allowed.Goals as goal

pub returns : goal.returns
returns c = run_allowed
