use Rattle.disp_laws.proofs.Ends.{entered_once, left_once}
use Rattle.disp_laws.proofs.laws.trains_have_ends.Goals as goal

pub returns : goal.returns
returns c = record { entry = entered_once; exit = left_once }
