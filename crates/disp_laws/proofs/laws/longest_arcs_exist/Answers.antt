use Rattle.disp_laws.proofs.LongestArcs.{longest_arc}
use Rattle.disp_laws.proofs.laws.longest_arcs_exist.Goals as goal

pub returns : goal.returns
returns c = longest_arc
