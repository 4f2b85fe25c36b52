use Rattle.disp_laws.proofs.Branching.{covers}
use Rattle.disp_laws.proofs.laws.branching_covers.Goals as goal

pub returns : goal.returns
returns c = covers
