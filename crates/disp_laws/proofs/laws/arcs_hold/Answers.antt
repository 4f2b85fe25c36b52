use Rattle.disp_laws.proofs.Arcs.{arc_holds}
use Rattle.disp_laws.proofs.laws.arcs_hold.Goals as goal

pub returns : goal.returns
returns c = λ node plan u v arc_length i j e f valid follows arc at starts there ends.
    let holds = arc_holds node plan u v arc_length i j e f valid follows arc (at, starts) (there, ends) in
    (holds.position, holds.time)
