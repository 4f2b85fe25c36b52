use Rattle.dispatch_core.proofs.Beginning.{first_sound}
use Rattle.dispatch_core.proofs.laws.first_cores_are_sound.Goals as goal

pub returns : goal.returns
returns c = first_sound
