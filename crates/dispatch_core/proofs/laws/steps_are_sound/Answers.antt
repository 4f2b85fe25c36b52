use Rattle.dispatch_core.proofs.Stepping.{steps_sound}
use Rattle.dispatch_core.proofs.laws.steps_are_sound.Goals as goal

pub returns : goal.returns
returns c = steps_sound
