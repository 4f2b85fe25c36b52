use Rattle.dispatch_core.proofs.Publishing.{publishes_sound}
use Rattle.dispatch_core.proofs.Settled.{settles_sound}
use Rattle.dispatch_core.proofs.Stopping.{stops_sound}
use Rattle.dispatch_core.proofs.laws.verdicts_are_sound.Goals as goal

pub returns : goal.returns
returns c = record { publishes = publishes_sound; settles = settles_sound; stops = stops_sound }
