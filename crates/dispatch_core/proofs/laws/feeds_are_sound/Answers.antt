use Rattle.dispatch_core.proofs.Asking.{asks_sound, unread_sound, shows_sound, ends_sound, leaves_sound}
use Rattle.dispatch_core.proofs.laws.feeds_are_sound.Goals as goal

pub returns : goal.returns
returns c = record { asks = asks_sound; unread = unread_sound; shows = shows_sound; ends = ends_sound; leaves = leaves_sound }
