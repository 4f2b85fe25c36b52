use Rattle.history_laws.proofs.Appended.{front_stays, fixings_stay, newest_front, fixings_then}
use Rattle.history_laws.proofs.laws.fronts_stay.Goals as goal

pub returns : goal.returns
returns c = record { front = front_stays; fixings = fixings_stay; newest = newest_front; then = fixings_then }
