use Rattle.disp_laws.proofs.OpenChoices.{picked_not_none}
use Rattle.disp_laws.proofs.Choosing.{picked_or_none, nothing_open_is_valid}
use Rattle.disp_laws.proofs.laws.something_is_picked.Goals as goal

pub returns : goal.returns
returns c = record { some = picked_or_none; one = picked_not_none; closed = nothing_open_is_valid }
