use Rattle.joined_passes.proofs.Owning.{none_of}
use Rattle.joined_passes.proofs.laws.no_other_entries.Goals as goal

pub returns : goal.returns
returns c first others history caller are other = none_of first others history are caller other
