use Rattle.joined_passes.proofs.Owning.{own_all}
use Rattle.joined_passes.proofs.laws.own_entries.Goals as goal

pub returns : goal.returns
returns c = own_all
