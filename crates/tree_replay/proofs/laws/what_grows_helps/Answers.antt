use Rattle.tree_replay.proofs.Helping.{grown_helps}
use Rattle.tree_replay.proofs.laws.what_grows_helps.Goals as goal

pub returns : goal.returns
returns c = grown_helps
