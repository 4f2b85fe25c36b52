-- what the starts so far do not say, the others do
use Rattle.std.proofs.Common.{◌≡◌, false, drop}
use Rattle.train_insertion.specs.Targets.{followed_in}
use Rattle.train_insertion.proofs.advice.followed_in.Given as goal

abbrev pub invariant-loop-start : goal.invariant-loop-start
invariant-loop-start l = followed_in false l.run l.op ≡ followed_in l.here (drop l.start-index l.run) l.op
