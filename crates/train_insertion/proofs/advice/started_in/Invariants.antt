-- what the starts so far do not say, the others do
use Rattle.std.proofs.Common.{◌≡◌, drop}
use Rattle.train_insertion.specs.Targets.{started_in}
use Rattle.train_insertion.proofs.advice.started_in.Given as goal

abbrev pub invariant-loop-start : goal.invariant-loop-start
invariant-loop-start l = started_in l.run l.op ≡ started_in (drop l.start-index l.run) l.op
