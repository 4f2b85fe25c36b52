-- the numbers so far, each once
use Rattle.std.proofs.Common.{◌≡◌, take, fold, []}
use Rattle.std.specs.Prelude.{nat_eq}
use Rattle.displib_reader.specs.Names.{with_new}
use Rattle.displib_reader.proofs.operation.set_of.Given as goal

abbrev pub invariant-loop-number : goal.invariant-loop-number
invariant-loop-number l = l.set.keys ≡ fold (with_new nat_eq) [] (take l.number-index l.numbers)
