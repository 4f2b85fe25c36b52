use Rattle.std.proofs.Common.{◌≡◌, ◌<◌, ◌^◌}
use Rattle.instance_maker.specs.Draws.{state_before, pairs_of}
use Rattle.instance_maker.proofs.draws.pairs_of.Given as goal

abbrev pub invariant-loop : goal.invariant-loop
invariant-loop l = record {
  state : l.state ≡ state_before l.number l.counter;
  small : l.state < 2 ^ 31;
  pairs : l.pairs.items ≡ pairs_of l.number l.counter;
}
