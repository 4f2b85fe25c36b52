use Rattle.std.proofs.Common.{◌≡◌, ℕ}
use Rattle.instance_maker.specs.Draws.{pairs_of}
use Rattle.instance_maker.specs.Made.{made_components, pair_count}
use Rattle.instance_maker.proofs.problem.components_of.Given as goal

abbrev pub invariant-loop-t : goal.invariant-loop-t
invariant-loop-t l = (number : ℕ) → l.pairs ≡ pairs_of number (pair_count l.count)
    → l.components ≡ made_components number l.t
