use Rattle.std.proofs.Common.{arith}
use Rattle.std.proofs.lemmas.Bool.{true≢false}
use Rattle.cycle_witness.proofs.late_walks.late.Goals as goal

pub returns-clause-none : goal.returns-clause-none
returns-clause-none c =
    (λ e. absurd (true≢false e), λ all. absurd (omega (arith, all c.length.result c.length.ensures.longest)))
