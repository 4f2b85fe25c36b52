use Rattle.worked_problems.proofs.Made.{nothing_made}
use Rattle.worked_problems.proofs.windows.no_trains.Goals as goal

pub invariant_of-result : goal.invariant_of-result
invariant_of-result c =
    record { well_formed = rw (c.new.ensures, c.new-2.ensures, c.new-3.ensures) nothing_made }
