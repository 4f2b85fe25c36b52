use Rattle.std.proofs.Common.{rules, ◌≡◌, [], ◌∷◌}
use Rattle.worked_problems.specs.Worked.{two_windowed}
use Rattle.worked_problems.proofs.Made.{windows_made}
use Rattle.worked_problems.proofs.windows.two_windows.Goals as goal

pub invariant_of-result : goal.invariant_of-result
invariant_of-result c =
    let trains : c.from_vec.result ≡ two_windowed ∷ two_windowed ∷ [] = search rules in
    record { well_formed = rw (trains, c.new.ensures, c.new-2.ensures) windows_made }
