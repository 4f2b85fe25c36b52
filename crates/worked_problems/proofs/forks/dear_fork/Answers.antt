use Rattle.std.proofs.Common.{rules, ◌≡◌, [], ◌∷◌}
use Rattle.worked_problems.specs.Worked.{dear_fork_costs, forking_train}
use Rattle.worked_problems.proofs.Made.{dear_fork_made}
use Rattle.worked_problems.proofs.forks.dear_fork.Goals as goal

pub invariant_of-result : goal.invariant_of-result
invariant_of-result c =
    let trains : c.from_vec.result ≡ forking_train ∷ [] = search rules in
    let costs : c.from_vec-2.result ≡ dear_fork_costs = search rules in
    record { well_formed = rw (trains, costs, c.new.ensures) dear_fork_made }
