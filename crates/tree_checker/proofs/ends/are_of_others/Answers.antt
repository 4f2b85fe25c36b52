use Rattle.tree_checker.proofs.Ending.{of_others}
use Rattle.tree_checker.proofs.ends.are_of_others.Goals as goal

pub returns : goal.returns
returns c =
    let same = of_others c.args.problem.now c.args.walks.now c.args.trains.now in
    let each = c.each_of_other.ensures c.args.trains.now c.in_ok-numbers.ensures in
    (λ h. same.0 (each.0 h), λ h. each.1 (same.1 h))
