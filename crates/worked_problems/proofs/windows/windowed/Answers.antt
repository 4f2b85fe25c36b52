use Rattle.std.proofs.Common.{rules, ◌≡◌, [], ◌∷◌}
use Rattle.worked_problems.specs.Worked.{worked_component, windowed_train}
use Rattle.worked_problems.proofs.Made.{windowed_made}
use Rattle.worked_problems.proofs.windows.windowed.Goals as goal

pub invariant_of-result : goal.invariant_of-result
invariant_of-result c =
    let trains : c.from_vec.result ≡ windowed_train c.args.lower c.args.upper ∷ [] = search rules in
    let costs : c.from_vec-2.result ≡ worked_component 0 0 c.args.coeff 0 ∷ [] = search rules in
    record {
      well_formed =
          rw (trains, costs, c.new-3.ensures)
          (windowed_made c.args.lower c.args.coeff c.args.upper c.requires.lower c.requires.upper c.requires.coeff);
    }
