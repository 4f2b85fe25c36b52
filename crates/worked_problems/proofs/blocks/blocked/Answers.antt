use Rattle.std.proofs.Common.{rules, ◌≡◌, [], ◌∷◌}
use Rattle.worked_problems.specs.Worked.{block_costs, blocked_trains}
use Rattle.worked_problems.proofs.Made.{blocked_made}
use Rattle.worked_problems.proofs.blocks.blocked.Goals as goal

pub invariant_of-result : goal.invariant_of-result
invariant_of-result c =
    let text = c.in_ok-resource.resource in
    let trains : c.from_vec.result ≡ blocked_trains c.args.upper c.args.release = search rules in
    let costs : c.from_vec-2.result ≡ block_costs = search rules in
    let names : c.from_vec-3.result ≡ text ∷ [] = search rules in
    record {
      well_formed =
          rw (trains, costs, names)
          (blocked_made c.args.upper c.args.release text c.requires.upper c.requires.release);
    }
