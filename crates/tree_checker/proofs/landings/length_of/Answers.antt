use Rattle.std.proofs.Common.{List, Some, subst, ◌≡◌}
use Rattle.std.specs.Prelude.{◌↔◌}
use Rattle.disp_model.specs.declared.train.Op.{Op}
use Rattle.disp_model.specs.Walks.{IsWalk}
use Rattle.tree_checker.specs.KnownNodes.{node_here}
use Rattle.tree_checker.proofs.SmallWalks.{found_small}
use Rattle.tree_checker.proofs.landings.length_of.Goals as goal

pub returns-clause-small : goal.returns-clause-small
returns-clause-small c =
    let node = node_here c.args.here in
    found_small node c.in_ok-first.first.now c.in_ok-first.rest.now c.walk_length.result c.lower_of-lower.result c.count_of-count.result c.lower_of-lower.ensures c.lower_of-lower.type_inv c.count_of-count.ensures c.count_of-count.type_inv
    (λ n. subst (λ (l : List Op). (c.walk_length.result ≡ Some n) ↔ IsWalk node l n) c.in_ok-first.ensures.cases.0 (c.walk_length.ensures n))
