use Rattle.std.proofs.Common.{◌≤◌, ℕ, List, None, subst, arith}
use Rattle.node_facts.specs.Ways.{IsLeastSuch, IsLeastOf, GoesOnward}
use Rattle.node_facts.proofs.Summing.{by_none, by_some, by_some_small, not_empty}
use Rattle.node_facts.proofs.sums.least_from.Goals as goal

pub returns-in-Some-clause-least : goal.returns-in-Some-clause-least
returns-in-Some-clause-least c =
    let operation = c.args.operation.now in
    let known = subst (λ (l : List ℕ). IsLeastSuch (GoesOnward c.args.places.now c.args.demands.now c.args.sums.now c.args.op l) c.in-Some.behind) c.as_slice.ensures c.in-Some.ensures in
    rw c.added.ensures.sum (by_some operation c.args.places.now c.args.demands.now c.args.sums.now c.args.op c.in-Some.behind (not_empty operation.next c.len.result c.len.ensures c.if-len-eq0.false) known)

pub returns-in-Some-clause-rises : goal.returns-in-Some-clause-rises
returns-in-Some-clause-rises c most small =
    let least : c.in-Some.behind ≤ most = by_some_small c.args.places.now c.args.demands.now c.args.sums.now c.args.op c.in-Some.behind most c.as_slice.result.now c.in-Some.ensures small in
    omega (arith, least, c.added.ensures.small)

pub returns-in-None-clause-least : goal.returns-in-None-clause-least
returns-in-None-clause-least c =
    let operation = c.args.operation.now in
    let known = subst (λ (l : List ℕ). IsLeastOf (GoesOnward c.args.places.now c.args.demands.now c.args.sums.now c.args.op l) None) c.as_slice.ensures c.in-None.ensures in
    by_none operation c.args.places.now c.args.demands.now c.args.sums.now c.args.op (not_empty operation.next c.len.result c.len.ensures c.if-len-eq0.false) known
